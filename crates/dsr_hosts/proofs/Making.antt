-- How calls make an operation.
use Rattle.std.proofs.Common.{◌≡◌, ℕ, List, Option, None, Some, inl, inr, refl, sym, subst, ap}
use Rattle.std.specs.Prelude.{IsSome}
use Rattle.std.proofs.lemmas.Bool.{false≢true}
use Rattle.std.specs.Option.{option_or}
use Rattle.dsr_names.specs.Shape.{Shape}
use Rattle.dsr_names.specs.declared.actor.Actor.{Actor}
use Rattle.dsr_names.specs.declared.actor.Actor.TheVariants.{Client}
use Rattle.dsr_names.specs.declared.refusal.Refusal.{Refusal}
use Rattle.dsr_request.specs.declared.op.Op.{Op}
use Rattle.dsr_ledger.specs.declared.reply.Reply.{Reply as AReply}
use Rattle.dsr_chain.specs.declared.signed_request.SignedRequest.{SignedRequest}
use Rattle.dsr_envelope.specs.declared.entry.Entry.{Entry}
use Rattle.dsr_client.specs.State.{outstanding}
use Rattle.dsr_node.specs.Conduct.{is_traitor_of}
use Rattle.dsr_boxes.specs.Pass.{Pass}
use Rattle.dsr_calls.specs.Calls.{GoesOn, number_of, awaited, IsAwaited, IsAnswered}
use Rattle.dsr_calls.specs.Limits.{CallRefusal}
use Rattle.dsr_rounds.specs.Ends.{HostRefusal}
use Rattle.dsr_hosts.specs.Causes.{ClientRefusal}
use Rattle.dsr_hosts.specs.Requests.{next_ask, IsOnItsWay, HasMade, IsMaking}

-- the laws of calls that follow each other
abbrev pub AwaitedLaw : Type 0
AwaitedLaw = (shape : Shape) (ask : SignedRequest) (older log later : List Entry) → IsAwaited shape ask older log → IsAwaited shape ask log later
    → IsAwaited shape ask older later

abbrev pub AnsweredLaw : Type 0
AnsweredLaw = (shape : Shape) (ask : SignedRequest) (older log later : List Entry) (reply : AReply) → IsAwaited shape ask older log
    → IsAnswered shape ask log later reply → IsAnswered shape ask older later reply

abbrev pub AgainLaw : Type 0
AgainLaw = (shape : Shape) (me : ℕ) (older log : List Entry) (op : Option Op) (ask : SignedRequest) → awaited shape me older op ≡ Some ask
    → IsAwaited shape ask older log → awaited shape me log op ≡ Some ask

-- if nothing is outstanding, what a call awaits is the next request
awaits_next : (seat : Pass) (op : Op) → outstanding seat.shape seat.log ≡ None
    → awaited seat.shape (number_of seat.actor) seat.log (Some op) ≡ Some (next_ask seat op)
awaits_next seat op idle = ap (λ o. option_or o (Some (next_ask seat op))) idle

-- the outstanding request is awaited by any call
any_call : (o a b : Option SignedRequest) (ask : SignedRequest) → option_or o a ≡ Some ask → IsSome o → option_or o b ≡ Some ask
any_call None a b ask is some = absurd (false≢true some)
any_call (Some x) a b ask is some = is

-- what is awaited is the request of the operation, which is on its way
pub awaits_same : AgainLaw → (op : Op) (first seat : Pass) → IsMaking op first seat
    → awaited seat.shape (number_of seat.actor) seat.log (Some op) ≡ Some (next_ask first op)
awaits_same again op first seat making = elim making.way [
  | inl same ↦ subst (λ s. awaited s.shape (number_of s.actor) s.log (Some op) ≡ Some (next_ask first op)) (sym same) (awaits_next first op making.idle)
  | inr is ↦
      subst (λ s. awaited s (number_of seat.actor) seat.log (Some op) ≡ Some (next_ask first op)) (sym making.goes.shape)
      (subst (λ a. awaited first.shape (number_of a) seat.log (Some op) ≡ Some (next_ask first op)) (sym making.goes.actor)
      (again first.shape (number_of first.actor) first.log seat.log (Some op) (next_ask first op) (awaits_next first op making.idle) is))
]

pub awaits_outstanding : AgainLaw → (op : Op) (first seat : Pass) → IsMaking op first seat → IsSome (outstanding seat.shape seat.log)
    → awaited seat.shape (number_of seat.actor) seat.log None ≡ Some (next_ask first op)
awaits_outstanding again op first seat making some =
    any_call (outstanding seat.shape seat.log) _ _ (next_ask first op) (awaits_same again op first seat making) some

-- a reply to it answers the operation
pub answers_it : AnsweredLaw → (op : Op) (first seat new : Pass) (reply : AReply) → IsMaking op first seat
    → IsAnswered seat.shape (next_ask first op) seat.log new.log reply → HasMade op first new
answers_it answered op first seat new reply making is = elim making.way [
  | inl same ↦ (reply, subst (λ s. IsAnswered s.shape (next_ask first op) s.log new.log reply) same is)
  | inr before ↦ (
    reply,
    answered first.shape (next_ask first op) first.log seat.log new.log reply before
        (subst (λ s. IsAnswered s (next_ask first op) seat.log new.log reply) making.goes.shape is),
  )
]

-- and without one it is still on its way
pub keeps_it : AwaitedLaw → (op : Op) (first seat new : Pass) → IsMaking op first seat
    → IsAwaited seat.shape (next_ask first op) seat.log new.log → IsOnItsWay op first new
keeps_it follows op first seat new making is = elim making.way [
  | inl same ↦ inr (subst (λ s. IsAwaited s.shape (next_ask first op) s.log new.log) same is)
  | inr before ↦ inr (
      follows first.shape (next_ask first op) first.log seat.log new.log before
      (subst (λ s. IsAwaited s (next_ask first op) seat.log new.log) making.goes.shape is)
      )
]

-- what refuses a call of a client refuses its host
pub refuses_client : (may : Actor → Type 0) (seat : Pass) (client : ℕ) (refusal : Refusal) → seat.actor ≡ Client client → CallRefusal seat refusal
    → ClientRefusal may seat refusal
refuses_client may seat client refusal is (inl past) = inl (subst (HostRefusal may seat) (sym past.0) (inl (
  ap (is_traitor_of seat.shape) is,
  past.1,
)))
refuses_client may seat client refusal is (inr (inl unanswered)) = inr unanswered
refuses_client may seat client refusal is (inr (inr memory)) = inl (subst (HostRefusal may seat) (sym memory) tt)

-- a seat with nothing outstanding is about to make the operation
pub first_making : (op : Op) (seat : Pass) → outstanding seat.shape seat.log ≡ None → GoesOn seat seat → IsMaking op seat seat
first_making op seat idle goes = record { goes = goes; idle = idle; way = inl refl }

-- Nothing that a client accepts, sees or asks depends on who is a traitor.
use Rattle.std.proofs.Common.{◌≡◌, ◌<◌, ℕ, suc, ◌==◌, max, List, [], ◌∷◌, Option, None, Some, length, if◌then◌else◌, refl, ap, ap₂, sym, ◌∙◌, subst}
use Rattle.std.specs.Option.{option_map}
use Rattle.dsr_names.specs.Shape.{Shape, IsActor, AgreeButForTraitors}
use Rattle.dsr_names.specs.declared.actor.Actor.{Actor}
use Rattle.dsr_names.specs.declared.actor.Actor.TheVariants.{Replica, Client}
use Rattle.dsr_ledger.specs.declared.reply.Reply.{Reply as AReply}
use Rattle.dsr_chain.specs.declared.signed_request.SignedRequest.{SignedRequest}
use Rattle.dsr_quorum.specs.Votes.{winner}
use Rattle.dsr_envelope.specs.declared.envelope.Envelope.{Envelope}
use Rattle.dsr_envelope.specs.declared.envelope.Envelope.TheVariants.{Empty, Round, Ask, Reply, Seen}
use Rattle.dsr_envelope.specs.declared.entry.Entry.{Entry}
use Rattle.dsr_envelope.specs.declared.entry.Entry.TheVariants.{Post, Take}
use Rattle.dsr_envelope.specs.declared.pick.Pick.{Pick}
use Rattle.dsr_client.specs.Conduct.{chosen_beside, ask_to, IsNext, IsClientLog}
use Rattle.dsr_client.specs.State.{State, settled, with_note, replied_beside, with_post, with_take, state_after, front_of, told, seen}

module _ (shape other : Shape) (agree : AgreeButForTraitors shape other) where
  replied_blind : (o : Option SignedRequest) (p : ℕ) (reply : AReply) (state : State)
      → replied_beside o shape p reply state ≡ replied_beside o other p reply state
  replied_blind None p reply state = refl
  replied_blind (Some ask) p reply state =
      ap₂ (λ f n. if reply.number == ask.request.number
      then settled (winner f n (record { replica = p; reply = reply } ∷ state.notes)) (with_note p reply state) else state)
      agree.most_traitors agree.replicas

  take_blind : (p : ℕ) (envelope : Envelope) (state : State) → with_take shape p envelope state ≡ with_take other p envelope state
  take_blind p Empty state = refl
  take_blind p (Round round chains) state = refl
  take_blind p (Ask ask) state = refl
  take_blind p (Reply reply) state = replied_blind state.outstanding p reply state
  take_blind p (Seen front) state = refl

  pub state_blind : (log : List Entry) → state_after shape log ≡ state_after other log
  state_blind [] = refl
  state_blind (Post (Replica q) envelope ∷ older) = ap (with_post envelope) (state_blind older)
  state_blind (Post (Client c) envelope ∷ older) = state_blind older
  state_blind (Take (Replica p) envelope ∷ older) =
      take_blind p envelope (state_after shape older) ∙ ap (with_take other p envelope) (state_blind older)
  state_blind (Take (Client c) envelope ∷ older) = state_blind older

  pub seen_blind : (log : List Entry) → seen shape log ≡ seen other log
  seen_blind log = ap (λ s. max (front_of s.accepted) (told log)) (state_blind log)

  pub ask_blind : (me : ℕ) (log : List Entry) (pick : Pick) → ask_to shape me log pick ≡ ask_to other me log pick
  ask_blind me log pick = ap (λ s. option_map Ask (chosen_beside s.outstanding me (suc (length s.accepted)) pick)) (state_blind log)

  pub actor_blind : (a : Actor) → IsActor shape a → IsActor other a
  actor_blind (Replica r) inside = subst (λ n. r < n) agree.replicas inside
  actor_blind (Client c) inside = subst (λ m. c < m) agree.clients inside

  pub next_blind : (me : ℕ) (log : List Entry) (entry : Entry) → IsNext shape me log entry → IsNext other me log entry
  next_blind me log (Post (Replica q) envelope) next =
      (subst (λ n. q < n) agree.replicas next.0, (next.1.0, sym (ask_blind me log next.1.0) ∙ next.1.1))
  next_blind me log (Post (Client c) envelope) next = (subst (λ m. c < m) agree.clients next.0, next.1, next.2 ∙ ap Seen (seen_blind log))
  next_blind me log (Take from envelope) next = (actor_blind from next.0, next.1)

  pub conduct_blind : (me : ℕ) (log : List Entry) → IsClientLog shape me log → IsClientLog other me log
  conduct_blind me [] loyal = tt
  conduct_blind me (entry ∷ older) loyal = (conduct_blind me older loyal.0, next_blind me older entry loyal.1)

-- How a client makes its operations, one after another.
use Rattle.std.proofs.Common.{◌≡◌, ℕ, suc, ◌+◌, ◌<◌, ◌++◌, List, [], ◌∷◌, get_or, take, length, inl, inr, refl, sym, subst, ap, ◌∙◌, arith}
use Rattle.std.specs.Prelude.{Result, Ok, Err, OnErr, reverse}
use Rattle.std.proofs.lemmas.List.{append_assoc, length-reverse, length-take-le, reverse-append, take_more}
use Rattle.dsr_base.specs.Growth.{Extends}
use Rattle.dsr_base.specs.Member.{In}
use Rattle.dsr_base.proofs.MemberLemmas.{In-append_right}
use Rattle.dsr_names.specs.Shape.{Shape}
use Rattle.dsr_names.specs.declared.actor.Actor.TheVariants.{Client}
use Rattle.dsr_request.specs.declared.op.Op.{Op}
use Rattle.dsr_ledger.specs.declared.reply.Reply.{Reply as AReply}
use Rattle.dsr_envelope.specs.declared.entry.Entry.{Entry}
use Rattle.dsr_client.specs.Conduct.{ask_of, next_number}
use Rattle.dsr_client.specs.State.{accepted}
use Rattle.dsr_script.specs.Script.{Script, ops_of}
use Rattle.dsr_boxes.specs.Pass.{Pass}
use Rattle.dsr_calls.specs.Calls.{GoesOn, number_of, IsAnswered}
use Rattle.dsr_rounds.specs.declared.end.End.{End}
use Rattle.dsr_hosts.specs.Causes.{IsUnserved}
use Rattle.dsr_hosts.specs.Requests.{HasMade, IsOnItsWay}
use Rattle.dsr_hosts.specs.Served.{AreRepliesTo, HasAll}

-- replies stay those to their operations in a longer log
replies_stay : (me : ℕ) (old new : List Entry) → Extends new old → (replies : List AReply) (ops : List Op) → AreRepliesTo me old replies ops
    → AreRepliesTo me new replies ops
replies_stay me old new longer [] [] are = tt
replies_stay me old new longer [] (op ∷ ops) are = are
replies_stay me old new longer (reply ∷ replies) [] are = are
replies_stay me old new longer (reply ∷ replies) (op ∷ ops) are = (
  record {
    number_is = are.0.number_is;
    replica = are.0.replica;
    posted = subst (In _) (sym longer.1) (In-append_right _ longer.0 old are.0.posted);
  },
  replies_stay me old new longer replies ops are.1,
)

-- a client that has all has all after the next operation too
served_more : (shape : Shape) (me : ℕ) (old new : List Entry) (ops : List Op) (op : Op) (reply : AReply) → HasAll shape me old ops → Extends new old
    → IsAnswered shape (ask_of me (next_number shape old) op) old new reply → HasAll shape me new (ops ++ op ∷ [])
served_more shape me old new ops op reply all longer is = record {
  none = is.done;
  replies = subst (λ replies. AreRepliesTo me new replies (reverse (ops ++ op ∷ []))) (sym is.last)
      (subst (AreRepliesTo me new (reply ∷ accepted shape old)) (sym (reverse-append ops (op ∷ []))) (
        record { number_is = is.number; replica = is.begun.replica; posted = is.begun.posted },
        replies_stay me old new longer (accepted shape old) (reverse ops) all.replies,
      ));
}

-- the same over seats
pub makes_more : (old new : Pass) (ops : List Op) (op : Op) → HasAll old.shape (number_of old.actor) old.log ops → GoesOn new old → HasMade op old new
    → HasAll new.shape (number_of new.actor) new.log (ops ++ op ∷ [])
makes_more old new ops op all goes made =
    subst (λ s. HasAll s (number_of new.actor) new.log (ops ++ op ∷ [])) (sym goes.shape)
    (subst (λ a. HasAll old.shape (number_of a) new.log (ops ++ op ∷ [])) (sym goes.actor)
    (served_more old.shape (number_of old.actor) old.log new.log ops op made.0 all goes.log made.1))

-- at first there is nothing to have
pub first_all : (seat : Pass) → seat.log ≡ [] → HasAll seat.shape (number_of seat.actor) seat.log []
first_all seat is = subst (λ l. HasAll seat.shape (number_of seat.actor) l []) (sym is) (record { none = refl; replies = tt })

-- seats that go on one after the other
pub goes_on : (later seat first : Pass) → GoesOn later seat → GoesOn seat first → GoesOn later first
goes_on later seat first second one = record {
  id = second.id ∙ one.id;
  shape = second.shape ∙ one.shape;
  actor = second.actor ∙ one.actor;
  log = (second.log.0 ++ one.log.0, second.log.1 ∙ (ap (λ l. second.log.0 ++ l) one.log.1 ∙ sym (append_assoc second.log.0 one.log.0 first.log)));
}

pub goes_same : (seat : Pass) → GoesOn seat seat
goes_same seat = record { id = refl; shape = refl; actor = refl; log = ([], refl) }

-- and over the operations of a list up to a place
pub makes_next : (first old new : Pass) (items : List Op) (i : ℕ) (op : Op) → i < length items → op ≡ get_or items i op
    → GoesOn old first × HasAll old.shape (number_of old.actor) old.log (take i items) → GoesOn new old → HasMade op old new
    → GoesOn new first × HasAll new.shape (number_of new.actor) new.log (take (i + 1) items)
makes_next first old new items i op inside is before goes made =
    let next : take i items ++ op ∷ [] ≡ take (i + 1) items =
    ap (λ y. take i items ++ y ∷ []) is ∙ sym (take_more items i op inside) in (
      goes_on new old first goes before.0,
      subst (HasAll new.shape (number_of new.actor) new.log) next (makes_more old new (take i items) op before.1 goes made),
    )

-- ---- a client whose operation is not answered

-- nothing more is accepted while an operation is on its way
pub same_on_way : (op : Op) (first seat : Pass) → GoesOn seat first → IsOnItsWay op first seat
    → accepted seat.shape seat.log ≡ accepted first.shape first.log
same_on_way op first seat goes (inl same) = ap (λ (s : Pass). accepted s.shape s.log) same
same_on_way op first seat goes (inr (inl unbegun)) = ap (λ s. accepted s seat.log) goes.shape ∙ unbegun.same
same_on_way op first seat goes (inr (inr begun)) = ap (λ s. accepted s seat.log) goes.shape ∙ begun.same

-- there are as many replies as operations
replies_length : (me : ℕ) (log : List Entry) (replies : List AReply) (ops : List Op) → AreRepliesTo me log replies ops → length replies ≡ length ops
replies_length me log [] [] are = refl
replies_length me log [] (op ∷ ops) are = absurd are
replies_length me log (reply ∷ replies) [] are = absurd are
replies_length me log (reply ∷ replies) (op ∷ ops) are = ap suc (replies_length me log replies ops are.1)

fewer_of : (k i n : ℕ) → k ≡ i → i < n → k < n
fewer_of k i n is less = omega (arith, is, less)

-- so a client that has the replies to those up to one of them, and to no more, is not served
pub left_at : (script : Script) (old new : Pass) (items : List Op) (i client : ℕ) → new.actor ≡ Client client → items ≡ ops_of script client
    → i < length items → HasAll old.shape (number_of old.actor) old.log (take i items) → accepted new.shape new.log ≡ accepted old.shape old.log
    → IsUnserved script new
left_at script old new items i client me items_are inside all same = record {
  client = client;
  is = me;
  fewer = subst (λ (ops : List Op). length (accepted new.shape new.log) < length ops) items_are
      (fewer_of (length (accepted new.shape new.log)) i (length items) (ap length same
      ∙ (replies_length (number_of old.actor) old.log (accepted old.shape old.log) (reverse (take i items)) all.replies
      ∙ (length-reverse (take i items) ∙ length-take-le i items (omega (arith, inside))))) inside);
}

-- what holds however it came out
pub at_end : {A : Type 0} (r : Result (Unit {0}) End) → A → OnErr r A
at_end (Ok nothing) h = tt
at_end (Err end) h = h

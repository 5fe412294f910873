-- How a client's seat goes on knowing which replicas it asked.
use Rattle.std.proofs.Common.{◌≡◌, ℕ, ◌<◌, Bool, true, false, List, ◌∷◌, Option, None, Some, length, ◌⊎◌, inl, inr, refl, ap, sym, ◌∙◌, arith}
use Rattle.std.specs.Prelude.{◌↔◌, slice_set}
use Rattle.std.specs.Option.{option_map}
use Rattle.std.proofs.lemmas.Bool.{cases_eq, false≢true}
use Rattle.std.proofs.lemmas.List.{get_or-replicate, get_or-set_same, get_or-set_other}
use Rattle.std.proofs.lemmas.Option.{none-some, same_Some}
use Rattle.dsr_base.specs.Member.{In, here, there}
use Rattle.dsr_names.specs.Shape.{Shape}
use Rattle.dsr_names.specs.declared.actor.Actor.{Actor}
use Rattle.dsr_names.specs.declared.actor.Actor.TheVariants.{Replica, Client}
use Rattle.dsr_ledger.specs.declared.reply.Reply.{Reply as AReply}
use Rattle.dsr_chain.specs.declared.signed_request.SignedRequest.{SignedRequest}
use Rattle.dsr_envelope.specs.declared.envelope.Envelope.{Envelope}
use Rattle.dsr_envelope.specs.declared.envelope.Envelope.TheVariants.{Ask, Seen}
use Rattle.dsr_envelope.specs.declared.entry.Entry.{Entry}
use Rattle.dsr_envelope.specs.declared.entry.Entry.TheVariants.{Post, Take}
use Rattle.dsr_envelope.specs.declared.pick.Pick.{Pick}
use Rattle.dsr_envelope.specs.declared.pick.Pick.TheVariants.{Plain, Begin}
use Rattle.dsr_client.specs.Accepted.{AcceptsNone, Accepts}
use Rattle.dsr_client.specs.Conduct.{IsClientLog, ask_of, next_number, chosen_beside}
use Rattle.dsr_client.specs.State.{state_after, asked_beside, outstanding, accepted}
use Rattle.dsr_client.proofs.Lemmas.{accept_cases, ask_begins, take_quiet, next_unasked}
use Rattle.dsr_node.specs.Conduct.{post_of, AcceptsBy}
use Rattle.dsr_node.specs.Node.{TakesReply}
use Rattle.dsr_mail.specs.Asked.{none_marked, IsMarked, AreAsked, marks_posted, marks_taken}
use Rattle.dsr_mail.specs.Loyal.{IsClientActor}
use Rattle.dsr_mail.specs.Refusals.{HasAsked}
use Rattle.dsr_mail.specs.Seats.{KeepsLog}

unmarked : (q : ℕ) → q < 16 → IsMarked none_marked q → ⊥
unmarked q small e = false≢true (sym (get_or-replicate 16 q false false small) ∙ e)

-- ---- posts

-- what was asked for is what is outstanding
asked_it : (shape : Shape) (log : List Entry) (ask : SignedRequest) (r : ℕ) → outstanding shape log ≡ Some ask → HasAsked shape log r
    → In (Post (Replica r) (Ask ask)) log
asked_it shape log ask r now (a, e, inside) = let same : ask ≡ a = cc in rw same inside

-- a request that is then outstanding is asked of one replica more, if the marks tell of which it was asked before
asked_more : (shape : Shape) (log : List Entry) (marks : List Bool) (q : ℕ) (ask : SignedRequest) → length marks ≡ 16
    → outstanding shape (Post (Replica q) (Ask ask) ∷ log) ≡ Some ask
    → ((r : ℕ) → r < 16 → IsMarked marks r ↔ In (Post (Replica r) (Ask ask)) log)
    → AreAsked shape (Post (Replica q) (Ask ask) ∷ log) (slice_set marks q true)
asked_more shape log marks q ask long now old r small = elim (cases_eq r q) [
  | inl own ↦ (
    λ marked. (ask, now, here (ap (λ k. Post (Replica k) (Ask ask)) (sym own))),
    λ asked. rw own (get_or-set_same marks q true false (omega (arith, long, small, own))),
  )
  | inr apart ↦
      let same = get_or-set_other marks q r true false apart in (
        λ marked. (ask, now, there ((old r small).0 (sym same ∙ marked))),
        λ asked. same ∙ (old r small).1 (before apart (asked_it shape (Post (Replica q) (Ask ask) ∷ log) ask r now asked)),
      )
]
  where
    before : (r ≡ q → ⊥) → In (Post (Replica r) (Ask ask)) (Post (Replica q) (Ask ask) ∷ log) → In (Post (Replica r) (Ask ask)) log
    before apart (here e) = absurd (apart cc)
    before apart (there inside) = inside

module _ (shape : Shape) (c : ℕ) (log : List Entry) (marks : List Bool) (long : length marks ≡ 16) (are : AreAsked shape log marks) where
  by_pick : (q : ℕ) (x : Envelope) → IsClientLog shape c log → (o : Option SignedRequest) (pick : Pick) → outstanding shape log ≡ o
      → option_map Ask (chosen_beside o c (next_number shape log) pick) ≡ Some x
      → AreAsked shape (Post (Replica q) x ∷ log) (marks_posted (Replica q) pick marks)
  by_pick q x loyal (Some ask) Plain current given =
      rw (← same_Some (Ask ask) x given)
      (asked_more shape log marks q ask long (ap (λ o. (asked_beside o ask (state_after shape log)).outstanding) current ∙ current)
      (λ r small. (λ e. asked_it shape log ask r current ((are r small).0 e), λ inside. (are r small).1 (ask, current, inside))))
  by_pick q x loyal None (Begin op) none given =
      let ask = ask_of c (next_number shape log) op in
      rw (← same_Some (Ask ask) x given)
      (asked_more shape log none_marked q ask refl (ask_begins shape q ask log none)
      (λ r small. (λ e. absurd (unmarked r small e), λ inside. absurd (next_unasked shape c log loyal none r ask inside refl))))
  by_pick q x loyal o pick current given = absurd (none-some x given)

-- the marks after a post
pub asked_posted : (shape : Shape) (me : Actor) (log : List Entry) (marks : List Bool) (to : Actor) (pick : Pick) (x : Envelope) → length marks ≡ 16
    → IsClientActor me → KeepsLog shape me log → AreAsked shape log marks → post_of shape log me to pick ≡ Some x
    → AreAsked shape (Post to x ∷ log) (marks_posted to pick marks)
asked_posted shape (Replica p) log marks to pick x long is loyal are given = elim is [ ]
asked_posted shape (Client c) log marks (Replica q) pick x long is loyal are given =
    by_pick shape c log marks long are q x loyal (outstanding shape log) pick refl given
asked_posted shape (Client c) log marks (Client d) pick x long is loyal are given = absurd (none-some x given)

-- ---- tellings and takes

-- an entry other than an ask leaves the marks if it leaves what is outstanding
left_alone : (shape : Shape) (log : List Entry) (marks : List Bool) (entry : Entry) → outstanding shape (entry ∷ log) ≡ outstanding shape log
    → ((q : ℕ) (ask : SignedRequest) → entry ≡ Post (Replica q) (Ask ask) → ⊥) → AreAsked shape log marks → AreAsked shape (entry ∷ log) marks
left_alone shape log marks entry same other are q small = (
  λ e. let old = (are q small).0 e in (old.0, same ∙ old.1, there old.2),
  found,
)
  where
    found : HasAsked shape (entry ∷ log) q → IsMarked marks q
    found (a, e, here p) = absurd (other q a p)
    found (a, e, there inside) = (are q small).1 (a, sym same ∙ e, inside)

pub asked_told : (shape : Shape) (log : List Entry) (marks : List Bool) (to : Actor) (front : ℕ) → AreAsked shape log marks
    → AreAsked shape (Post to (Seen front) ∷ log) marks
asked_told shape log marks (Replica q) front are = left_alone shape log marks (Post (Replica q) (Seen front)) refl (λ q ask e. cc) are
asked_told shape log marks (Client c) front are = left_alone shape log marks (Post (Client c) (Seen front)) refl (λ q ask e. cc) are

pub asked_taken : (shape : Shape) (me : Actor) (log : List Entry) (marks : List Bool) (from : Actor) (x : Envelope) (reply : Option AReply)
    → IsClientActor me → AreAsked shape log marks → TakesReply shape me log from x reply → AreAsked shape (Take from x ∷ log) (marks_taken reply marks)
asked_taken shape (Replica p) log marks from x reply is are takes = elim is [ ]
asked_taken shape (Client c) log marks from x reply is are takes = by_cases reply takes (accept_cases shape (Take from x) log)
  where
    same : AcceptsNone shape (Take from x) log → (o : Option SignedRequest) → outstanding shape log ≡ o
        → outstanding shape (Take from x ∷ log) ≡ outstanding shape log
    same none None e = ap (λ s. s.outstanding) (take_quiet shape from x log e)
    same none (Some ask) e = none.still ask e ∙ sym e

    by_cases : (reply : Option AReply) → AcceptsBy reply (accepted shape (Take from x ∷ log)) (accepted shape log)
        → AcceptsNone shape (Take from x) log ⊎ ((r : AReply) × Accepts shape (Take from x) log r) → AreAsked shape (Take from x ∷ log) (marks_taken reply marks)
    by_cases None takes (inl none) = left_alone shape log marks (Take from x) (same none (outstanding shape log) refl) (λ q ask e. cc) are
    by_cases (Some r) takes (inl none) = absurd (let same = ap length (sym takes ∙ none.same) in omega (arith, same))
    by_cases None takes (inr (r, new)) = absurd (let same = ap length (sym new.more ∙ takes) in omega (arith, same))
    by_cases (Some r) takes (inr (w, new)) = λ q small. (λ e. absurd (unmarked q small e), λ asked. absurd (none-some asked.0 (sym new.done ∙ asked.1)))

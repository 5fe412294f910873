-- When a take may follow, and when not.
use Rattle.std.proofs.Common.{◌≡◌, ℕ, zero, suc, ◌<◌, true, nat_lt, List, [], ◌∷◌, ◌++◌, None, Some, length, length-append, inl, inr, refl, ap, sym, ◌∙◌, arith}
use Rattle.std.specs.Prelude.{slice_get}
use Rattle.std.proofs.lemmas.Bool.{true≢false, false≢true}
use Rattle.std.proofs.lemmas.Bool.Decides.{Decides-eqb, nat_tests}
use Rattle.std.proofs.lemmas.Option.{none-some, same_Some}
use Rattle.dsr_base.proofs.MemberLemmas.{In-from_place}
use Rattle.dsr_names.specs.Shape.{Shape, IsActor, IsAllowed}
use Rattle.dsr_names.specs.declared.actor.Actor.{Actor}
use Rattle.dsr_names.specs.declared.actor.Actor.TheVariants.{Replica, Client}
use Rattle.dsr_envelope.specs.declared.envelope.Envelope.{Envelope}
use Rattle.dsr_envelope.specs.declared.entry.Entry.TheVariants.{Take as TakeEntry}
use Rattle.dsr_envelope.specs.Limits.{IsEnvelope}
use Rattle.dsr_envelope.specs.Log.{posted_to, taken_from}
use Rattle.dsr_node.specs.Conduct.{is_actor, is_own_client, takes_from}
use Rattle.dsr_play.specs.declared.event.Event.TheVariants.{Take}
use Rattle.dsr_run.specs.Run.{IsNextStep, IsRun}
use Rattle.dsr_run.specs.Step.{Step, Logs, log_of}
use Rattle.dsr_run.proofs.Lemmas.{IsBox, boxes, posted_entry, posted_within}
use Rattle.dsr_world.specs.Event.{in_box, is_full, refusal_of}
use Rattle.dsr_world.proofs.NextSteps.{takes_next}
use Rattle.dsr_world.proofs.WorldTakes.{cleared_take, not_own}
use Rattle.dsr_facts.specs.Cause.{IsOutsider, IsNoPart, IsUndue, IsWhy}
use Rattle.dsr_facts.specs.TakeFault.{HoldsTakeFault}
use Rattle.dsr_facts.specs.declared.cause.Cause.{Cause}
use Rattle.dsr_facts.specs.declared.cause.Cause.TheVariants.{NoActor, WrongRole, NotDue, Exhausted, BoxFull, BoxEmpty, Forged}
use Rattle.dsr_facts.specs.declared.cause.Part.{Part}
use Rattle.dsr_facts.specs.declared.cause.Part.TheVariants.{FromItself}
use Rattle.dsr_facts.specs.declared.fault.Fault.{Fault}
use Rattle.dsr_facts.specs.declared.fault.Fault.TheVariants.{Refused, OtherHeld, OtherPosted}
use Rattle.dsr_facts.specs.declared.undue.Undue.{Undue}
use Rattle.dsr_facts.specs.declared.undue.Undue.TheVariants.{First}

-- ---- boxes

past_end : (ys xs : List Envelope) → slice_get (ys ++ xs) (length ys) ≡ slice_get xs 0
past_end [] xs = refl
past_end (y ∷ ys) xs = past_end ys xs

-- a box with all but one envelope taken holds that one
left_is : (posted taken : List Envelope) (x : Envelope) → posted ≡ taken ++ x ∷ [] → slice_get posted (length taken) ≡ Some x
left_is posted taken x e = ap (λ l. slice_get l (length taken)) e ∙ past_end taken (x ∷ [])

below_is : (a b : ℕ) → a < b → nat_lt a b ≡ true
below_is a b h = grind (arith, nat_tests)

pub left_full : (posted taken : List Envelope) (x : Envelope) → posted ≡ taken ++ x ∷ [] → nat_lt (length taken) (length posted) ≡ true
left_full posted taken x e = let longer = ap length e in below_is (length taken) (length posted) (omega (arith, longer, length-append taken (x ∷ [])))

pub not_below : (a b : ℕ) → nat_lt a b ≡ true → a ≡ b → ⊥
not_below a b h e = grind (arith, nat_tests)

held_left : (posted taken : List Envelope) (x : Envelope) → IsBox posted taken → nat_lt (length taken) (length posted) ≡ true
    → slice_get posted (length taken) ≡ Some x → posted ≡ taken ++ x ∷ []
held_left posted taken x (inl all) full holds = absurd (not_below (length taken) (length posted) full (ap length (sym all)))
held_left posted taken x (inr left) full holds =
    left.1 ∙ ap (λ y. taken ++ y ∷ []) (same_Some left.0 x (sym (left_is posted taken left.0 left.1) ∙ holds))

-- what a box holds is within the limits
pub in_box_within : (shape : Shape) (run : List Step) → IsRun shape run → (from to : Actor) (x : Envelope) → in_box (log_of run) from to ≡ Some x
    → IsEnvelope x
in_box_within shape run is from to x holds =
    posted_within shape run is from to x (posted_entry to (log_of run from) x
    (In-from_place x (posted_to to (log_of run from)) (length (taken_from from (log_of run to))) holds))

-- and something is there if it is full
pub full_holds : (logs : Logs) (from to : Actor) → is_full logs from to ≡ true → in_box logs from to ≡ None → ⊥
full_holds logs from to full none = none_below (posted_to to (logs from)) (length (taken_from from (logs to))) none full
  where
    none_below : (xs : List Envelope) (n : ℕ) → slice_get xs n ≡ None → nat_lt n (length xs) ≡ true → ⊥
    none_below [] n none full = grind (arith, nat_tests)
    none_below (x ∷ xs) zero none full = none-some x (sym none)
    none_below (x ∷ xs) (suc n) none full =
        let below : nat_lt n (length xs) ≡ true = grind (arith, nat_tests) in none_below xs n none below

-- ---- a take that nothing refuses, of what the box holds, may follow
pub take_may : (shape : Shape) (run : List Step) → IsAllowed shape → IsRun shape run → (at from : Actor) (x : Envelope)
    → refusal_of shape (log_of run) (Take at from) ≡ None → in_box (log_of run) from at ≡ Some x → IsNextStep shape (log_of run) (at, TakeEntry from x)
take_may shape run allowed is_run at from x none holds =
    let is = cleared_take shape (log_of run) at from none in
    takes_next shape allowed run is_run at from x is.actor is.other (not_own at from is.own) is.timely
    (held_left (posted_to at (log_of run from)) (taken_from from (log_of run at)) x (boxes shape run is_run from at) is.full holds)

-- ---- a take that has a fault may not

actor_yes : (shape : Shape) (a : Actor) → IsActor shape a → is_actor shape a ≡ true
actor_yes shape (Replica p) inside = below_is p shape.n inside
actor_yes shape (Client c) inside = below_is c shape.m inside

pub no_outsider : (shape : Shape) (one other actor : Actor) → IsOutsider shape one other actor → IsActor shape one → IsActor shape other → ⊥
no_outsider shape one other actor (inl first) inside too = true≢false (sym (actor_yes shape one inside) ∙ first.1)
no_outsider shape one other actor (inr second) inside too = true≢false (sym (actor_yes shape other too) ∙ second.2)

own_stops : (shape : Shape) (logs : Logs) (at from : Actor) (x : Envelope) → is_own_client at from ≡ true → IsNextStep shape logs (at, TakeEntry from x) → ⊥
own_stops shape logs (Replica p) from x own next = false≢true own
own_stops shape logs (Client c) (Replica q) x own next = false≢true own
own_stops shape logs (Client c) (Client d) x own next = next.conduct.1 (ap Client (sym ((Decides-eqb c d).0 own)))

part_stops : (shape : Shape) (logs : Logs) (at from : Actor) (x : Envelope) (part : Part) → IsNoPart shape (Take at from) part
    → IsNextStep shape logs (at, TakeEntry from x) → ⊥
part_stops shape logs at from x FromItself is next = own_stops shape logs at from x is next
part_stops shape logs at from x part is next = elim is [ ]

undue_stops : (shape : Shape) (logs : Logs) (at from : Actor) (x : Envelope) (why : Undue) → IsUndue shape logs (Take at from) why
    → IsNextStep shape logs (at, TakeEntry from x) → ⊥
undue_stops shape logs (Replica p) (Replica q) x (First due) is next =
    let timely : takes_from due q ≡ true =
    ap (λ d. takes_from d q) (sym is.1 ∙ (next.conduct.0 is.0).0) ∙ (Decides-eqb q q).1 refl in
    true≢false (sym timely ∙ is.2)
undue_stops shape logs at from x why is next = elim is [ ]

why_stops : (shape : Shape) (logs : Logs) (at from : Actor) (x : Envelope) (cause : Cause) → IsWhy shape logs (Take at from) cause
    → IsNextStep shape logs (at, TakeEntry from x) → ⊥
why_stops shape logs at from x (NoActor actor) why next = no_outsider shape at from actor why next.actor next.other
why_stops shape logs at from x (WrongRole part) why next = part_stops shape logs at from x part why next
why_stops shape logs at from x (NotDue undue) why next = undue_stops shape logs at from x undue why next
why_stops shape logs at from x (Exhausted limit) why next = elim why [ ]
why_stops shape logs at from x BoxFull why next = elim why [ ]
why_stops shape logs at from x BoxEmpty why next =
    true≢false (sym (left_full (posted_to at (logs from)) (taken_from from (logs at)) x next.box) ∙ why)
why_stops shape logs at from x (Forged s) why next = elim why [ ]

pub take_fault_stops : (shape : Shape) (logs : Logs) (at from : Actor) (x : Envelope) (fault : Fault) → HoldsTakeFault shape logs at from x fault
    → IsNextStep shape logs (at, TakeEntry from x) → ⊥
take_fault_stops shape logs at from x (Refused cause) holds next = why_stops shape logs at from x cause holds.why next
take_fault_stops shape logs at from x OtherHeld holds next =
    holds.1.apart (same_Some holds.1.held x (sym holds.1.holds ∙ left_is (posted_to at (logs from)) (taken_from from (logs at)) x next.box))
take_fault_stops shape logs at from x (OtherPosted wanted how) holds next = elim holds [ ]

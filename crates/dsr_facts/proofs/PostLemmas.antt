-- When a loyal replica's post to a replica may follow, and when not.
use Rattle.std.proofs.Common.{◌≡◌, ℕ, suc, ◌<◌, ◌^◌, true, false, not, nat_lt, List, Option, None, Some, length, inl, inr, ap, sym, ◌∙◌, arith}
use Rattle.std.proofs.lemmas.Bool.{true≢false, false≢true}
use Rattle.std.proofs.lemmas.Bool.Decides.{nat_tests}
use Rattle.std.proofs.lemmas.Option.{none-some, same_Some}
use Rattle.dsr_names.specs.Shape.{Shape, is_traitor, IsAllowed}
use Rattle.dsr_names.specs.declared.actor.Actor.TheVariants.{Replica}
use Rattle.dsr_envelope.specs.declared.envelope.Envelope.{Envelope}
use Rattle.dsr_envelope.specs.declared.entry.Entry.TheVariants.{Post as PostEntry}
use Rattle.dsr_envelope.specs.declared.pick.Pick.{Pick}
use Rattle.dsr_envelope.specs.Log.{posted_to, taken_from}
use Rattle.dsr_envelope.specs.Pick.{IsPick}
use Rattle.dsr_node.specs.Conduct.{post_of, HasSpelledOp}
use Rattle.dsr_play.specs.declared.event.Event.TheVariants.{Post}
use Rattle.dsr_run.specs.Run.{IsNextStep, IsRun}
use Rattle.dsr_run.specs.Step.{Step, Logs, log_of}
use Rattle.dsr_run.proofs.Lemmas.{IsBox, boxes}
use Rattle.dsr_world.specs.Event.{refusal_of}
use Rattle.dsr_world.proofs.NextSteps.{posts_next}
use Rattle.dsr_world.proofs.Worlds.{cleared}
use Rattle.dsr_facts.specs.Cause.{IsNoPart, IsSpent, IsWhy}
use Rattle.dsr_facts.specs.Fault.{choice_by, IsRead, MayPostRound}
use Rattle.dsr_facts.specs.PostFault.{IsPostFault, HoldsPostFault}
use Rattle.dsr_facts.specs.declared.cause.Cause.{Cause}
use Rattle.dsr_facts.specs.declared.cause.Cause.TheVariants.{NoActor, WrongRole, NotDue, Exhausted, BoxFull, BoxEmpty, Forged}
use Rattle.dsr_facts.specs.declared.cause.Limit.{Limit}
use Rattle.dsr_facts.specs.declared.cause.Limit.TheVariants.{Rounds, Numbers, Posts}
use Rattle.dsr_facts.specs.declared.cause.Part.{Part}
use Rattle.dsr_facts.specs.declared.cause.Part.TheVariants.{Traitor, Loyal, BothClients, FromItself, NotTwoClients}
use Rattle.dsr_facts.specs.declared.fault.Fault.{Fault}
use Rattle.dsr_facts.specs.declared.fault.Fault.TheVariants.{Refused, OtherHeld, OtherPosted}
use Rattle.dsr_facts.proofs.DifferenceLemmas.{difference_apart}
use Rattle.dsr_facts.proofs.FaultLemmas.{read_gives}
use Rattle.dsr_facts.proofs.TakeLemmas.{left_full, not_below, no_outsider}
use Rattle.dsr_facts.proofs.UndueLemmas.{undue_refuses}

-- what is read off an envelope begins no request
pub spelled_choice : (clients : Option (List ℕ)) → HasSpelledOp (choice_by clients)
spelled_choice None = tt
spelled_choice (Some list) = tt

all_taken : (posted taken : List Envelope) → IsBox posted taken → nat_lt (length taken) (length posted) ≡ false → posted ≡ taken
all_taken posted taken (inl all) empty = all
all_taken posted taken (inr left) empty = absurd (true≢false (sym (left_full posted taken left.0 left.1) ∙ empty))

-- a post that nothing refuses may follow
pub post_may : (shape : Shape) (run : List Step) → IsAllowed shape → IsRun shape run → (p q : ℕ) (pick : Pick) (x : Envelope) → IsPick pick
    → HasSpelledOp pick → refusal_of shape (log_of run) (Post (Replica p) (Replica q) pick) ≡ None
    → post_of shape (log_of run (Replica p)) (Replica p) (Replica q) pick ≡ Some x → IsNextStep shape (log_of run) (Replica p, PostEntry (Replica q) x)
post_may shape run allowed is_run p q pick x good spelled none given =
    let is = cleared shape (log_of run) (Replica p) (Replica q) pick none in
    posts_next shape allowed run is_run (Replica p) (Replica q) pick x is.actor is.other good spelled is.honest given is.more is.used
    (all_taken (posted_to (Replica q) (log_of run (Replica p))) (taken_from (Replica p) (log_of run (Replica q))) (boxes shape run is_run (Replica p) (Replica q))
    is.room)

-- ---- a post that has a fault may not

module _ (shape : Shape) (logs : Logs) (p q : ℕ) (x : Envelope) (pick : Pick) (honest : is_traitor shape p ≡ false) (read : IsRead shape (Replica p) q x pick)
    (next : IsNextStep shape logs (Replica p, PostEntry (Replica q) x)) where
  may : MayPostRound shape (Replica p) (logs (Replica p)) q x
  may = next.conduct.0 honest

  gives : post_of shape (logs (Replica p)) (Replica p) (Replica q) pick ≡ Some x
  gives = read_gives shape (Replica p) (logs (Replica p)) q x pick read may

  part_stops : (part : Part) → IsNoPart shape (Post (Replica p) (Replica q) pick) part → ⊥
  part_stops Traitor is = true≢false (sym is ∙ honest)
  part_stops BothClients is = false≢true is.1
  part_stops Loyal is = elim is [ ]
  part_stops FromItself is = elim is [ ]
  part_stops NotTwoClients is = elim is [ ]

  used_up : (n : ℕ) → not (nat_lt (suc n) (2 ^ 40)) ≡ true → suc n < 2 ^ 40 → ⊥
  used_up n used few = grind (arith, nat_tests)

  spent_stops : (limit : Limit) → IsSpent shape logs (Post (Replica p) (Replica q) pick) limit → ⊥
  spent_stops Rounds is = is may.1
  spent_stops Numbers is = elim is [ ]
  spent_stops Posts is = used_up (length (posted_to (Replica q) (logs (Replica p)))) is.1 next.limits.1

  why_stops : (cause : Cause) → IsWhy shape logs (Post (Replica p) (Replica q) pick) cause → ⊥
  why_stops (NoActor actor) why = no_outsider shape (Replica p) (Replica q) actor why next.actor next.other
  why_stops (WrongRole part) why = part_stops part why
  why_stops (NotDue undue) why = none-some x (sym (undue_refuses shape (Replica p) (logs (Replica p)) q pick undue why) ∙ gives)
  why_stops (Exhausted limit) why = spent_stops limit why
  why_stops BoxFull why =
      not_below (length (taken_from (Replica p) (logs (Replica q)))) (length (posted_to (Replica q) (logs (Replica p)))) why (ap length (sym next.box))
  why_stops BoxEmpty why = elim why [ ]
  why_stops (Forged s) why = elim why [ ]

  fault_stops : (fault : Fault) → IsPostFault shape logs p q x pick fault → ⊥
  fault_stops (Refused cause) is = why_stops cause is.why
  fault_stops OtherHeld is = elim is [ ]
  fault_stops (OtherPosted wanted how) is = difference_apart wanted x how is.2 (same_Some wanted x (sym is.1 ∙ gives))

pub post_fault_stops : (shape : Shape) (logs : Logs) (p q : ℕ) (x : Envelope) (fault : Fault) → is_traitor shape p ≡ false
    → HoldsPostFault shape logs p q x fault → IsNextStep shape logs (Replica p, PostEntry (Replica q) x) → ⊥
post_fault_stops shape logs p q x fault honest holds next =
    fault_stops shape logs p q x holds.pick honest holds.read next fault holds.why

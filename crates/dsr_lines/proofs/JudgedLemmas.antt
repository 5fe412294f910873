-- What is found out about a step, over plain variables.
use Rattle.std.proofs.Common.{◌≡◌, ℕ, List, Some, refl, ap, sym, ◌∙◌, subst}
use Rattle.dsr_names.specs.Shape.{Shape}
use Rattle.dsr_names.specs.declared.actor.Actor.{Actor}
use Rattle.dsr_names.specs.declared.actor.Actor.TheVariants.{Replica, Client}
use Rattle.dsr_envelope.specs.Pick.{IsPick}
use Rattle.dsr_envelope.specs.declared.envelope.Envelope.{Envelope}
use Rattle.dsr_envelope.specs.declared.envelope.Envelope.TheVariants.{Seen}
use Rattle.dsr_envelope.specs.declared.entry.Entry.TheVariants.{Post as PostEntry, Take as TakeEntry}
use Rattle.dsr_envelope.specs.declared.pick.Pick.{Pick}
use Rattle.dsr_envelope.specs.declared.pick.Pick.TheVariants.{Plain}
use Rattle.dsr_replica.specs.Shown.{choice_of}
use Rattle.dsr_script.specs.declared.forged.Forged.{Forged}
use Rattle.dsr_play.specs.declared.event.Event.{Event}
use Rattle.dsr_play.specs.declared.event.Event.TheVariants.{Post, Plant, Take, Tell}
use Rattle.dsr_run.specs.History.{seen_by}
use Rattle.dsr_run.specs.Run.{IsNextStep, IsTraitor}
use Rattle.dsr_run.specs.Step.{Logs}
use Rattle.dsr_world.specs.Event.{step_of, MayBeDone}
use Rattle.dsr_facts.specs.Cause.{HoldsCause}
use Rattle.dsr_facts.specs.TakeFault.{HoldsTakeFault}
use Rattle.dsr_facts.specs.declared.cause.Cause.{Cause}
use Rattle.dsr_facts.specs.declared.fault.Fault.TheVariants.{OtherHeld as TakeOtherHeld}
use Rattle.dsr_lines.specs.Begun.{clients_begun, BeginsTwice}
use Rattle.dsr_lines.specs.Line.{HoldsFault, IsEventOf}
use Rattle.dsr_lines.specs.Support.Judged.{IsMade, IsOther}
use Rattle.dsr_lines.specs.declared.line_fault.LineFault.{LineFault}
use Rattle.dsr_lines.specs.declared.line_fault.LineFault.TheVariants.{Refused, OtherHeld, OtherPosted, SignedOutside, ClientTwice}
use Rattle.dsr_lines.specs.declared.notary.Made.TheVariants.{Outside}
use Rattle.dsr_lines.proofs.NextLemmas.{take_passes}

module _ (shape : Shape) (logs : Logs) where
  -- ---- takes

  pub take_other : (at from : Actor) (x : Envelope) → HoldsTakeFault shape logs at from x TakeOtherHeld
      → HoldsFault shape logs (at, TakeEntry from x) OtherHeld
  take_other at from x holds = record { event = Take at from; is = refl; differs = holds }

  pub take_step : (at from : Actor) (x : Envelope) → IsNextStep shape logs (at, TakeEntry from x)
      → (step_of shape logs (Take at from) ≡ Some (at, TakeEntry from x)) × MayBeDone shape logs (Take at from)
  take_step at from x next = let passes = take_passes shape logs at from x next in (passes.step_is, (passes.none, passes.forges))

  -- ---- a traitor's posts

  plant_event : (from to : Actor) (x : Envelope) → IsTraitor shape from → IsEventOf shape logs (from, PostEntry to x) (Plant from to x)
  plant_event (Replica p) to x traitor = (λ same. refl, λ not. absurd (not traitor))
  plant_event (Client c) to x traitor = elim traitor [ ]

  pub plant_told : (from to : Actor) (x draft : Envelope) (cause : Cause) → IsTraitor shape from → draft ≡ x
      → HoldsCause shape logs (Plant from to draft) cause → HoldsFault shape logs (from, PostEntry to x) (Refused (Plant from to draft) cause)
  plant_told from to x draft cause traitor same holds =
      (subst (λ y. IsEventOf shape logs (from, PostEntry to x) (Plant from to y)) (sym same) (plant_event from to x traitor), holds)

  pub plant_step : (from to : Actor) (x draft : Envelope) → draft ≡ x → MayBeDone shape logs (Plant from to draft)
      → (step_of shape logs (Plant from to draft) ≡ Some (from, PostEntry to x)) × MayBeDone shape logs (Plant from to draft)
  plant_step from to x draft same may = (ap (λ y. Some (from, PostEntry to y)) same, may)

  pub outside_told : (from to : Actor) (x : Envelope) (s : Forged) → (IsTraitor shape from → ⊥) → IsMade shape x (Outside s)
      → HoldsFault shape logs (from, PostEntry to x) (SignedOutside s)
  outside_told from to x s loyal made = (loyal, made.0, made.1)

  -- ---- the event of a post

  pub round_event : (p q : ℕ) (x : Envelope) (clients : List ℕ) (pick : Pick) → (IsTraitor shape (Replica p) → ⊥)
      → clients ≡ clients_begun shape (Replica p) q x → (IsPick (choice_of clients) → pick ≡ choice_of clients)
      → ((IsPick (choice_of clients) → ⊥) → pick ≡ Plain)
      → IsEventOf shape logs (Replica p, PostEntry (Replica q) x) (Post (Replica p) (Replica q) pick)
  round_event p q x clients pick loyal are made plain = (
    λ traitor. absurd (loyal traitor),
    λ same. record {
      pick = pick;
      is = refl;
      read = subst (λ l. IsPick (choice_of l) → pick ≡ choice_of l) are made;
      plain = subst (λ l. (IsPick (choice_of l) → ⊥) → pick ≡ Plain) are plain;
    },
  )

  -- ---- what is posted instead

  pub other_told : (from to : Actor) (wanted found : Envelope) (event : Event) (fault : LineFault) → IsOther wanted found fault
      → ((c : ℕ) → BeginsTwice shape (from, PostEntry to found) c → ⊥) → MayBeDone shape logs event
      → step_of shape logs event ≡ Some (from, PostEntry to wanted) → IsEventOf shape logs (from, PostEntry to found) event
      → HoldsFault shape logs (from, PostEntry to found) fault
  other_told from to wanted found event (Refused e cause) is apart may step_is event_is = elim is [ ]
  other_told from to wanted found event OtherHeld is apart may step_is event_is = elim is [ ]
  other_told from to wanted found event (OtherPosted ours theirs how) is apart may step_is event_is = (
    record {
      event = event;
      is = event_is;
      differs = (may.0, step_is ∙ ap (λ y. Some (from, PostEntry to y)) (sym is.0), is.1, is.2, is.3);
    },
    apart,
  )
  other_told from to wanted found event (SignedOutside s) is apart may step_is event_is = elim is [ ]
  other_told from to wanted found event (ClientTwice c) is apart may step_is event_is = elim is [ ]

  pub same_step : (from to : Actor) (wanted found : Envelope) (event : Event) → wanted ≡ found → MayBeDone shape logs event
      → step_of shape logs event ≡ Some (from, PostEntry to wanted)
      → (step_of shape logs event ≡ Some (from, PostEntry to found)) × MayBeDone shape logs event
  same_step from to wanted found event same may step_is = (step_is ∙ ap (λ y. Some (from, PostEntry to y)) same, may)

  -- ---- what a client tells

  pub tell_step : (c d front : ℕ) → front ≡ seen_by shape logs c
      → step_of shape logs (Tell (Client c) (Client d)) ≡ Some (Client c, PostEntry (Client d) (Seen front))
  tell_step c d front same = ap (λ f. Some (Client c, PostEntry (Client d) (Seen f))) (sym same)

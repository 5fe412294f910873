-- A step that has a fault may not follow.
use Rattle.std.proofs.Common.{◌≡◌, ℕ, List, ◌∷◌, None, inl, inr, ap, sym, ◌∙◌, subst}
use Rattle.std.proofs.lemmas.Option.{none-some, same_Some}
use Rattle.dsr_names.specs.Shape.{Shape, IsActor}
use Rattle.dsr_names.specs.declared.actor.Actor.{Actor}
use Rattle.dsr_names.specs.declared.actor.Actor.TheVariants.{Replica, Client}
use Rattle.dsr_names.specs.declared.refusal.Refusal.TheVariants as refusal
use Rattle.dsr_desk.specs.Signature.{Signature, signed}
use Rattle.dsr_envelope.specs.declared.envelope.Envelope.{Envelope}
use Rattle.dsr_envelope.specs.declared.entry.Entry.TheVariants.{Post as PostEntry, Take as TakeEntry}
use Rattle.dsr_envelope.specs.Log.{posted_to, taken_from}
use Rattle.dsr_envelope.specs.Pick.{IsPick}
use Rattle.dsr_play.specs.declared.event.Event.{Event}
use Rattle.dsr_play.specs.declared.event.Event.TheVariants.{Post, Plant, Take, Tell}
use Rattle.dsr_run.specs.Run.{IsMadeOrPosted, IsNextStep, IsRun, IsTraitor, envelope_of}
use Rattle.dsr_run.specs.Step.{Step, Logs, log_of}
use Rattle.dsr_run.proofs.Lemmas.{actors_within, step_made}
use Rattle.dsr_world.specs.Event.{refusal_of, IsForged, MayBeDone}
use Rattle.dsr_facts.specs.Cause.{HoldsCause}
use Rattle.dsr_facts.specs.declared.cause.Cause.{Cause}
use Rattle.dsr_facts.specs.declared.cause.Cause.TheVariants.{NoActor, WrongRole, NotDue, Exhausted, BoxFull, BoxEmpty, Forged}
use Rattle.dsr_facts.specs.declared.difference.Difference.{Difference}
use Rattle.dsr_lines.specs.Begun.{clients_begun, BeginsTwice}
use Rattle.dsr_lines.specs.Line.{HoldsFault, HoldsItsCause, IsOtherHeld, IsOtherPosted, IsSignedOutside}
use Rattle.dsr_lines.specs.declared.line_fault.LineFault.{LineFault}
use Rattle.dsr_lines.specs.declared.line_fault.LineFault.TheVariants.{Refused, OtherHeld, OtherPosted, SignedOutside, ClientTwice}
use Rattle.dsr_script.specs.declared.forged.Forged.{Forged as AForged}
use Rattle.dsr_lines.proofs.BegunLemmas.{begun_is, twice_no_pick}
use Rattle.dsr_lines.proofs.NextLemmas.{PassesAs, honest_is, left_is, next_passes}

-- ---- a cause

cause_stops : (shape : Shape) (logs : Logs) (event : Event) (cause : Cause) → HoldsCause shape logs event cause → refusal_of shape logs event ≡ None
    → (IsForged shape logs event → ⊥) → ⊥
cause_stops shape logs event (NoActor actor) holds none forges = none-some refusal.NoActor (sym none ∙ holds.refused)
cause_stops shape logs event (WrongRole part) holds none forges = none-some refusal.WrongRole (sym none ∙ holds.refused)
cause_stops shape logs event (NotDue undue) holds none forges = none-some refusal.NotDue (sym none ∙ holds.refused)
cause_stops shape logs event (Exhausted limit) holds none forges = none-some refusal.Exhausted (sym none ∙ holds.refused)
cause_stops shape logs event BoxFull holds none forges = none-some refusal.BoxFull (sym none ∙ holds.refused)
cause_stops shape logs event BoxEmpty holds none forges = none-some refusal.BoxEmpty (sym none ∙ holds.refused)
cause_stops shape logs (Post from to pick) (Forged s) holds none forges = elim holds.why [ ]
cause_stops shape logs (Plant from to draft) (Forged s) holds none forges =
    forges (λ nothing. holds.why.1 (nothing (signed s.signer s.statement) holds.why.0))
cause_stops shape logs (Take at from) (Forged s) holds none forges = elim holds.why [ ]
cause_stops shape logs (Tell from to) (Forged s) holds none forges = elim holds.why [ ]

-- ---- another envelope

held_stops : (shape : Shape) (logs : Logs) (event : Event) (step : Step) → IsOtherHeld shape logs event step → IsNextStep shape logs step → ⊥
held_stops shape logs event (at, TakeEntry from x) is next =
    is.1.apart (same_Some is.1.held x (sym is.1.holds ∙ left_is (posted_to at (logs from)) (taken_from from (logs at)) x next.box))
held_stops shape logs event (from, PostEntry to x) is next = elim is [ ]

posted_stops : (shape : Shape) (logs : Logs) (event : Event) (step : Step) (wanted posted : Envelope) (how : Difference)
    → IsOtherPosted shape logs event step wanted posted how → PassesAs shape logs event step → ⊥
posted_stops shape logs event (at, TakeEntry from x) wanted posted how is passes = elim is [ ]
posted_stops shape logs event (from, PostEntry to x) wanted posted how is passes =
    let steps : (from, PostEntry to wanted) ≡ (from, PostEntry to x) =
    same_Some (from, PostEntry to wanted) (from, PostEntry to x) (sym is.1 ∙ passes.step_is) in
    is.3 (ap (λ (s : Step). envelope_of s.1) steps ∙ sym is.2)

-- ---- a signer from outside

traitor_inside : (shape : Shape) (a : Actor) → IsTraitor shape a → IsActor shape a
traitor_inside shape (Replica p) traitor = traitor.0
traitor_inside shape (Client c) traitor = elim traitor [ ]

signer_inside : (shape : Shape) (run : List Step) → IsRun shape run → (s : Signature) → IsMadeOrPosted shape (log_of run) s → IsActor shape s.signer
signer_inside shape run is s (inl made) = traitor_inside shape s.signer made
signer_inside shape run is s (inr posted) = (actors_within shape run is s.signer (PostEntry posted.to posted.envelope) posted.posted).0

outside_stops : (shape : Shape) (run : List Step) (step : Step) (s : AForged) → IsRun shape run → IsSignedOutside shape step s
    → IsNextStep shape (log_of run) step → ⊥
outside_stops shape run (at, TakeEntry from x) s is outside next = elim outside [ ]
outside_stops shape run (from, PostEntry to x) s is outside next =
    outside.2 (signer_inside shape ((from, PostEntry to x) ∷ run) (is, next) (signed s.signer s.statement)
    (step_made shape (from, PostEntry to x) run (is, next) (signed s.signer s.statement) outside.1))

-- ---- a client twice

twice_stops : (shape : Shape) (logs : Logs) (step : Step) (c : ℕ) → BeginsTwice shape step c → IsNextStep shape logs step → ⊥
twice_stops shape logs (at, TakeEntry from x) c twice next = elim twice [ ]
twice_stops shape logs (Replica p, PostEntry (Replica q) x) c twice next =
    let may = next.conduct.0 (honest_is shape p next.actor twice.0) in
    let is = begun_is shape (Replica p) (logs (Replica p)) q may.0.0 x may.0.1 may.0.2 in
    twice_no_pick c (clients_begun shape (Replica p) q x) twice.1 (subst IsPick is may.0.1)
twice_stops shape logs (Replica p, PostEntry (Client d) x) c twice next = elim twice [ ]
twice_stops shape logs (Client d, PostEntry to x) c twice next = elim twice [ ]

-- ---- any fault

-- what has a cause may not be done
pub cause_not_done : (shape : Shape) (logs : Logs) (event : Event) (cause : Cause) → HoldsCause shape logs event cause → MayBeDone shape logs event → ⊥
cause_not_done shape logs event cause holds may = cause_stops shape logs event cause holds may.0 may.1

pub fault_stops : (shape : Shape) (run : List Step) (step : Step) (fault : LineFault) → IsRun shape run → HoldsFault shape (log_of run) step fault
    → IsNextStep shape (log_of run) step → ⊥
fault_stops shape run step (Refused event cause) is holds next =
    let passes = next_passes shape (log_of run) step event holds.0 next in
    cause_stops shape (log_of run) event cause holds.1 passes.none passes.forges
fault_stops shape run step OtherHeld is holds next = held_stops shape (log_of run) holds.event step holds.differs next
fault_stops shape run step (OtherPosted wanted posted how) is holds next =
    posted_stops shape (log_of run) holds.0.event step wanted posted how holds.0.differs
    (next_passes shape (log_of run) step holds.0.event holds.0.is next)
fault_stops shape run step (SignedOutside s) is holds next = outside_stops shape run step s is holds next
fault_stops shape run step (ClientTwice c) is holds next = twice_stops shape (log_of run) step c holds.1 next

-- the cause that a fault tells holds
pub its_cause : (shape : Shape) (logs : Logs) (step : Step) (fault : LineFault) → HoldsFault shape logs step fault → HoldsItsCause shape logs fault
its_cause shape logs step (Refused event cause) holds = holds.1
its_cause shape logs step OtherHeld holds = tt
its_cause shape logs step (OtherPosted wanted posted how) holds = tt
its_cause shape logs step (SignedOutside s) holds = tt
its_cause shape logs step (ClientTwice c) holds = tt

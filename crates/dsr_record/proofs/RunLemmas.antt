-- What a run posts and takes is within the limits of envelopes.
use Rattle.std.proofs.Common.{List, [], ◌∷◌, inl, inr, refl, sym, subst}
use Rattle.std.specs.Prelude.{All}
use Rattle.std.proofs.lemmas.List.Elements.{All-nil, All-cons}
use Rattle.dsr_base.specs.Member.{In, here}
use Rattle.dsr_names.specs.Shape.{Shape}
use Rattle.dsr_names.specs.declared.actor.Actor.{Actor}
use Rattle.dsr_envelope.specs.Limits.{IsEnvelope}
use Rattle.dsr_envelope.specs.declared.entry.Entry.{Entry}
use Rattle.dsr_envelope.specs.declared.entry.Entry.TheVariants.{Post, Take}
use Rattle.dsr_run.specs.Run.{IsRun, envelope_of}
use Rattle.dsr_run.specs.Step.{Step, log_of}
use Rattle.dsr_run.proofs.Lemmas.{log_cases, posted_within, taken_within}

abbrev pub IsWithin : Step → Type 0
IsWithin step = IsEnvelope (envelope_of step.1)

module _ (shape : Shape) where
  in_own : (step : Step) (older : List Step) → In step.1 (log_of (step ∷ older) step.0)
  in_own step older = elim (log_cases step older step.0) [
    | inl own ↦ subst (In step.1) (sym own.1) (here refl)
    | inr other ↦ absurd (other.0 refl)
  ]

  of_entry : (run : List Step) → IsRun shape run → (a : Actor) (entry : Entry) → In entry (log_of run a) → IsEnvelope (envelope_of entry)
  of_entry run is a (Post to x) h = posted_within shape run is a to x h
  of_entry run is a (Take from x) h = taken_within shape run is a from x h

  pub run_within : (run : List Step) → IsRun shape run → All IsWithin run
  run_within [] is = All-nil IsWithin
  run_within (step ∷ older) is = All-cons IsWithin step older (of_entry (step ∷ older) is step.0 step.1 (in_own step older)) (run_within older is.0)

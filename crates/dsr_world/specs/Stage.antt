-- A stage as contracts see it (this project).
use Rattle.std.specs.Prelude.{List, [], ◌∷◌, Option, None, Some}
use Rattle.dsr_names.specs.Shape.{Shape}
use Rattle.dsr_envelope.specs.declared.entry.Entry.TheVariants.{Post, Take}
use Rattle.dsr_envelope.specs.declared.envelope.Envelope.{Envelope}
use Rattle.dsr_run.specs.Step.{Step}

-- its shape, and the run that it has made
pub record Stage : Type 0 where
  pub shape : Shape
  pub run : List Step

-- the envelope that was taken last; none before the first take
abbrev pub last_taken : List Step → Option Envelope
last_taken [] = None
last_taken ((actor, Post to envelope) ∷ earlier) = last_taken earlier
last_taken ((actor, Take from envelope) ∷ earlier) = Some envelope

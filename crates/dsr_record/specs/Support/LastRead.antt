-- What is stored of an envelope that was read, so that it is not read again.
use Rattle.std.specs.Prelude.{ℕ, List, Option, None, Some}
use Rattle.dsr_base.specs.Reads.{Reads}
use Rattle.dsr_envelope.specs.declared.envelope.Envelope.{Envelope}
use Rattle.dsr_script.specs.EnvelopeText.{envelope_text, IsSpelledEnvelope}

-- either no envelope is stored, or the text reads as the stored one
abbrev pub IsRemembered : List ℕ → Option Envelope → Type 0
IsRemembered text None = Unit {0}
IsRemembered text (Some envelope) = Reads IsSpelledEnvelope envelope_text text (Some envelope)

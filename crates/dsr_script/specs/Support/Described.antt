-- A draft as the envelope that it describes.
use Rattle.std.specs.Prelude.{Option, None, Some}
use Rattle.dsr_envelope.specs.declared.envelope.Envelope.{Envelope}
use Rattle.dsr_envelope.specs.declared.envelope.Envelope.TheVariants as envelope
use Rattle.dsr_script.specs.declared.plan.Plan.{Plan}
use Rattle.dsr_script.specs.declared.plan.Plan.TheVariants.{Round, Ask, Reply, Seen}

-- the envelope with the same case and the same parts
abbrev pub described : Plan → Envelope
described (Round round chains) = envelope.Round round chains
described (Ask request) = envelope.Ask request
described (Reply reply) = envelope.Reply reply
described (Seen front) = envelope.Seen front

-- the same for a draft, which has no cases if it is of the empty envelope
abbrev pub drafted : Option Plan → Envelope
drafted None = envelope.Empty
drafted (Some plan) = described plan

use Rattle.std.proofs.Common.{ℕ, arith}
use Rattle.dsr_envelope.specs.declared.envelope.Envelope.{Envelope}
use Rattle.dsr_play.proofs.play_line.read_plants.Goals as goal

pub returns-clause-read : goal.returns-clause-read
returns-clause-read c = grind (arith, λ (by : ℕ) (envelope : Envelope). c.in_ok-planted.ensures.read (by, envelope))

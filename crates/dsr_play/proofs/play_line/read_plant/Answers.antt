use Rattle.std.proofs.Common.{arith}
use Rattle.dsr_names.specs.declared.actor.Actor.{Actor}
use Rattle.dsr_envelope.specs.declared.envelope.Envelope.{Envelope}
use Rattle.dsr_play.proofs.play_line.read_plant.Goals as goal

pub returns-clause-read : goal.returns-clause-read
returns-clause-read c = grind (arith, λ (from to : Actor) (envelope : Envelope). c.in_ok-planted.ensures.read (from, (to, envelope)))

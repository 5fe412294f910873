use Rattle.std.proofs.Common.{arith}
use Rattle.dsr_names.specs.declared.actor.Actor.{Actor}
use Rattle.dsr_play.proofs.play_line.read_take.Goals as goal

pub returns : goal.returns
returns c = grind (arith, λ (at from : Actor). c.read_ends.ensures (at, from))

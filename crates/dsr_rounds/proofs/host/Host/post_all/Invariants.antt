use Rattle.std.proofs.Common.{◌≡◌}
use Rattle.dsr_envelope.specs.Log.{due, rounds}
use Rattle.dsr_rounds.specs.Replicas.{DoesDuty, IsAtPost}
use Rattle.dsr_rounds.specs.Turns.{KeepsTurns}
use Rattle.dsr_rounds.proofs.host.Host.post_all.Given as goal

-- the posts to the replicas below are complete
abbrev pub invariant-loop-number : goal.invariant-loop-number
invariant-loop-number g l = DoesDuty l.seat l.fn.seat × IsAtPost l.fn.seat.shape.n l.number (due l.seat.shape l.seat.log)
    × (rounds l.seat.shape l.seat.log ≡ rounds l.fn.seat.shape l.fn.seat.log)
    × KeepsTurns (g.G.Gate.may_pass l.self.gate.now) l.fn.seat l.seat l.fn.turn.number l.turn.number

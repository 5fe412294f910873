use Rattle.dsr_envelope.specs.Log.{rounds}
use Rattle.dsr_rounds.specs.Replicas.{DoesDuty, IsAtTake}
use Rattle.dsr_rounds.specs.Turns.{KeepsTurns}
use Rattle.dsr_rounds.proofs.host.Host.take_all.Given as goal

-- the takes from the replicas below are complete
abbrev pub invariant-loop-number : goal.invariant-loop-number
invariant-loop-number g l = DoesDuty l.seat l.fn.seat × IsAtTake l.seat l.fn.seat.shape.n l.number (rounds l.fn.seat.shape l.fn.seat.log)
    × KeepsTurns (g.G.Gate.may_pass l.self.gate.now) l.fn.seat l.seat l.fn.turn.number l.turn.number

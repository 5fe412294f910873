use Rattle.dsr_calls.specs.Calls.{GoesOn}
use Rattle.dsr_rounds.specs.Traitors.{TakesFromAll}
use Rattle.dsr_rounds.specs.Turns.{KeepsTurns}
use Rattle.dsr_rounds.proofs.host.Host.take_from_each.Given as goal

-- the takes from the replicas below are complete
abbrev pub invariant-loop-number : goal.invariant-loop-number
invariant-loop-number g l = GoesOn l.seat l.fn.seat × TakesFromAll l.round l.number l.fn.seat l.seat
    × KeepsTurns (g.G.Gate.may_pass l.self.gate.now) l.fn.seat l.seat l.fn.turn.number l.turn.number

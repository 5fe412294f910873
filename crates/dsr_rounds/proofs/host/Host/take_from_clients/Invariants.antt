use Rattle.dsr_rounds.specs.Replicas.{KeepsRound}
use Rattle.dsr_rounds.specs.Turns.{KeepsTurns}
use Rattle.dsr_rounds.proofs.host.Host.take_from_clients.Given as goal

-- the loop did nothing between replicas
abbrev pub invariant-loop-number : goal.invariant-loop-number
invariant-loop-number g l = KeepsRound l.seat l.fn.seat × KeepsTurns (g.G.Gate.may_pass l.self.gate.now) l.fn.seat l.seat l.fn.turn.number l.turn.number

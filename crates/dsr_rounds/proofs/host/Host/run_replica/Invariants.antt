use Rattle.dsr_rounds.specs.Replicas.{DoesDuty, HasClosed}
use Rattle.dsr_rounds.specs.Turns.{IsInTurns}
use Rattle.dsr_rounds.proofs.host.Host.run_replica.Given as goal

-- as many rounds closed as the loop went through
abbrev pub invariant-loop-round : goal.invariant-loop-round
invariant-loop-round g l = DoesDuty l.seat l.fn.seat × HasClosed l.fn.seat l.seat l.round × IsInTurns (g.G.Gate.may_pass l.self.gate.now) l.fn.seat l.seat l.turn.number

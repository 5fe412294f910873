use Rattle.dsr_calls.specs.Calls.{GoesOn}
use Rattle.dsr_rounds.specs.Traitors.{FollowsScript, count_at}
use Rattle.dsr_rounds.specs.Turns.{IsInTurns}
use Rattle.dsr_rounds.proofs.host.Host.run_traitor.Given as goal

-- the traitor made as many rounds by the script as the loop went through
abbrev pub invariant-loop-round : goal.invariant-loop-round
invariant-loop-round g l = GoesOn l.seat l.fn.seat × FollowsScript l.script l.fn.seat l.seat (count_at l.round 0) (count_at l.round 0)
    × IsInTurns (g.G.Gate.may_pass l.self.gate.now) l.fn.seat l.seat l.turn.number

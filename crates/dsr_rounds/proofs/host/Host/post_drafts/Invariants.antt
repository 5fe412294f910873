use Rattle.dsr_calls.specs.Calls.{GoesOn}
use Rattle.dsr_rounds.specs.Traitors.{PostsDrafts}
use Rattle.dsr_rounds.specs.Turns.{KeepsTurns}
use Rattle.dsr_rounds.proofs.host.Host.post_drafts.Given as goal

-- the posts of the drafts to the replicas below are complete
abbrev pub invariant-loop-number : goal.invariant-loop-number
invariant-loop-number g l = GoesOn l.seat l.fn.seat × PostsDrafts l.script l.round l.number l.fn.seat l.seat
    × KeepsTurns (g.G.Gate.may_pass l.self.gate.now) l.fn.seat l.seat l.fn.turn.number l.turn.number

use Rattle.std.proofs.Common.{◌≡◌}
use Rattle.dsr_rounds.specs.Turns.{KeepsTurns}
use Rattle.dsr_rounds.proofs.host.Host.take_sent.Given as goal

-- no try has succeeded, though turns have passed
abbrev pub invariant-loop : goal.invariant-loop
invariant-loop g l = (l.seat ≡ l.fn.seat) × KeepsTurns (g.G.Gate.may_pass l.self.gate.now) l.fn.seat l.seat l.fn.turn.number l.turn.number

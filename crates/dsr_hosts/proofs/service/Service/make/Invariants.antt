use Rattle.std.specs.Prelude.{ℕ}
use Rattle.dsr_hosts.specs.Requests.{IsMaking}
use Rattle.dsr_hosts.specs.Turns.{CallsInVain}
use Rattle.dsr_hosts.proofs.service.Service.make.Given as goal

-- the operation is on its way, and each call until here was in vain
abbrev pub invariant-loop : goal.invariant-loop
invariant-loop g l = IsMaking l.op l.fn.seat l.seat
    × ((calls : ℕ) × CallsInVain (g.G.Gate.may_pass l.self.host.gate.now) l.op calls l.fn.seat l.seat l.fn.turn.number l.turn.number)

use Rattle.std.specs.Prelude.{take, reverse}
use Rattle.dsr_calls.specs.Calls.{GoesOn, number_of}
use Rattle.dsr_hosts.specs.Served.{HasAll}
use Rattle.dsr_hosts.specs.Turns.{CallsForEach}
use Rattle.dsr_hosts.proofs.service.Service.make_all.Given as goal

-- the client has the replies to all operations up to here, and its calls were those for them
abbrev pub invariant-loop-op : goal.invariant-loop-op
invariant-loop-op g l = (GoesOn l.seat l.fn.seat × HasAll l.seat.shape (number_of l.seat.actor) l.seat.log (take l.op-index l.op-items))
    × CallsForEach (g.G.Gate.may_pass l.self.host.gate.now) (reverse (take l.op-index l.op-items)) l.fn.seat l.seat 0 l.turn.number

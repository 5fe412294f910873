use Rattle.dsr_calls.proofs.Turns.{IsOnTheWay}
use Rattle.dsr_calls.proofs.calls.go_round.Given as goal

-- no reply is accepted yet, and the next replica is one of the shape
abbrev pub invariant-loop-left : goal.invariant-loop-left
invariant-loop-left l = IsOnTheWay l.mail l.fn.seat l.seat l.op l.number l.n l.left l.turns

abbrev pub decreases-loop-left : goal.decreases-loop-left
decreases-loop-left l = l.left

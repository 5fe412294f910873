use Rattle.std.proofs.Common.{reverse, take}
use Rattle.dsr_check.proofs.Legality.{IsNoted}
use Rattle.dsr_check.proofs.judging.is_legal.Given as goal

-- the requests so far are a legal history, and the last number of each client is noted
abbrev pub invariant-loop-request : goal.invariant-loop-request
invariant-loop-request l = IsNoted (reverse (take l.request-index l.history)) l.last

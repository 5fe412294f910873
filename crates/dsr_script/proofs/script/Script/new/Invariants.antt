use Rattle.std.proofs.Common.{◌≡◌, [], replicate}
use Rattle.dsr_script.proofs.script.Script.new.Given as goal

-- the clients so far have no operation yet
abbrev pub invariant-loop : goal.invariant-loop
invariant-loop l = l.ops.items ≡ replicate l.counter []

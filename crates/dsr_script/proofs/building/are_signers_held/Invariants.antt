use Rattle.std.specs.Prelude.{take, All}
use Rattle.dsr_script.specs.Support.Carried.{IsByHolder}
use Rattle.dsr_script.proofs.building.are_signers_held.Given as goal

abbrev pub invariant-loop-link : goal.invariant-loop-link
invariant-loop-link l = All (IsByHolder l.keys) (take l.link-index l.links)

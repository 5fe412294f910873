use Rattle.dsr_register.specs.Support.Table.{IsRoomy}
use Rattle.dsr_register.proofs.EntryLemmas.{IsSwept}
use Rattle.dsr_register.proofs.table.sweep.Given as goal

abbrev pub invariant-loop-place : goal.invariant-loop-place
invariant-loop-place l = IsSwept l.initial.entries.entries l.entries.entries l.kept l.place × IsRoomy l.entries

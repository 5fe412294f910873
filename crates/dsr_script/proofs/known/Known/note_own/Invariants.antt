use Rattle.std.proofs.Common.{◌≡◌, ◌≤◌, ◌+◌}
use Rattle.std.specs.Prelude.{take}
use Rattle.dsr_script.specs.Support.Noted.{noted_all}
use Rattle.dsr_script.proofs.known.Known.note_own.Given as goal

abbrev pub invariant-loop-place : goal.invariant-loop-place
invariant-loop-place l =
    (l.self.signatures ≡ noted_all l.initial.self.signatures (take l.place l.chain.signatures)) × (l.initial.self.room ≤ l.self.room + l.place)

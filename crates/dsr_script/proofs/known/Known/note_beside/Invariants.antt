use Rattle.std.proofs.Common.{◌≡◌, ◌≤◌, ◌+◌}
use Rattle.std.specs.Prelude.{take}
use Rattle.dsr_script.specs.Support.Noted.{noted_all, beside}
use Rattle.dsr_script.proofs.known.Known.note_beside.Given as goal

abbrev pub invariant-loop-ask : goal.invariant-loop-ask
invariant-loop-ask l =
    (l.self.signatures ≡ noted_all l.initial.self.signatures (beside (take l.ask-index l.asks))) × (l.initial.self.room ≤ l.self.room + l.ask-index)

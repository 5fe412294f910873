use Rattle.std.proofs.Common.{◌≡◌, ◌≤◌}
use Rattle.std.specs.Prelude.{take}
use Rattle.dsr_world.specs.Outcome.{HasEnded}
use Rattle.dsr_world.specs.Support.EntriesFields.{AreOf}
use Rattle.dsr_world.proofs.stage.Stage.run_in.Given as goal

-- `end` counts the outcomes of the events before this one, and the kept steps are those of the run so far
abbrev pub invariant-loop-event : goal.invariant-loop-event
invariant-loop-event l =
    HasEnded l.initial.self.shape l.self.run l.initial.self.run (take l.event-index l.events) l.end × (l.self.shape ≡ l.initial.self.shape) × (l.end.starved ≤ l.end.refused)
    × (l.entries.are_kept ≡ l.initial.entries.are_kept) × (AreOf l.initial.entries l.initial.self.run → AreOf l.entries l.self.run)

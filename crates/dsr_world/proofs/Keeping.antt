-- How the kept steps go on with a run.
use Rattle.std.proofs.Common.{◌≡◌, sym, ◌∙◌}
use Rattle.std.specs.Prelude.{Result, Ok, Err, OnOk, OnErr}
use Rattle.dsr_names.specs.declared.refusal.Refusal.{Refusal}
use Rattle.dsr_world.specs.Stage.{Stage}
use Rattle.dsr_world.specs.Support.EntriesFields.{AreOf}
use Rattle.dsr_world.specs.declared.entries.Entries.{Entries}

-- they are those of the run after an event, done or refused
pub still_of : {X : Type 0} (r : Result X Refusal) (before after : Entries) (older newer : Stage) → after.are_kept ≡ before.are_kept
    → OnOk r (AreOf before older.run → AreOf after newer.run) → OnErr r (after.items.items ≡ before.items.items) → OnErr r (newer ≡ older)
    → AreOf before older.run → AreOf after newer.run
still_of (Ok x) before after older newer kept added left same are is = added are is
still_of (Err e) before after older newer kept added left same are is = rw (left, same) (are (sym kept ∙ is))

-- What the kept steps of a world are (this project).
use Rattle.std.specs.Prelude.{◌≡◌, true, List, reverse}
use Rattle.dsr_run.specs.Step.{Step}
use Rattle.dsr_world.specs.declared.entries.Entries.{Entries}

-- they are those of this run, if steps are kept
abbrev pub AreOf : Entries → List Step → Type 0
AreOf entries run = entries.are_kept ≡ true → reverse entries.items.items ≡ run

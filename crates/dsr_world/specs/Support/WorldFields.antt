-- How the fields of a world represent it (this project).
use Rattle.std.specs.Prelude.{◌≡◌, true}
use Rattle.dsr_world.specs.Support.EntriesFields.{AreOf}
use Rattle.dsr_world.specs.World.{World}
use Rattle.dsr_world.specs.declared.world.World.TheInside.{Inside}

-- each step is kept, and so far those of the run were
abbrev pub IsWorldFields : Inside → Type 0
IsWorldFields a = (a.entries.are_kept ≡ true) × AreOf a.entries a.stage.run

-- the shape and the run
abbrev pub world_of : Inside → World
world_of a = record { shape = a.stage.shape; run = a.stage.run }

-- What the fields of a table satisfy.
use Rattle.std.specs.Prelude.{◌≡◌, ◌≤◌, length}
use Rattle.dsr_register.specs.Values.{most_registers}
use Rattle.dsr_register.specs.Support.Table.{held_entries, IsRoomy}
use Rattle.dsr_register.specs.declared.table.Table.TheInside.{Inside}

-- the entries that hold a number are counted, at most as many as registers may, and there is room
-- for all entries
pub record IsTable (t : Inside) : Type 0 where
  pub roomy : IsRoomy t.entries
  pub count : t.held ≡ length (held_entries t.entries.entries)
  pub few : t.held ≤ most_registers

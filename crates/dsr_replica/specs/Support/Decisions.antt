-- How private contracts see the decided values (this project).
use Rattle.std.specs.Prelude.{ℕ, ◌<◌, ◌≤◌, List, map}
use Rattle.dsr_request.specs.Request.{Request}
use Rattle.dsr_chain.specs.Content.{requests_in}
use Rattle.dsr_chain.specs.declared.slot_value.SlotValue.{SlotValue}

-- the values of the closed slots, the latest first; the number of clients for which the machine keeps replies; for
-- how many more requests there is room, and for how many more values
pub record Decisions : Type 0 where
  pub values : List SlotValue
  pub clients : ℕ
  pub requests : ℕ
  pub places : ℕ

-- there is room for one more value, and for its requests
pub record HasRoom (d : Decisions) : Type 0 where
  pub requests : 8 ≤ d.requests
  pub places : 0 < d.places

-- the requests of the values: what the machine processed
abbrev pub processed : Decisions → List (List Request)
processed d = map requests_in d.values

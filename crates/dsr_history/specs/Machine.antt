-- What contracts see of a machine (Schneider 1990: equal machines that process the same requests in the same order
-- give the same replies).
use Rattle.std.specs.Prelude.{◌≡◌, ℕ, List}
use Rattle.dsr_request.specs.Request.{Request}
use Rattle.dsr_history.specs.History.{acted}

-- the requests that acted, newest first; the number of clients for which it stores replies; and for how many more
-- requests its lists have room
pub record Machine : Type 0 where
  pub history : List Request
  pub clients : ℕ
  pub room : ℕ

-- the machine represents these values, newest first: its history is theirs
abbrev pub StandsFor : Machine → List (List Request) → Type 0
StandsFor machine values = machine.history ≡ acted values

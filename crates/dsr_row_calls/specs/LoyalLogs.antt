-- Loyal logs of a given length; the driver of rows proves that its replica represents one (this project).
use Rattle.std.specs.Prelude.{◌≡◌, ℕ, List, length}
use Rattle.dsr_envelope.specs.declared.entry.Entry.{Entry}
use Rattle.dsr_replica.specs.Conduct.{IsLoyalLog}
use Rattle.dsr_replica.specs.Replica.{Replica, StandsFor}

-- the replica represents a loyal log with this number of entries
pub record HasLog (r : Replica) (count : ℕ) : Type 0 where
  pub log : List Entry
  pub long : length log ≡ count
  pub loyal : IsLoyalLog r.shape r.me log
  pub stands : StandsFor r log

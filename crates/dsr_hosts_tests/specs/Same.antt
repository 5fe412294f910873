-- Tries keep each seat that of the same actor at the same mail (this project).
use Rattle.std.specs.Prelude.{◌≡◌}
use Rattle.dsr_boxes.specs.Pass.{Pass}

-- the seat is that of the same actor at the same mail
abbrev pub IsSameSeat : Pass → Pass → Type 0
IsSameSeat old new = (new.id ≡ old.id) × (new.shape ≡ old.shape) × (new.actor ≡ old.actor)

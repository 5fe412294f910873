-- Tries keep each seat that of the same actor at the same mail (this project).
use Rattle.std.specs.Prelude.{◌≡◌, ℕ, ◌<◌, List, length, slice_index_or}
use Rattle.dsr_boxes.specs.Pass.{SharedBoxes, Pass, IsPassOf}

-- the seat is that of the same actor at the same mail
abbrev pub IsSameSeat : Pass → Pass → Type 0
IsSameSeat old new = (new.id ≡ old.id) × (new.shape ≡ old.shape) × (new.actor ≡ old.actor)

module _ {P : Type 0} (pass : P → Pass) where
  -- the seats are seats of this mail
  abbrev pub AreOfMail : SharedBoxes → List P → Type 0
  AreOfMail mail seats = (k : ℕ) (d : P) → k < length seats → IsPassOf mail (pass (slice_index_or seats k d))

  -- the two lists are equally long, and seats at the same index are those of the same actor at the same mail
  abbrev pub AreSameSeats : List P → List P → Type 0
  AreSameSeats old new = (length new ≡ length old) × ((k : ℕ) (d : P) → k < length old → IsSameSeat (pass (slice_index_or old k d)) (pass (slice_index_or new k d)))

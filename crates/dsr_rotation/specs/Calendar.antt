-- The calendar: which slots are in flight in a global round, which of its rounds each slot is in, and which slot
-- closes (broadcasts of f+1 rounds, Dolev and Strong 1983; in this project one begins in every round).
use Rattle.std.specs.Prelude.{◌≡◌, ℕ, zero, suc, ◌+◌, ◌≤◌, ◌==◌, if◌then◌else◌}
use Rattle.dsr_names.specs.Shape.{Shape}

-- the global round in which a slot's round 1 falls: slot k begins in round k (this project)
unfoldable pub first_round : Shape → ℕ → ℕ
first_round shape slot = slot

-- the global round in which a slot's last round falls, its round f+1 (Dolev and Strong 1983: f+1 rounds)
abbrev pub last_round : Shape → ℕ → ℕ
last_round shape slot = first_round shape slot + shape.f

-- global round t is one of the slot's rounds (this project)
pub record IsInFlight (shape : Shape) (slot t : ℕ) : Type 0 where
  pub begun : first_round shape slot ≤ t
  pub unfinished : t ≤ last_round shape slot

-- global round t is the slot's round r, counted from 1 to f+1 (this project)
pub record IsRoundOf (shape : Shape) (slot t r : ℕ) : Type 0 where
  pub from_one : 1 ≤ r
  pub to_last : r ≤ shape.f + 1
  pub counted : first_round shape slot + r ≡ t + 1

-- the slot closes with global round t: t is its last (this project)
abbrev pub ClosesWith : Shape → ℕ → ℕ → Type 0
ClosesWith shape slot t = last_round shape slot ≡ t

-- the number of slots that are closed after t rounds, the rounds 0 to t-1: slots close in their order, each with
-- its last round (this project)
unfoldable pub closed_slots : Shape → ℕ → ℕ
closed_slots shape zero = 0
closed_slots shape (suc t) =
    if last_round shape (closed_slots shape t) == t
    then suc (closed_slots shape t)
    else closed_slots shape t

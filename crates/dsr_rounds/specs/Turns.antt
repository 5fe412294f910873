-- In which turns a host makes its entries (this project). Each try of a host has a turn; a try that finds a box full or empty leaves no entry, and this
-- file says nothing about its turn.
use Rattle.std.specs.Prelude.{◌≡◌, ℕ, ◌<◌, ◌≤◌, ◌^◌, ◌++◌, List, [], ◌∷◌}
use Rattle.dsr_names.specs.declared.actor.Actor.{Actor}
use Rattle.dsr_envelope.specs.declared.entry.Entry.{Entry}
use Rattle.dsr_boxes.specs.Pass.{Pass}
use Rattle.dsr_rounds.specs.Ends.{turn_after}

-- the host makes each entry in a turn that the gate may let pass, a newer entry in a later turn, and all before the next turn; only the last turn, 2^40-1,
-- may have several entries
abbrev pub AreInTurns : (ℕ → Type 0) → ℕ → List Entry → Type 0
AreInTurns may next [] = Unit {0}
AreInTurns may next (entry ∷ older) = (turn : ℕ) × may turn × (turn_after turn ≤ next) × AreInTurns may turn older

-- this holds for all entries that the later seat adds to those of the earlier, which is the same actor's; and 2^40-1 is the last turn
pub record IsInTurns (may : Actor → ℕ → Type 0) (earlier later : Pass) (next : ℕ) : Type 0 where
  pub actor : later.actor ≡ earlier.actor
  pub added : List Entry
  pub log : later.log ≡ added ++ earlier.log
  pub turns : AreInTurns (may earlier.actor) next added
  pub last : next < 2 ^ 40

-- the same, whatever the next turn is
abbrev pub HasTurns : (Actor → ℕ → Type 0) → Pass → Pass → Type 0
HasTurns may earlier later = (next : ℕ) × IsInTurns may earlier later next

-- if this holds up to the older seat and its next turn, it holds up to the newer. No public contract cites this.
abbrev pub KeepsTurns : (Actor → ℕ → Type 0) → Pass → Pass → ℕ → ℕ → Type 0
KeepsTurns may old new now next = (first : Pass) → IsInTurns may first old now → IsInTurns may first new next

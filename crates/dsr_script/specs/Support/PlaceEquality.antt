-- When `==` holds for two places of drafts: exactly if they are equal.
use Rattle.std.specs.Prelude.{◌≡◌, Bool}
use Rattle.std.specs.Bool.{Decides}
use Rattle.std.proofs.Common.{rules}
use Rattle.dsr_script.specs.declared.place.Place.{Place}
use Rattle.dsr_script.specs.contracts.place.PlacePartialEq.TheImpl.{ghosts}

-- whether `==` holds for two places
abbrev pub place_eq : Place → Place → Bool
place_eq = ghosts.eq

-- it holds exactly for equal ones
pub place_eq-Decides : (a b : Place) → Decides (place_eq a b) (a ≡ b)
place_eq-Decides a b = search rules

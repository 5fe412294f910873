-- What is hashed for a place of a draft: the traitor's number, the round, and the other end: a
-- client's number counts from 16.
use Rattle.std.specs.Prelude.{◌≡◌, true, ◌+◌, ◌++◌}
use Rattle.std.specs.Hash as fed
use Rattle.std.proofs.Common.{ap}
use Rattle.dsr_names.specs.declared.actor.Actor.{Actor}
use Rattle.dsr_names.specs.declared.actor.Actor.TheVariants.{Replica, Client}
use Rattle.dsr_script.specs.declared.place.Place.{Place}
use Rattle.dsr_script.specs.Support.PlaceEquality.{place_eq, place_eq-Decides}

-- the other end
abbrev pub end_fed : Actor → fed.HashWrites
end_fed (Replica r) = fed.u8 r
end_fed (Client c) = fed.u8 (c + 16)

-- what is hashed
abbrev pub place_fed : Place → fed.HashWrites
place_fed place = fed.u8 place.from ++ (fed.u64 place.round ++ end_fed place.to)

-- equal ones are hashed alike
pub place_fed_alike : (a b : Place) → place_eq a b ≡ true → place_fed a ≡ place_fed b
place_fed_alike a b h = ap place_fed ((place_eq-Decides a b).0 h)

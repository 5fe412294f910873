use Rattle.dsr_names.proofs.PlaceLemmas.{place_below, same_place, actor_of_place, place_of_actor}
use Rattle.dsr_names.proofs.places.each_actor_has_a_place.Goals as goal

pub returns-clause-below : goal.returns-clause-below
returns-clause-below c shape a inside = place_below shape a inside

pub returns-clause-apart : goal.returns-clause-apart
returns-clause-apart c shape a b inside too e = same_place shape a b inside too e

pub returns-clause-found : goal.returns-clause-found
returns-clause-found c shape a inside = actor_of_place shape a inside

pub returns-clause-taken : goal.returns-clause-taken
returns-clause-taken c shape place inside = place_of_actor shape place inside

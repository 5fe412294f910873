use Rattle.std.proofs.Common.{◌≡◌, true, ap, refl, rules}
use Rattle.std.proofs.lemmas.Bool.{iff_false}
use Rattle.dsr_names.specs.Places.{actor_at}
use Rattle.dsr_mail.specs.Seats.{is_loyal_replica, is_traitor_replica, is_client}
use Rattle.dsr_mail.proofs.Seating.{left_some, has_left, kind_at, loyal_kind, traitor_kind}
use Rattle.dsr_mail.proofs.leaving.Leaving.next.Goals.{In-Client, Then-is_loyal, Else-is_loyal}
use Rattle.dsr_mail.proofs.leaving.Leaving.next.Goals as goal

-- the kind of the actor at the place
client_is : (c : In-Client) → is_client c.args.boxes.now.shape (actor_at c.args.boxes.now.shape c.args.place) ≡ true
client_is c = kind_at is_client _ _ c.args.place _ c.shape-shape.ensures c.actor_at-actor.ensures.same (ap (is_client c.shape-shape.result.now) c.in-Client.is)

loyal_is : (c : Then-is_loyal) → is_loyal_replica c.args.boxes.now.shape (actor_at c.args.boxes.now.shape c.args.place) ≡ true
loyal_is c = kind_at is_loyal_replica _ _ c.args.place _ c.shape-shape.ensures c.actor_at-actor.ensures.same
    (loyal_kind c.shape-shape.result.now c.actor_at-actor.result _ c.in-Replica.is (c.is_loyal.ensures.0 c.if-is_loyal.true))

traitor_is : (c : Else-is_loyal) → is_traitor_replica c.args.boxes.now.shape (actor_at c.args.boxes.now.shape c.args.place) ≡ true
traitor_is c = kind_at is_traitor_replica _ _ c.args.place _ c.shape-shape.ensures c.actor_at-actor.ensures.same
    (traitor_kind c.shape-shape.result.now c.actor_at-actor.result _ c.in-Replica.is c.actor_at-actor.ensures.inside
    (iff_false c.is_loyal.ensures c.if-is_loyal.false))

pub first_of-requires : goal.first_of-requires
first_of-requires c = left_some _ _ _ c.requires.place (client_is (goal.at.first_of-requires c).In-Client) _ c.requires.clients

pub returns-in-Client : goal.returns-in-Client
returns-in-Client c =
    let left = has_left _ _ _ c.requires.place (client_is (goal.at.returns-in-Client c).In-Client) _ _ _ _ _ c.leave.result.2
    c.requires.clients c.first_of.ensures c.into_loyal.ensures c.leave.ensures.pass c.leave.ensures.plays in
    search rules

pub first_of-requires-then-is_loyal : goal.first_of-requires-then-is_loyal
first_of-requires-then-is_loyal c =
    left_some _ _ _ c.requires.place (loyal_is (goal.at.first_of-requires-then-is_loyal c).Then-is_loyal) _ c.requires.replicas

pub returns-then-is_loyal : goal.returns-then-is_loyal
returns-then-is_loyal c =
    let gone = c.leave-then-is_loyal in
    let left = has_left _ _ _ c.requires.place (loyal_is (goal.at.returns-then-is_loyal c).Then-is_loyal) _ _ _ _ _ gone.result.2
    c.requires.replicas c.first_of-then-is_loyal.ensures c.into_loyal-then-is_loyal.ensures gone.ensures.pass gone.ensures.plays in
    search rules

pub first_of-requires-else-is_loyal : goal.first_of-requires-else-is_loyal
first_of-requires-else-is_loyal c =
    left_some _ _ _ c.requires.place (traitor_is (goal.at.first_of-requires-else-is_loyal c).Else-is_loyal) _ c.requires.traitors

pub returns-else-is_loyal : goal.returns-else-is_loyal
returns-else-is_loyal c =
    let gone = c.leave_traitor in
    let left = has_left _ _ _ c.requires.place (traitor_is (goal.at.returns-else-is_loyal c).Else-is_loyal) _ _ _ _ _ gone.result.2
    c.requires.traitors c.first_of-else-is_loyal.ensures refl gone.ensures.pass gone.ensures.plays in
    search rules

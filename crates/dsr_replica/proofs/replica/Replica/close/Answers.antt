use Rattle.std.proofs.Common.{◌≡◌, ◌<◌, ◌^◌, length, ap, sym, ◌∙◌, subst, arith}
use Rattle.std.specs.Prelude.{All, IfSome}
use Rattle.dsr_names.specs.Shape.{Shape}
use Rattle.dsr_request.specs.Request.{Request}
use Rattle.dsr_chain.specs.Content.{signed_in, requests_in}
use Rattle.dsr_chain.specs.Proper.{IsAsked}
use Rattle.dsr_rotation.specs.Calendar.{closed_slots}
use Rattle.dsr_rotation.proofs.Lemmas.{closed_slots_count}
use Rattle.dsr_replica.specs.Support.Flights.{Flights, decided_with}
use Rattle.dsr_replica.specs.Support.ReplicaFields.{with_decided}
use Rattle.dsr_replica.proofs.Standing.{some_replica, asked_clients, decided_count}
use Rattle.dsr_replica.proofs.replica.Replica.close.Goals as goal

pub add_decided-requires-clause-clients : goal.add_decided-requires-clause-clients
add_decided-requires-clause-clients c =
    let a = c.self.inside in
    λ value is.
    let asked : All (IsAsked a.flights.shape) (signed_in value) =
    subst (λ o. IfSome o (λ v. All (IsAsked a.flights.shape) (signed_in v))) is c.close-decision.ensures.asked in
    subst (λ m. All (λ (r : Request). r.client < m) (requests_in value)) (sym c.self.invariant.clients) (asked_clients a.flights.shape value asked)

pub add_decided-requires-clause-short : goal.add_decided-requires-clause-short
add_decided-requires-clause-short c =
    let a = c.self.inside in
    let counted = c.self.invariant.counted in
    let closed = closed_slots_count a.flights.shape a.flights.round in
    let below : a.flights.round < 2 ^ 36 = rw (← c.self.view_is) at c.requires.below in
    omega (arith, counted, closed, below)

pub invariant_of-self-2 : goal.invariant_of-self-2
invariant_of-self-2 c =
    let a = c.self.inside in
    let next = c.close-decision.ensures.next in
    let shape = ap (λ (f : Flights). f.shape) next in
    let round = ap (λ (f : Flights). f.round) next in
    let values : c.add_decided.new.decisions.values ≡ with_decided (decided_with a.flights.shape a.flights.round a.flights.slots) a.decisions.values =
    c.add_decided.ensures.values ∙ ap (λ o. with_decided o a.decisions.values) c.close-decision.ensures.decided in
    let below : a.flights.round < 2 ^ 36 = rw (← c.self.view_is) at c.requires.below in
    record {
      inside = subst (λ (s : Shape). 0 < s.n) (sym shape) (some_replica a.due a.flights.shape.n c.self.invariant.inside);
      counted = ap length values
          ∙ (decided_count a.flights.shape a.flights.round a.flights.slots a.decisions.values c.close-decision.ensures.in_flight c.self.invariant.counted
          ∙ ap (λ (f : Flights). closed_slots f.shape f.round) (sym next));
      clients = c.add_decided.ensures.clients ∙ (c.self.invariant.clients ∙ ap (λ (s : Shape). s.m) (sym shape));
      asks = c.self.invariant.asks ∙ ap (λ (s : Shape). s.m) (sym shape);
      within = omega (arith, round, below);
    }

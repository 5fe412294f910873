use Rattle.std.proofs.Common.{◌≡◌, nat_lt, length, map, ◌∷◌, ◌++◌, [], ap, ap₂, sym, ◌∙◌, subst, arith, if◌then◌else◌}
use Rattle.std.specs.Prelude.{All}
use Rattle.std.proofs.lemmas.List.{length-map}
use Rattle.dsr_slot.specs.SlotState.{SlotState, with_closed}
use Rattle.dsr_replica.specs.Support.Flights.{HasOpenRound, rest_of, going_on}
use Rattle.dsr_replica.proofs.InFlight.{first_is_last, all_open, all_of_shape, few_go_on, next_flies}
use Rattle.dsr_rotation.specs.Calendar.{closed_slots}
use Rattle.dsr_replica.proofs.flights.Flights.close.Goals as goal

pub decide_first-decision-requires : goal.decide_first-decision-requires
decide_first-decision-requires c =
    let a = c.self.inside in
    record { last = λ e. first_is_last a.shape a.round a.slots.items c.self.invariant.in_flight (ap (nat_lt a.round) (sym c.f.ensures.same) ∙ e) }

pub close_each-requires : goal.close_each-requires
close_each-requires c =
    let a = c.self.inside in
    let items = a.slots.items in
    let going : c.decide_first-decision.new.slots.items ≡ going_on a.shape a.round items =
    c.decide_first-decision.ensures.rest ∙ ap (λ f. if nat_lt a.round f then items else rest_of items) c.f.ensures.same in
    subst (All HasOpenRound) (sym going) (all_open a.shape a.round items c.self.invariant.in_flight)

pub push_reserved-requires : goal.push_reserved-requires
push_reserved-requires c =
    let a = c.self.inside in
    let items = a.slots.items in
    let going : c.decide_first-decision.new.slots.items ≡ going_on a.shape a.round items =
    c.decide_first-decision.ensures.rest ∙ ap (λ f. if nat_lt a.round f then items else rest_of items) c.f.ensures.same in
    let closed : c.close_each.new.slots.items ≡ map with_closed (going_on a.shape a.round items) = c.close_each.ensures.closed ∙ ap (map with_closed) going in
    let count = ap length closed ∙ length-map (going_on a.shape a.round items) with_closed in
    let few = few_go_on a.shape a.round items c.self.invariant.in_flight in
    let room = c.self.invariant.room in
    let same = c.close_each.ensures.room in
    let same_first = c.decide_first-decision.ensures.room in
    let counted = c.close_each.new.slots.ok.0 in
    omega (arith, count, few, room, same, same_first, counted)

pub invariant_of-self : goal.invariant_of-self
invariant_of-self c =
    let a = c.self.inside in
    let items = a.slots.items in
    let going : c.decide_first-decision.new.slots.items ≡ going_on a.shape a.round items =
    c.decide_first-decision.ensures.rest ∙ ap (λ f. if nat_lt a.round f then items else rest_of items) c.f.ensures.same in
    let closed : c.close_each.new.slots.items ≡ map with_closed (going_on a.shape a.round items) = c.close_each.ensures.closed ∙ ap (map with_closed) going in
    let room = c.self.invariant.room in
    let same = c.close_each.ensures.room in
    let same_first = c.decide_first-decision.ensures.room in
    let same_last = c.push_reserved.ensures.capacity in
    record {
      in_flight = next_flies a.shape a.round items c.push_reserved.new.self.items c.self.invariant.in_flight
          (c.push_reserved.ensures.items ∙ ap₂ (λ xs (s : SlotState). xs ++ s ∷ []) closed c.new.ensures.opened);
      room = omega (arith, room, same, same_first, same_last);
      few = c.self.invariant.few;
    }

pub returns-clause-asked : goal.returns-clause-asked
returns-clause-asked c =
    let a = c.self.inside in
    rw (← c.self.view_is)
    (c.decide_first-decision.ensures.asked a.shape (all_of_shape a.shape a.round a.slots.items (closed_slots a.shape a.round) c.self.invariant.in_flight))

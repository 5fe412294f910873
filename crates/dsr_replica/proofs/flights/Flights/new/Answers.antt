use Rattle.std.proofs.Common.{◌≡◌, [], ◌∷◌, ◌++◌, arith, ap₂, ◌∙◌}
use Rattle.dsr_slot.specs.SlotState.{SlotState, opened}
use Rattle.dsr_replica.proofs.InFlight.{first_flight}
use Rattle.dsr_replica.proofs.flights.Flights.new.Goals as goal

pub invariant_of-result : goal.invariant_of-result
invariant_of-result c =
    let shape = c.args.shape.now in
    let one : c.push_reserved.new.self.items ≡ opened shape 0 ∷ [] =
    c.push_reserved.ensures.items ∙ ap₂ (λ xs (s : SlotState). xs ++ s ∷ []) c.in_ok-slots.ensures.items c.new.ensures.opened in
    let room = c.in_ok-slots.ensures.capacity in
    let same = c.push_reserved.ensures.capacity in
    let f = c.f.ensures.same in
    let most = c.f.ensures.allowed.most_loyal in
    let all = c.f.ensures.allowed.few_replicas in
    record {
      in_flight = first_flight shape c.push_reserved.new.self.items one;
      room = omega (arith, room, same, f);
      few = omega (arith, most, all);
    }

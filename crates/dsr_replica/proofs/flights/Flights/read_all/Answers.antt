use Rattle.std.proofs.Common.{◌∙◌, List, [], ◌∷◌, ◌++◌, ap, append_assoc, refl, sym}
use Rattle.std.specs.Vec.Iter.{drain_items}
use Rattle.dsr_slot.specs.SlotState.{SlotState}
use Rattle.dsr_replica.specs.Support.Flights.{Flights}
use Rattle.dsr_replica.proofs.InFlight.{all_with, all_none, all_more}
use Rattle.dsr_replica.proofs.flights.Flights.read_all.Goals as goal

pub loop-chain-init : goal.loop-chain-init
loop-chain-init c =
    let before = c.args.self.now in
    (tt, tt, ap (λ slots. record before { slots = slots }) (sym (all_none before.slots)), refl)

-- reading one more chain
pub loop-chain-preserved : goal.loop-chain-preserved
loop-chain-preserved c =
    let before = c.args.self.now in
    let chain = c.in-Some.chain in
    let reads : Flights → Flights = λ f. record f { slots = all_with chain f.slots } in
    let whole : List SlotState → Flights = λ slots. record before { slots = slots } in
    let rest = drain_items c.next.new.self in
    let taken = append_assoc c.loop-chain.yielded (chain ∷ []) rest ∙ ap (λ later. c.loop-chain.yielded ++ later) (sym c.in-Some.ensures.steps.0) in (
      tt,
      tt,
      c.read.ensures ∙ (ap reads c.loop-chain.invariant.2 ∙ ap whole (all_more c.loop-chain.yielded chain before.slots)),
      taken ∙ c.loop-chain.invariant.3,
    )

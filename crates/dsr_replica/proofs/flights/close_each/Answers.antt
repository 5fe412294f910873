use Rattle.std.proofs.Common.{◌≡◌, ◌<◌, length, arith, ap, ap₂, sym, ◌∙◌, subst, add-one}
use Rattle.std.specs.Prelude.{slice_index_or, slice_set}
use Rattle.std.proofs.lemmas.List.Elements.{All-get_or}
use Rattle.dsr_slot.specs.SlotState.{with_closed}
use Rattle.dsr_replica.specs.Support.Flights.{HasOpenRound}
use Rattle.dsr_replica.proofs.InFlight.{first_closed, close_next, not_yet_closed, all_closed}
use Rattle.dsr_replica.proofs.flights.close_each.Goals as goal

pub close-requires : goal.close-requires
close-requires c =
    let slots = c.args.slots.now.items in
    let place = c.loop-place.place in
    let here = c.index_mut.result.now in
    let before = c.loop-place-test.true in
    let counted = c.len-place-end.ensures in
    let items = c.args.slots.now.ok.0 in
    let inside : place < length slots = omega (arith, before, counted, items) in
    let same = c.index_mut.ensures.value ∙ (ap (λ xs. slice_index_or xs place here) c.loop-place.invariant.0 ∙ not_yet_closed place slots here) in
    record { within = subst HasOpenRound (sym same) (All-get_or HasOpenRound slots place here inside c.requires) }

pub loop-place-preserved : goal.loop-place-preserved
loop-place-preserved c =
    let slots = c.args.slots.now.items in
    let place = c.loop-place.place in
    let here = c.index_mut.result.now in
    let before = c.loop-place-test.true in
    let counted = c.len-place-end.ensures in
    let items = c.args.slots.now.ok.0 in
    let inside : place < length slots = omega (arith, before, counted, items) in (
      ap₂ (λ xs s. slice_set xs place s) c.loop-place.invariant.0
          (c.close.ensures.closed ∙ ap with_closed (c.index_mut.ensures.value ∙ ap (λ xs. slice_index_or xs place here) c.loop-place.invariant.0))
          ∙ (close_next place slots here inside ∙ ap (λ n. first_closed n slots) (sym (add-one place))),
      c.loop-place.invariant.1,
    )

pub returns-clause-closed : goal.returns-clause-closed
returns-clause-closed c =
    let slots = c.args.slots.now.items in
    let past = c.loop-place-test.false in
    let within = c.loop-place.auto.place-end in
    let counted = c.len-place-end.ensures in
    let items = c.args.slots.now.ok.0 in
    let all : c.loop-place.place ≡ length slots = omega (arith, past, within, counted, items) in
    c.loop-place.invariant.0 ∙ (ap (λ n. first_closed n slots) all ∙ all_closed slots)

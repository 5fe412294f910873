use Rattle.std.proofs.Common.{◌≡◌, ◌∙◌, ◌+◌, ◌++◌, ◌∷◌, [], ap, ap₂, sym, take, add-one}
use Rattle.std.specs.Prelude.{slice_index_or}
use Rattle.std.proofs.Math.Seq.{take-suc}
use Rattle.dsr_chain.specs.Content.{value_of}
use Rattle.dsr_replica.specs.Support.Flights.{slot_post, posts_of}
use Rattle.dsr_replica.proofs.InFlight.{posts_more}
use Rattle.dsr_replica.proofs.flights.Flights.posts.Goals as goal

-- what is posted for one more slot
pub loop-slot-preserved : goal.loop-slot-preserved
loop-slot-preserved c =
    let me = c.args.key.now in
    let value = value_of c.args.signed.now in
    let slots = c.as_slice-slot-items.result.now in
    let place = c.loop-slot.slot-index in
    let s = c.slot-item.result in
    let front : take (place + 1) slots ≡ take place slots ++ slice_index_or slots place s ∷ [] =
    ap (λ n. take n slots) (add-one place) ∙ take-suc slots place s c.loop-slot-test.true in
    c.in_ok-append.ensures.items ∙ (ap₂ (λ xs ys. xs ++ ys) c.loop-slot.invariant (c.in_ok-part.ensures.posts ∙ ap (slot_post me value) c.slot-item.is)
    ∙ (sym (posts_more me value (take place slots) (slice_index_or slots place s)) ∙ ap (posts_of me value) (sym front)))

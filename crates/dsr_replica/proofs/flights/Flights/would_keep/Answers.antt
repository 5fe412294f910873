use Rattle.std.proofs.Common.{◌≡◌, ◌∙◌, ◌+◌, ◌++◌, ◌∷◌, [], map, ap, sym, take, add-one}
use Rattle.std.specs.Prelude.{slice_index_or}
use Rattle.std.proofs.Math.Seq.{take-suc}
use Rattle.dsr_replica.specs.Support.Flights.{with_chains}
use Rattle.dsr_replica.proofs.InFlight.{all_none, all_with, all_more}
use Rattle.dsr_replica.proofs.flights.Flights.would_keep.Goals as goal

pub loop-chain-init : goal.loop-chain-init
loop-chain-init c = all_none c.args.self.now.slots

-- one more chain that would not be kept
pub loop-chain-preserved : goal.loop-chain-preserved
loop-chain-preserved c =
    let slots = c.args.self.now.slots in
    let chains = c.args.chains.now in
    let place = c.loop-chain.chain-index in
    let chain = c.chain-item.result in
    let front : take (place + 1) chains ≡ take place chains ++ slice_index_or chains place chain ∷ [] =
    ap (λ n. take n chains) (add-one place) ∙ take-suc chains place chain c.loop-chain-test.true in
    ap (λ xs. map (with_chains xs) slots) front
    ∙ (sym (all_more (take place chains) (slice_index_or chains place chain) slots)
    ∙ (ap (all_with (slice_index_or chains place chain)) c.loop-chain.invariant
    ∙ (ap (λ x. all_with x slots) (sym c.chain-item.is) ∙ c.would_keep_one.ensures c.if-would_keep_one.false)))

use Rattle.std.proofs.Common.{rules, ◌≡◌, ◌∙◌, List, [], ◌∷◌, ◌++◌, ap, append_assoc, arith, suc, sym}
use Rattle.std.specs.Vec.Iter.{drain_items}
use Rattle.std.proofs.lemmas.Grind.{common_steps}
use Rattle.std.proofs.lemmas.List.Sums.{fold-append}
use Rattle.dsr_slot.proofs.Standing.{stands_on}
use Rattle.dsr_slot.specs.Keeping.{keep_one}
use Rattle.dsr_slot.specs.SlotState.{SlotState, with_chain, with_round}
use Rattle.dsr_slot.specs.declared.kept.Kept.{Kept}
use Rattle.dsr_slot.proofs.slot_state.SlotState.close_round.Goals as goal

pub returns-clause-stands : goal.returns-clause-stands
returns-clause-stands c =
    let before = c.args.self.now in
    let all : c.loop-chain.yielded ≡ c.args.chains.now.items = grind (arith, common_steps) in
    let whole : c.close.new.self ≡ with_round before c.args.round c.args.chains.now.items = search rules in
    λ read here stands. stands_on before c.close.new.self c.args.round c.args.chains.now.items read whole c.requires.next here stands

-- one chain more is the fold over one item more
pub loop-chain-preserved : goal.loop-chain-preserved
loop-chain-preserved c =
    let before = c.args.self.now in
    let step = keep_one before.shape before.slot (suc before.closed) in
    let one_more = sym (fold-append step before.kept c.loop-chain.yielded (c.in-Some.chain ∷ [])) in
    let keeps : SlotState → SlotState = λ s. with_chain s c.in-Some.chain in
    let whole : List Kept → SlotState = λ kept. record before { kept = kept } in
    let rest = drain_items c.next.new.self in
    let taken = append_assoc c.loop-chain.yielded (c.in-Some.chain ∷ []) rest ∙ ap (λ later. c.loop-chain.yielded ++ later) (sym c.in-Some.ensures.steps.0) in (
      tt,
      tt,
      c.read.ensures.read ∙ (ap keeps c.loop-chain.invariant.2 ∙ ap whole one_more),
      taken ∙ c.loop-chain.invariant.3,
      c.in-Some.ensures.steps.2.1 ∙ c.loop-chain.invariant.4,
    )

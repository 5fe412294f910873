use Rattle.std.proofs.Common.{◌≡◌, suc, false, sym, ◌∙◌, subst}
use Rattle.std.specs.List.{list_any}
use Rattle.dsr_slot.specs.Fate.{IsFate}
use Rattle.dsr_notes.proofs.ReadingLemmas.{is_chain_of, none_kept}
use Rattle.dsr_notes.proofs.reading.fate_after.Goals as goal

pub returns : goal.returns
returns c =
    let s = c.args.state.now in
    let before = c.args.before.now in
    let none = subst (λ slot. list_any (is_chain_of slot) before ≡ false) c.slot.ensures (sym c.has_chain_of.ensures ∙ c.if-has_chain_of.false) in
    subst (λ kept. IsFate s.shape s.slot (suc s.closed) kept c.args.chain.now c.fate-2.result) (sym (none_kept s.shape s.slot (suc s.closed) s.kept before none))
    c.fate-2.ensures.fate

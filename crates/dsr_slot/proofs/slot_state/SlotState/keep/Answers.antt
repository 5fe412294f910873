use Rattle.std.proofs.Common.{sym, ap, ◌∙◌, not}
use Rattle.dsr_slot.proofs.Fields.{first_filled, second_filled}
use Rattle.dsr_slot.proofs.KeepLemmas.{news_comes_second}
use Rattle.dsr_slot.specs.Support.SlotState.{slot_state_of}
use Rattle.dsr_slot.proofs.slot_state.SlotState.keep.Goals.{in-Some-2, in-None-2}
use Rattle.dsr_slot.proofs.slot_state.SlotState.keep.Goals as goal

pub returns-else-is_none : goal.returns-else-is_none
returns-else-is_none c =
    let state = c.self.inside in
    let news = sym (rw (← c.self.view_is) at c.is_news.ensures) ∙ c.if-not-is_news.false in
    let taken = c.is_none.ensures ∙ ap not c.if-is_none.false in
    let kept = ap (λ kept. record (slot_state_of state) { kept = kept }) (news_comes_second state.shape state.slot c.args.round state.first state.second c.args.chain news taken) in
    rw (← c.self.view_is) (elim c.match-self-kept-2.branch [
      | in-Some-2 w ↦ w.self-is ∙ kept
      | in-None-2 w ↦ w.self-is ∙ kept
    ])

pub invariant_of-self-then-is_none-2 : goal.invariant_of-self-then-is_none-2
invariant_of-self-then-is_none-2 c =
    let news = sym (rw (← c.self.view_is) at c.is_news.ensures) ∙ c.if-not-is_news.false in
    first_filled c.self.inside c.args.round c.args.chain c.self.invariant (rw (← c.self.view_is) at c.requires.within) news

pub invariant_of-self-else-is_none : goal.invariant_of-self-else-is_none
invariant_of-self-else-is_none c =
    let news = sym (rw (← c.self.view_is) at c.is_news.ensures) ∙ c.if-not-is_news.false in
    let taken = c.is_none.ensures ∙ ap not c.if-is_none.false in
    second_filled c.self.inside c.args.round c.args.chain c.self.invariant (rw (← c.self.view_is) at c.requires.within) news taken

pub invariant_of-self-else-is_none-2 : goal.invariant_of-self-else-is_none-2
invariant_of-self-else-is_none-2 c =
    let news = sym (rw (← c.self.view_is) at c.is_news.ensures) ∙ c.if-not-is_news.false in
    let taken = c.is_none.ensures ∙ ap not c.if-is_none.false in
    second_filled c.self.inside c.args.round c.args.chain c.self.invariant (rw (← c.self.view_is) at c.requires.within) news taken

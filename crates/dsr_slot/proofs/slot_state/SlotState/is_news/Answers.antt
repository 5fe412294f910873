use Rattle.dsr_slot.proofs.KeepLemmas.{news_beside_other, no_news_beside_same}
use Rattle.dsr_slot.proofs.slot_state.SlotState.is_news.Goals as goal

pub returns-then-not-same_content : goal.returns-then-not-same_content
returns-then-not-same_content c =
    rw (← c.self.view_is, c.in-Some-None.is-0, c.in-Some-None.is-1) (
    news_beside_other c.self.inside.shape c.self.inside.slot c.args.round c.in-Some-None.kept c.args.chain.now
    c.is_proper-then-not-same_content.result c.same_content.result (rw (← c.self.view_is) at c.is_proper-then-not-same_content.ensures)
    c.same_content.ensures c.if-not-same_content.true)

pub returns-else-not-same_content : goal.returns-else-not-same_content
returns-else-not-same_content c =
    rw (← c.self.view_is, c.in-Some-None.is-0, c.in-Some-None.is-1) (
    no_news_beside_same c.self.inside.shape c.self.inside.slot c.args.round c.in-Some-None.kept c.args.chain.now c.same_content.result
    c.same_content.ensures c.if-not-same_content.false)

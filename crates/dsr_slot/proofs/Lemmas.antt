-- What the crates above use of one slot: what is kept and what it comes from, what a loyal replica posts and what is in it,
-- the law of agreement, and that none of it depends on who is a traitor.
pub use Rattle.dsr_slot.proofs.Lists.{holds_or_not, by_test, in_filter, from_filter, in_map, from_map, in_each, from_one}
pub use Rattle.dsr_slot.proofs.Keeps.{Apart, IsNews, is_news-Decides, skips_other_slots, WasKept, after_from, after_few, after_apart, after_distinct, after_came, after_stays, after_hears, after_heard}
pub use Rattle.dsr_slot.proofs.Deciding.{after_same, decision_from, decision_asked, decided_asked}
pub use Rattle.dsr_slot.proofs.Posting.{HasSigned, IsRelayed, is_relayed-Decides, IsRelay, IsStart, relay_posted, start_posted, posted_from, WasRelayed, post_cases, post_proper, IsOwn, post_own, StoodBefore, post_other}
pub use Rattle.dsr_slot.proofs.Agreement.{agreement, validity}
pub use Rattle.dsr_slot.proofs.Blindness.{kept_blind, posted_blind, decided_blind}
pub use Rattle.dsr_slot.proofs.Silence.{silent_broadcast}

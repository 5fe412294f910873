-- What the crates above use of histories.
pub use Rattle.dsr_history.proofs.HistoryLaws.{acted_extends, answers_kept, legal_acting}
pub use Rattle.dsr_history.proofs.LastReplies.{HasReply, reply_last, reply_none, reply_some}
pub use Rattle.dsr_history.proofs.Standing.{In-acted, In-stands, stands_answered, stands_later, stood_before, stands_once, reply_stands}

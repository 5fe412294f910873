-- What the crates above take from one actor's protocol.
pub use Rattle.dsr_node.proofs.Blindness.{post_blind, is_actor_blind, exhausted_blind, undue_blind}
pub use Rattle.dsr_node.proofs.Playing.{client_plays, honest_plays}
pub use Rattle.dsr_node.proofs.Conduct.{replica_next, round_below, client_next, new_request_within, take_due, take_next}

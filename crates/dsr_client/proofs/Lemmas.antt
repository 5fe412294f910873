-- What the crates above use of a client's log: the facts behind accepted replies, that they stay, that one loyal replica gave each,
-- that loyal replicas are enough, that they are numbered and each entry accepts at most one, one request under a number, which
-- choice an ask shows, what the issue fronts are, how the seen front grows, and that none of it depends on who is a traitor.
pub use Rattle.dsr_client.proofs.Accepting.{was_accepted, loyal_gave}
pub use Rattle.dsr_client.proofs.Answering.{accepted_grow, AgreeOn, answered}
pub use Rattle.dsr_client.proofs.Asked.{posted_before, was_posted}
pub use Rattle.dsr_client.proofs.Blindness.{state_blind, seen_blind, ask_blind, actor_blind, next_blind, conduct_blind}
pub use Rattle.dsr_client.proofs.Carried.{WasAsked, client_posted}
pub use Rattle.dsr_client.proofs.Choosing.{chosen_ask, choice_told, operation_told, none_told, plain_ask, new_ask}
pub use Rattle.dsr_client.proofs.Counted.{accept_cases, take_quiet, ask_begins, post_none, accepted_numbered, accepted_posted, accepted_below, numbered_within, numbered_once}
pub use Rattle.dsr_client.proofs.Dropping.{early, again}
pub use Rattle.dsr_client.proofs.Fronts.{seen_above, seen_grows, seen_below}
pub use Rattle.dsr_client.proofs.Issuing.{unasked, no_front, first_front, front_stays, issued, front_told, front_below, next_unasked}
pub use Rattle.dsr_client.proofs.Numbers.{IsOwn, IsNumbered, numbered}

-- What the crates above use of a replica's log: the number of its posts and takes, that a post that is due can be made, that the posts
-- of a round are equal and are its envelope by the log, what each chain and each signature in a post comes from, that closed rounds,
-- kept chains and decided values stay, what held asks, requests and replies come from, what is within the limits, which choice an
-- envelope shows, and that none of it depends on who is a traitor.
pub use Rattle.dsr_replica.proofs.Acting.{acted_source}
pub use Rattle.dsr_replica.proofs.Asks.{IsOwnAsk, WasHeld, held_from, AreHeld, all_held_from}
pub use Rattle.dsr_replica.proofs.Blindness.{due_blind, rounds_blind, slot_kept_blind, decided_values_blind, held_blind, envelope_to_blind, reply_to_blind, next_blind, loyal_blind}
pub use Rattle.dsr_replica.proofs.Choosing.{allowed_is, acting_value}
pub use Rattle.dsr_replica.proofs.Counting.{post_due, counts, all_taken}
pub use Rattle.dsr_replica.proofs.Growing.{HasTaken, kept_same, decided_same, chains_same, values_same, values_grow, decided_grow, rounds_grow}
pub use Rattle.dsr_replica.proofs.Joining.{get_grown}
pub use Rattle.dsr_replica.proofs.Later.{read_later, kept_later, decided_later, history_later, post_of_round, part_of_round, post_source}
pub use Rattle.dsr_replica.proofs.Possible.{plain_possible}
pub use Rattle.dsr_replica.proofs.Posting.{chosen_then, equal_posts, lawful_posts}
pub use Rattle.dsr_replica.proofs.Proposing.{held_offered, each_held, held_in_order}
pub use Rattle.dsr_replica.proofs.Replied.{reply_later, replied}
pub use Rattle.dsr_replica.proofs.Replying.{history_few, history_fits, next_fits}
pub use Rattle.dsr_replica.proofs.Saying.{reply_made, IsFrom, from_parts}
pub use Rattle.dsr_replica.proofs.Shown.{own_last, only_sender_proposes, sender_last, sender_shows, plain_shows, choice_shown}
pub use Rattle.dsr_replica.proofs.Sources.{taken_entry, in_some, carried_for, in_part, chain_posted, round_source}

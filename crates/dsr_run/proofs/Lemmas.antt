-- What the crates above take from runs: the logs of a run keep their protocol, and an earlier run is one; what boxes hold, what is
-- forged and what is known; agreement, the history, what is right and within the limits; which steps may be next; whom a replica
-- proposed last; and what eager replicas propose, and by when that has acted and is answered.
pub use Rattle.dsr_run.proofs.Logs.{log_cases, run_before, log_loyal, log_client, logs_grew, logs_step, no_logs}
pub use Rattle.dsr_run.proofs.Boxes.{in_log, from_log, posted_entry, IsBox, boxes, found_was_posted, taken_was_posted, actors_within, posted_cases, posted_still, taken_cases, taken_still}
pub use Rattle.dsr_run.proofs.Forging.{has_posted_later, AllMade, all_made, step_made, taken_made, posted_made}
pub use Rattle.dsr_run.proofs.Family.{rounds_near}
pub use Rattle.dsr_run.proofs.Agreeing.{same_decided, decided_extends, one_extends}
pub use Rattle.dsr_run.proofs.Proposing.{as_proposed, decided_was_proposed}
pub use Rattle.dsr_run.proofs.Links.{two_links, one_link}
pub use Rattle.dsr_run.proofs.Histories.{extends_on, IsFrom, most_from, most_long, most_extends, history_extends, history_is, history_grows, history_legal}
pub use Rattle.dsr_run.proofs.Within.{rounds_within, posted_within, taken_within, loyal_next_within, history_within}
pub use Rattle.dsr_run.proofs.Asking.{outstanding_within}
pub use Rattle.dsr_run.proofs.Agreements.{all_agree}
pub use Rattle.dsr_run.proofs.Deciding.{IsBest, as_best, best_kept, best_more, best_past}
pub use Rattle.dsr_run.proofs.Righting.{all_right, lent_answered, lent_right}
pub use Rattle.dsr_run.proofs.NextSteps.{run_logs, post_within, post_next, take_next, own_keeps}
pub use Rattle.dsr_run.proofs.Knowing.{known_posted, known_still}
pub use Rattle.dsr_run.proofs.Linearizing.{linearized, logs_linearized, logs_places_rise}
pub use Rattle.dsr_run.proofs.LogLaws.{seen_within}
pub use Rattle.dsr_run.proofs.Answering.{acts_in_time, acts_in_logs}
pub use Rattle.dsr_run.proofs.Serving.{answered_in_run, answered_in_logs}
pub use Rattle.dsr_run.proofs.Offering.{next_are_clients, next_held, goes_on}
pub use Rattle.dsr_run.proofs.Eagerness.{plain_last, picked_last}

-- What the crates above take from voting: that f+1 votes have a loyal one among them, and that loyal replicas are enough.
pub use Rattle.dsr_quorum.proofs.Voting.{vote_is, is_vote, some_voter, loyal_voter, winner_votes, none_enough, loyal_enough, loyal_win}
pub use Rattle.dsr_quorum.proofs.Standing.{winner_again}

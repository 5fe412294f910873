use Rattle.std.proofs.Common.{◌≡◌, ◌≤◌, None}
use Rattle.std.specs.Prelude.{slice_index_or}
use Rattle.dsr_base.specs.Bits.{count_below}
use Rattle.dsr_quorum.specs.Votes.{is_reply}
use Rattle.dsr_quorum.proofs.tally.Tally.votes.Given as goal

-- counted are the votes of the replicas below the place
abbrev pub invariant-loop-place : goal.invariant-loop-place
invariant-loop-place l = record {
  counted : l.count ≡ count_below (λ replica. is_reply l.reply (slice_index_or l.self.firsts replica None)) l.place;
  few : l.count ≤ l.place;
}

-- How a tally counts the votes for a reply. Private contracts alone cite this.
use Rattle.std.specs.Prelude.{ℕ, None, slice_index_or, if◌then◌else◌}
use Rattle.dsr_base.specs.Bits.{count_below}
use Rattle.dsr_ledger.specs.declared.reply.Reply.{Reply}
use Rattle.dsr_quorum.specs.Tally.{Tally}
use Rattle.dsr_quorum.specs.Votes.{is_reply}

-- 1 if this replica's first reply is the reply, else 0
abbrev pub vote_in : Tally → Reply → ℕ → ℕ
vote_in tally reply replica = if is_reply reply (slice_index_or tally.firsts replica None) then 1 else 0

-- the number of first replies that are the reply
abbrev pub votes_in : Tally → Reply → ℕ
votes_in tally reply = count_below (λ replica. is_reply reply (slice_index_or tally.firsts replica None)) tally.n

-- What contracts see of a tally (this project).
use Rattle.std.specs.Prelude.{◌≡◌, ℕ, ◌<◌, List, Option, None, slice_index_or}
use Rattle.dsr_ledger.specs.declared.reply.Reply.{Reply}
use Rattle.dsr_quorum.specs.Votes.{Note, first_of, winner}

-- the greatest number of votes that are too few, the number of replicas, each replica's first reply, and
-- the reply that won
pub record Tally : Type 0 where
  pub f : ℕ
  pub n : ℕ
  pub firsts : List (Option Reply)
  pub winner : Option Reply

-- the tally represents these notes
pub record StandsFor (tally : Tally) (notes : List Note) : Type 0 where
  pub firsts : (replica : ℕ) → replica < tally.n → slice_index_or tally.firsts replica None ≡ first_of replica notes
  pub winner : tally.winner ≡ winner tally.f tally.n notes

-- Facts about the chains that are kept (this project's words for what Dolev and Strong 1983 use).
use Rattle.std.specs.Prelude.{◌≡◌, ◌⊎◌, ℕ, ◌<◌, ◌≤◌, List, Option, length}
use Rattle.dsr_base.specs.Member.{In}
use Rattle.dsr_names.specs.Shape.{Shape}
use Rattle.dsr_request.specs.Request.{Request}
use Rattle.dsr_chain.specs.Proper.{IsProper}
use Rattle.dsr_chain.specs.Chain.{Chain}
use Rattle.dsr_slot.specs.declared.kept.Kept.{Kept}
use Rattle.dsr_slot.specs.Keeping.{content_of}

-- one of the kept chains has this content
abbrev pub HasContent : Option (List Request) → List Kept → Type 0
HasContent wanted kept = (k : Kept) × In k kept × (content_of k ≡ wanted)

-- the content is kept, or at least two chains are
abbrev pub Hears : List Kept → Option (List Request) → Type 0
Hears kept wanted = HasContent wanted kept ⊎ (2 ≤ length kept)

-- the chain was read in the round stored with it, one of this number of first rounds, and is proper for that round
pub record CameFrom (shape : Shape) (slot : ℕ) (read : ℕ → List Chain) (rounds : ℕ) (k : Kept) : Type 0 where
  pub counted : 0 < k.round
  pub within : k.round ≤ rounds
  pub was_read : In k.chain (read k.round)
  pub proper : IsProper shape slot k.round k.chain

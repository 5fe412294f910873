-- What a replica keeps for a slot: the first two, with distinct contents, among the proper chains that it reads in the
-- slot's rounds (Dolev and Strong 1983: a value is extracted when a message of round r carries it with r signatures;
-- they show that two values are enough).
use Rattle.std.specs.Prelude.{ℕ, zero, suc, List, [], ◌∷◌, ◌++◌, Option, Bool, ◌&&◌, not, length, nat_lt, fold, if◌then◌else◌}
use Rattle.std.specs.List.{list_any}
use Rattle.dsr_names.specs.Shape.{Shape}
use Rattle.dsr_request.specs.Request.{Request}
use Rattle.dsr_chain.specs.Content.{content}
use Rattle.dsr_chain.specs.Chain.{Chain}
use Rattle.dsr_chain.specs.ProperTest.{is_proper, same_content}
use Rattle.dsr_slot.specs.declared.kept.Kept.{Kept}

-- this chain, kept in this round
abbrev pub kept_in : ℕ → Chain → Kept
kept_in round chain = record { round = round; chain = chain }

-- the content of a kept chain
abbrev pub content_of : Kept → Option (List Request)
content_of k = content k.chain.value

-- whether one of the kept chains has this content
abbrev pub is_kept : Option (List Request) → List Kept → Bool
is_kept wanted kept = list_any (λ k. same_content (content_of k) wanted) kept

-- whether a chain that is read in this round is kept beside these: it is proper for the round, none of them has its
-- content, and they are fewer than two
abbrev pub is_news : Shape → ℕ → ℕ → List Kept → Chain → Bool
is_news shape slot round kept chain =
    is_proper shape slot round chain && (not (is_kept (content chain.value) kept) && nat_lt (length kept) 2)

-- what is kept after one more chain was read in this round
abbrev pub keep_one : Shape → ℕ → ℕ → List Kept → Chain → List Kept
keep_one shape slot round kept chain = if is_news shape slot round kept chain then kept ++ kept_in round chain ∷ [] else kept

-- what is kept after these chains were read in this round, in their order
abbrev pub keep : Shape → ℕ → ℕ → List Kept → List Chain → List Kept
keep shape slot round kept chains = fold (keep_one shape slot round) kept chains

-- what is kept after this number of the slot's first rounds, if `read` gives the chains of each round
abbrev pub kept_after : Shape → ℕ → (ℕ → List Chain) → ℕ → List Kept
kept_after shape slot read zero = []
kept_after shape slot read (suc r) = keep shape slot (suc r) (kept_after shape slot read r) (read (suc r))

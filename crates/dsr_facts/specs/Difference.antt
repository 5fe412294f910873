-- How an envelope differs from the one that an actor posts there (this project).
use Rattle.std.specs.Prelude.{◌≡◌, ◌≢◌, ℕ, ◌<◌, List, [], Option, None, Some, Any, slice_get}
use Rattle.dsr_chain.specs.Chain.{Chain, signers_of}
use Rattle.dsr_envelope.specs.declared.envelope.Envelope.{Envelope}
use Rattle.dsr_envelope.specs.declared.envelope.Envelope.TheVariants.{Empty, Round, Ask, Reply, Seen}
use Rattle.dsr_facts.specs.declared.difference.Difference.{Difference}
use Rattle.dsr_facts.specs.declared.difference.Difference.TheVariants.{OtherKind, OtherRound, Chains, OtherAsk, OtherReply, OtherFront}
use Rattle.dsr_facts.specs.declared.difference.Parting.{Parting}
use Rattle.dsr_facts.specs.declared.difference.Parting.TheVariants.{TooMany, Missing, Misplaced, OtherContent}

-- two lists agree before this place, and not at it: there they go on with `next` and `other`, or end
pub record PartAt (place : ℕ) (ours theirs : List Chain) (next other : Option Chain) : Type 0 where
  pub before : (i : ℕ) → i < place → slice_get ours i ≡ slice_get theirs i
  pub ours_next : slice_get ours place ≡ next
  pub theirs_next : slice_get theirs place ≡ other
  pub apart : next ≢ other

-- for one slot, and with the same signers
abbrev pub AreAlike : Chain → Chain → Type 0
AreAlike x y = (x.slot ≡ y.slot) × (signers_of x.signatures ≡ signers_of y.signatures)

-- the chain is one of these
abbrev pub IsOneOf : Chain → List Chain → Type 0
IsOneOf x chains = Any (λ c. c ≡ x) chains

-- what is wrong at the place at which the lists part, if ours goes on with the first and theirs with the second. Another content: both have
-- one slot and the same signers. Otherwise, one too many: ours has ended, or theirs goes on with what is nowhere in ours; missing: theirs
-- has ended, or it goes on with what is in ours, but ours with what is nowhere in theirs; misplaced: each is in the other list too
abbrev pub IsParting : List Chain → List Chain → Option Chain → Option Chain → Parting → Type 0
IsParting ours theirs None (Some y) TooMany = Unit {0}
IsParting ours theirs (Some x) None Missing = Unit {0}
IsParting ours theirs (Some x) (Some y) TooMany = (AreAlike x y → ⊥) × (IsOneOf y ours → ⊥)
IsParting ours theirs (Some x) (Some y) Missing = (AreAlike x y → ⊥) × IsOneOf y ours × (IsOneOf x theirs → ⊥)
IsParting ours theirs (Some x) (Some y) Misplaced = (AreAlike x y → ⊥) × IsOneOf y ours × IsOneOf x theirs
IsParting ours theirs (Some x) (Some y) OtherContent = AreAlike x y
IsParting ours theirs next other how = ⊥

-- the lists part at this place, and this is wrong there
pub record ArePartedAt (place : ℕ) (ours theirs : List Chain) (how : Parting) : Type 0 where
  pub next : Option Chain
  pub other : Option Chain
  pub part : PartAt place ours theirs next other
  pub is : IsParting ours theirs next other how

-- how two lists of chains differ if one belongs to the empty envelope: they part somewhere, or neither has a chain, and then only the
-- kinds of the envelopes differ
abbrev pub DifferInChains : List Chain → List Chain → Difference → Type 0
DifferInChains ours theirs (Chains place how) = ArePartedAt place ours theirs how
DifferInChains ours theirs OtherKind = (ours ≡ []) × (theirs ≡ [])
DifferInChains ours theirs d = ⊥

-- how two envelopes of rounds differ
abbrev pub DifferInRounds : ℕ → ℕ → List Chain → List Chain → Difference → Type 0
DifferInRounds ours theirs xs ys OtherRound = ours ≢ theirs
DifferInRounds ours theirs xs ys (Chains place how) = (ours ≡ theirs) × ArePartedAt place xs ys how
DifferInRounds ours theirs xs ys d = ⊥

-- how the second envelope differs from the first, which is wanted. The empty envelope is compared as a round's envelope with no chain
abbrev pub IsDifference : Envelope → Envelope → Difference → Type 0
IsDifference (Round r xs) (Round s ys) d = DifferInRounds r s xs ys d
IsDifference Empty (Round s ys) d = DifferInChains [] ys d
IsDifference (Round r xs) Empty d = DifferInChains xs [] d
IsDifference (Ask a) (Ask b) OtherAsk = a ≢ b
IsDifference (Reply a) (Reply b) OtherReply = a ≢ b
IsDifference (Seen a) (Seen b) OtherFront = a ≢ b
IsDifference Empty Empty d = ⊥
IsDifference (Ask a) (Ask b) d = ⊥
IsDifference (Reply a) (Reply b) d = ⊥
IsDifference (Seen a) (Seen b) d = ⊥
IsDifference wanted found OtherKind = Unit {0}
IsDifference wanted found d = ⊥

-- What becomes of the chains of an envelope that a loyal replica takes from another (Dolev and Strong 1983, slot by slot).
use Rattle.std.specs.Prelude.{◌≡◌, ℕ, suc, ◌-◌, ◌==◌, Bool, true, false, List, [], ◌∷◌, ◌++◌, length, if◌then◌else◌}
use Rattle.dsr_names.specs.Shape.{Shape}
use Rattle.dsr_rotation.specs.Calendar.{first_round, IsInFlight, IsRoundOf}
use Rattle.dsr_chain.specs.Chain.{Chain as AChain}
use Rattle.dsr_slot.specs.Fate.{IsFate}
use Rattle.dsr_slot.specs.Keeping.{keep}
use Rattle.dsr_slot.specs.declared.kept.Kept.{Kept as AKept}
use Rattle.dsr_envelope.specs.Envelope.{chains_for}
use Rattle.dsr_envelope.specs.Log.{rounds}
use Rattle.dsr_envelope.specs.declared.entry.Entry.{Entry}
use Rattle.dsr_envelope.specs.declared.envelope.Envelope.{Envelope}
use Rattle.dsr_envelope.specs.declared.envelope.Envelope.TheVariants.{Empty, Round, Ask, Reply, Seen}
use Rattle.dsr_replica.specs.Decided.{slot_kept}
use Rattle.dsr_notes.specs.declared.note.ChainFate.{ChainFate}
use Rattle.dsr_notes.specs.declared.note.ChainFate.TheVariants.{Read, NotInFlight}
use Rattle.dsr_notes.specs.declared.note.Note.{Note}
use Rattle.dsr_notes.specs.declared.note.Note.TheVariants.{OtherRound, Chain}

-- what the replica keeps of a slot, in the slot's round that is in progress, once it has read these chains too
abbrev pub kept_with : Shape → List Entry → ℕ → List AChain → List AKept
kept_with shape log slot chains =
    keep shape slot (suc (rounds shape log - first_round shape slot))
    (slot_kept shape log slot (suc (rounds shape log - first_round shape slot))) chains

-- what becomes of a chain if the chains before it in its envelope have been read
abbrev pub IsChainFate : Shape → List Entry → List AChain → AChain → ChainFate → Type 0
IsChainFate shape log before chain NotInFlight = ¬ IsInFlight shape chain.slot (rounds shape log)
IsChainFate shape log before chain (Read round fate) =
    IsRoundOf shape chain.slot (rounds shape log) round × IsFate shape chain.slot round (kept_with shape log chain.slot before) chain fate

-- the notes are the fates of these chains, in their order, one for each; `before` are the chains before them in their envelope
abbrev pub AreFates : Shape → List Entry → List AChain → List AChain → List Note → Type 0
AreFates shape log before [] notes = notes ≡ []
AreFates shape log before (chain ∷ more) [] = ⊥
AreFates shape log before (chain ∷ more) (note ∷ notes) =
    ((fate : ChainFate) × (note ≡ Chain (length before) chain.slot fate) × IsChainFate shape log before chain fate)
    × AreFates shape log (before ++ chain ∷ []) more notes

-- whether the envelope is the empty one, or one of this round
abbrev pub counts_in : ℕ → Envelope → Bool
counts_in t Empty = true
counts_in t (Round round chains) = round == t
counts_in t (Ask ask) = false
counts_in t (Reply reply) = false
counts_in t (Seen front) = false

-- a note if it is neither: none of its chains counts
abbrev pub silence : ℕ → Envelope → List Note
silence t envelope = if counts_in t envelope then [] else OtherRound t ∷ []

-- the notes are what the replica makes of this envelope's chains: which fate each chain of the round in progress has
pub record IsRead (shape : Shape) (log : List Entry) (envelope : Envelope) (notes : List Note) : Type 0 where
  pub fates : List Note
  pub are : AreFates shape log [] (chains_for (rounds shape log) envelope) fates
  pub is : notes ≡ silence (rounds shape log) envelope ++ fates

-- Which tries at clients a traitor's host made in a round, in their order (this project). A try asks the gate with the host's next turn; one that
-- finds a box full or empty leaves no entry. No public contract cites this.
use Rattle.std.specs.Prelude.{◌≡◌, ◌⊎◌, ℕ, zero, suc, Bool, None, Some}
use Rattle.dsr_names.specs.declared.actor.Actor.{Actor}
use Rattle.dsr_names.specs.declared.actor.Actor.TheVariants.{Client}
use Rattle.dsr_envelope.specs.declared.envelope.Envelope.{Envelope}
use Rattle.dsr_envelope.specs.declared.entry.Entry.TheVariants.{Take}
use Rattle.dsr_script.specs.Script.{Script, draft_at, place_of}
use Rattle.dsr_boxes.specs.Pass.{Pass}
use Rattle.dsr_calls.specs.Calls.{number_of}
use Rattle.dsr_rounds.specs.Ends.{HasTried, turn_after}
use Rattle.dsr_rounds.specs.Traitors.{HasPlanted}
use Rattle.dsr_rounds.specs.declared.traitor.Planting.{Planting}

-- one turn, which the gate may let pass, went to a try to take from the client: the next turn is the one after it (the last, 2^40-1, stays)
abbrev pub TriesTake : (Actor → ℕ → Type 0) → ℕ → Pass → Pass → ℕ → ℕ → Type 0
TriesTake may c old new now next = may old.actor now × (next ≡ turn_after now) × ((made : Bool) × HasTried (Take (Client c)) old new made)

-- one such try went to each of the clients below number c, in their order
abbrev pub TriesTakes : (Actor → ℕ → Type 0) → ℕ → Pass → Pass → ℕ → ℕ → Type 0
TriesTakes may zero old new now next = (new ≡ old) × (next ≡ now)
TriesTakes may (suc c) old new now next = (mid : Pass) × (turn : ℕ) × TriesTakes may c old mid now turn × TriesTake may c mid new turn next

-- if the script has a draft of the round for the client, one turn went to a try to post it; else none did
abbrev pub TriesPost : (Actor → ℕ → Type 0) → Script → ℕ → ℕ → Pass → Pass → ℕ → ℕ → Type 0
TriesPost may script round c old new now next =
    ((draft_at script (place_of (number_of old.actor) round (Client c)) ≡ None) × (new ≡ old) × (next ≡ now))
    ⊎ ((draft : Envelope) × (draft_at script (place_of (number_of old.actor) round (Client c)) ≡ Some draft) × may old.actor now
    × (next ≡ turn_after now) × ((planting : Planting) × HasPlanted old new (Client c) draft planting))

-- the same is true of each of the clients below number c, in their order
abbrev pub TriesPosts : (Actor → ℕ → Type 0) → Script → ℕ → ℕ → Pass → Pass → ℕ → ℕ → Type 0
TriesPosts may script round zero old new now next = (new ≡ old) × (next ≡ now)
TriesPosts may script round (suc c) old new now next = (mid : Pass) × (turn : ℕ) × TriesPosts may script round c old mid now turn
    × TriesPost may script round c mid new turn next

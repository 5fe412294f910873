-- What a loyal replica posts for a slot in each of its rounds (Dolev and Strong 1983: a value that was extracted in round
-- r is passed on in round r+1, with one signature more).
use Rattle.std.specs.Prelude.{ℕ, suc, List, [], ◌∷◌, ◌++◌, Bool, ◌&&◌, ◌==◌, not, map, filter, if◌then◌else◌}
use Rattle.dsr_names.specs.Shape.{Shape}
use Rattle.dsr_names.specs.declared.actor.Actor.{Actor}
use Rattle.dsr_names.specs.Support.ActorEquality.{actor_eq}
use Rattle.dsr_chain.specs.Chain.{Chain, extended, started}
use Rattle.dsr_chain.specs.ProperTest.{is_signer}
use Rattle.dsr_chain.specs.Proper.{sender_of}
use Rattle.dsr_chain.specs.declared.slot_value.SlotValue.{SlotValue}
use Rattle.dsr_slot.specs.declared.kept.Kept.{Kept}

-- whether a replica relays a kept chain in this round: it kept the chain in the round before, and has not signed it
abbrev pub is_relayed : Actor → ℕ → Kept → Bool
is_relayed me round k = (suc k.round == round) && not (is_signer me k.chain)

-- what a replica relays in this round, from the chains that it kept, in their order: each with its signature put at the
-- end
abbrev pub relayed : Actor → ℕ → List Kept → List Chain
relayed me round kept = map (λ k. extended k.chain me) (filter (is_relayed me round) kept)

-- the chain that a replica starts in this round: the sender starts one in round 1, on its value
abbrev pub begun : Shape → ℕ → Actor → SlotValue → ℕ → List Chain
begun shape slot me value round =
    if (round == 1) && actor_eq me (sender_of shape slot) then started slot value me ∷ [] else []

-- what a loyal replica posts to every replica in this round, given what it kept in the rounds before
abbrev pub posted : Shape → ℕ → Actor → SlotValue → ℕ → List Kept → List Chain
posted shape slot me value round kept = relayed me round kept ++ begun shape slot me value round

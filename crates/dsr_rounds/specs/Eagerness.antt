-- How a replica's host is eager (this project): in each slot of its own it proposes the clients whose turn it is.
use Rattle.std.specs.Prelude.{◌≡◌, ℕ, zero, suc, ◌&&◌, nat_lt, Bool, true, false, List, [], ◌∷◌, ◌++◌, Some, length, if◌then◌else◌}
use Rattle.dsr_names.specs.Shape.{Shape}
use Rattle.dsr_names.specs.declared.actor.Actor.{Actor}
use Rattle.dsr_names.specs.declared.actor.Actor.TheVariants.{Replica}
use Rattle.dsr_envelope.specs.declared.envelope.Envelope.{Envelope}
use Rattle.dsr_envelope.specs.declared.entry.Entry.{Entry}
use Rattle.dsr_envelope.specs.declared.entry.Entry.TheVariants.{Post}
use Rattle.dsr_envelope.specs.declared.pick.Pick.{Pick}
use Rattle.dsr_node.specs.Conduct.{post_of, is_exhausted}
use Rattle.dsr_run.specs.Eager.{is_waiting, ProposesNext, IsEager}
use Rattle.dsr_boxes.specs.Pass.{Pass, with_entry}

-- the replica was eager in the entries that the later seat's log has and the earlier seat's log has not
abbrev pub WasEager : Pass → Pass → Type 0
WasEager later earlier = (added : List Entry) × (later.log ≡ added ++ earlier.log) × IsEager earlier.shape earlier.actor earlier.log added

-- the post to replica 0 begins a slot as an eager replica does; the posts to the others begin none
abbrev pub IsEagerPost : Pass → ℕ → Envelope → Type 0
IsEagerPost seat zero envelope = ProposesNext seat.shape seat.actor seat.log envelope
IsEagerPost seat (suc q) envelope = Unit {0}

-- each post that this choice gives is eager, if the closed rounds are below their limit
abbrev pub IsEagerPick : Pass → ℕ → Pick → Type 0
IsEagerPick seat to pick = is_exhausted seat.shape seat.log seat.actor (Replica to) pick ≡ false → (envelope : Envelope)
    → post_of seat.shape seat.log seat.actor (Replica to) pick ≡ Some envelope → IsEagerPost seat to envelope

-- the seat made the post that this choice gives, and no counter was exhausted before it
abbrev pub HasPosted : Pass → Pass → Actor → Pick → Type 0
HasPosted old new to pick = (envelope : Envelope) × (post_of old.shape old.log old.actor to pick ≡ Some envelope)
    × (new ≡ with_entry old (Post to envelope)) × (is_exhausted old.shape old.log old.actor to pick ≡ false)

-- the outcome of a try to post by a choice: true, the seat made the post; false, the box was in the way, and nothing changed
abbrev pub HasTriedPost : Pass → Pass → Actor → Pick → Bool → Type 0
HasTriedPost old new to pick true = HasPosted old new to pick
HasTriedPost old new to pick false = new ≡ old

-- these clients, and after them this one if it waits and they are fewer than 8
abbrev pub with_waiting : Shape → List Entry → ℕ → List ℕ → List ℕ
with_waiting shape log client picked = if nat_lt (length picked) 8 && is_waiting shape log client then picked ++ client ∷ [] else picked

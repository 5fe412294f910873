-- The protocol of a loyal replica (Dolev and Strong 1983, with all its slots in flight at once; like the replica of Schneider
-- 1990 it takes asks from clients and posts replies to them).
use Rattle.std.specs.Prelude.{◌≡◌, ℕ, zero, suc, ◌-◌, ◌<◌, ◌==◌, ◌&&◌, not, nat_lt, Bool, false, List, [], ◌∷◌, Option, None, Some, slice_get, if◌then◌else◌}
use Rattle.std.specs.Option.{option_map}
use Rattle.dsr_names.specs.Shape.{Shape}
use Rattle.dsr_names.specs.declared.actor.Actor.{Actor}
use Rattle.dsr_names.specs.declared.actor.Actor.TheVariants.{Replica, Client}
use Rattle.dsr_names.specs.Support.ActorEquality.{actor_eq}
use Rattle.dsr_history.specs.History.{reply}
use Rattle.dsr_rotation.specs.Calendar.{first_round, last_round}
use Rattle.dsr_chain.specs.Chain.{Chain}
use Rattle.dsr_chain.specs.Proper.{sender_of}
use Rattle.dsr_chain.specs.declared.signed_request.SignedRequest.{SignedRequest}
use Rattle.dsr_chain.specs.declared.slot_value.SlotValue.{SlotValue}
use Rattle.dsr_chain.specs.declared.slot_value.SlotValue.TheVariants.{Idle, Act}
use Rattle.dsr_slot.specs.Broadcast.{from_each}
use Rattle.dsr_slot.specs.Conduct.{posted}
use Rattle.dsr_envelope.specs.declared.envelope.Envelope.{Envelope}
use Rattle.dsr_envelope.specs.declared.envelope.Envelope.TheVariants.{Reply}
use Rattle.dsr_envelope.specs.declared.entry.Entry.{Entry}
use Rattle.dsr_envelope.specs.declared.entry.Entry.TheVariants.{Post, Take}
use Rattle.dsr_envelope.specs.declared.pick.Pick.{Pick}
use Rattle.dsr_envelope.specs.declared.pick.Pick.TheVariants.{Plain, From, Begin}
use Rattle.dsr_envelope.specs.declared.due.Due.{Due}
use Rattle.dsr_envelope.specs.declared.due.Due.TheVariants.{Post as PostTo, Take as TakeFrom}
use Rattle.dsr_replica.specs.Decided.{slot_kept, decided_requests}
use Rattle.dsr_envelope.specs.Envelope.{round_envelope}
use Rattle.dsr_replica.specs.Held.{all_held}
use Rattle.dsr_envelope.specs.Log.{posted_to, due, rounds}
use Rattle.dsr_envelope.specs.Pick.{IsPick}

-- what a replica posts for one slot in global round t, nothing if the slot is not in flight; if the replica starts a chain,
-- it is on this value
abbrev pub slot_part : Shape → Actor → List Entry → ℕ → SlotValue → ℕ → List Chain
slot_part shape me log t value slot =
    if not (nat_lt t (first_round shape slot)) && not (nat_lt (last_round shape slot) t)
    then posted shape slot me value (suc (t - first_round shape slot)) (slot_kept shape log slot (t - first_round shape slot))
    else []

-- the chains that it posts in round t, by ascending slot
abbrev pub chains_posted : Shape → Actor → List Entry → ℕ → SlotValue → List Chain
chains_posted shape me log t value = from_each (suc t) (slot_part shape me log t value)

-- the value with these held asks; none if an ask is missing, or if another replica is the sender of the slot that begins with
-- this round, whose number is the round's
abbrev pub from_held : Shape → Actor → ℕ → Option (List SignedRequest) → Option SlotValue
from_held shape me round asks = if actor_eq me (sender_of shape round) then option_map Act asks else None

-- the value that a choice proposes at the post to replica 0: idle, or the asks held for some clients if it is the sender. The
-- list is meant to be 1 to 8 different clients (IsPick)
abbrev pub proposed : Shape → Actor → List Entry → Pick → Option SlotValue
proposed shape me log Plain = Some Idle
proposed shape me log (From clients) = from_held shape me (rounds shape log) (all_held shape log clients)
proposed shape me log (Begin op) = None

-- the envelope of the round in progress if this value is proposed
abbrev pub envelope_with : Shape → Actor → List Entry → SlotValue → Envelope
envelope_with shape me log value = round_envelope (rounds shape log) (chains_posted shape me log (rounds shape log) value)

-- the envelope that a choice gives: at the post to replica 0 one with the value that it proposes, at the posts to the
-- others what was posted to replica 0 in this round; none if the choice is not allowed there
abbrev pub chosen : Shape → Actor → List Entry → ℕ → Pick → Option Envelope
chosen shape me log zero pick = option_map (envelope_with shape me log) (proposed shape me log pick)
chosen shape me log (suc q) Plain = slice_get (posted_to (Replica 0) log) (rounds shape log)
chosen shape me log (suc q) (From clients) = None
chosen shape me log (suc q) (Begin op) = None

-- whether the post to this replica is due
abbrev pub is_due : Due → ℕ → Bool
is_due (PostTo r) q = r == q
is_due (TakeFrom p) q = false

-- the envelope that a loyal replica posts to this replica next, by this choice; none if it posts none
abbrev pub envelope_to : Shape → Actor → List Entry → ℕ → Pick → Option Envelope
envelope_to shape me log q pick = if is_due (due shape log) q then chosen shape me log q pick else None

-- the envelope that replies to this client: the reply to its last decided request that acted
abbrev pub reply_to : Shape → List Entry → ℕ → Option Envelope
reply_to shape log client = option_map Reply (reply (decided_requests shape log) client)

-- what a loyal replica may do next: with replicas the post or take that is due, a post by some choice; at any time it takes
-- from clients, and posts replies to them
abbrev pub IsNext : Shape → Actor → List Entry → Entry → Type 0
IsNext shape me log (Post (Replica q) envelope) = (pick : Pick) × IsPick pick × (envelope_to shape me log q pick ≡ Some envelope)
IsNext shape me log (Post (Client c) envelope) = (c < shape.m) × (reply_to shape log c ≡ Some envelope)
IsNext shape me log (Take (Replica p) envelope) = due shape log ≡ TakeFrom p
IsNext shape me log (Take (Client c) envelope) = c < shape.m

-- the log of a loyal replica: each entry is a step that it might do next
abbrev pub IsLoyalLog : Shape → Actor → List Entry → Type 0
IsLoyalLog shape me [] = Unit {0}
IsLoyalLog shape me (entry ∷ older) = IsLoyalLog shape me older × IsNext shape me older entry

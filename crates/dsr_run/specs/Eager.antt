-- Whose requests an eager replica proposes (this project): in each slot of its own those of the next 8 clients that wait, in turn.
use Rattle.std.specs.Prelude.{◌≡◌, ℕ, zero, suc, ◌==◌, nat_lt, Bool, true, false, List, [], ◌∷◌, Option, None, Some, if◌then◌else◌, map, filter, take, reverse, ◌++◌}
use Rattle.dsr_names.specs.Shape.{Shape}
use Rattle.dsr_names.specs.declared.actor.Actor.{Actor}
use Rattle.dsr_names.specs.declared.actor.Actor.TheVariants.{Replica, Client}
use Rattle.dsr_ledger.specs.declared.reply.Reply.{Reply}
use Rattle.dsr_history.specs.History.{reply}
use Rattle.dsr_chain.specs.Chain.{Chain}
use Rattle.dsr_chain.specs.Content.{signed_in, value_of}
use Rattle.dsr_chain.specs.Proper.{sender_of}
use Rattle.dsr_chain.specs.declared.signed_request.SignedRequest.{SignedRequest}
use Rattle.dsr_envelope.specs.declared.envelope.Envelope.{Envelope}
use Rattle.dsr_envelope.specs.declared.entry.Entry.{Entry}
use Rattle.dsr_envelope.specs.declared.entry.Entry.TheVariants.{Post, Take}
use Rattle.dsr_envelope.specs.Envelope.{chains_for}
use Rattle.dsr_envelope.specs.Log.{rounds}
use Rattle.dsr_replica.specs.Conduct.{envelope_with}
use Rattle.dsr_replica.specs.Decided.{decided_requests}
use Rattle.dsr_replica.specs.Held.{held, all_held}

-- whether the held ask would act after the client's last reply, because it has a greater number: always for a client without a reply, and
-- never without a held ask
abbrev pub is_newer : Option SignedRequest → Option Reply → Bool
is_newer None last = false
is_newer (Some ask) None = true
is_newer (Some ask) (Some last) = nat_lt last.number ask.request.number

-- whether the client waits at the replica of this log: its held request would act after what the closed slots decided (a client whose
-- request is in an open slot still waits)
abbrev pub is_waiting : Shape → List Entry → ℕ → Bool
is_waiting shape log client = is_newer (held shape client log) (reply (decided_requests shape log) client)

-- the clients whose requests are in the first of these chains that belongs to this slot
abbrev pub clients_in : ℕ → List Chain → List ℕ
clients_in slot [] = []
clients_in slot (chain ∷ more) =
    if chain.slot == slot then map (λ ask. ask.request.client) (signed_in chain.value) else clients_in slot more

-- the first client of a list, or `other` if the list is empty
abbrev pub first_or : Option ℕ → List ℕ → Option ℕ
first_or other [] = other
first_or other (client ∷ more) = Some client

-- the last client that the loyal replica of this log proposed, in a slot of its own; none if it proposed none. (It is read from the chains
-- that it posts for a slot in the round in which that slot begins: in that round a loyal replica posts one only as the slot's sender.)
abbrev pub last_proposed : Shape → List Entry → Option ℕ
last_proposed shape [] = None
last_proposed shape (Post (Replica zero) envelope ∷ older) =
    first_or (last_proposed shape older) (reverse (clients_in (rounds shape older) (chains_for (rounds shape older) envelope)))
last_proposed shape (Post (Replica (suc q)) envelope ∷ older) = last_proposed shape older
last_proposed shape (Post (Client c) envelope ∷ older) = last_proposed shape older
last_proposed shape (Take from envelope ∷ older) = last_proposed shape older

-- whose turn is next after this client's: the next number, and after the last client the first
abbrev pub next_client : ℕ → ℕ → ℕ
next_client m client = if nat_lt (suc client) m then suc client else 0

-- `count` of the m clients, in turn, beginning with this one
abbrev pub in_turn : ℕ → ℕ → ℕ → List ℕ
in_turn m zero client = []
in_turn m (suc count) client = client ∷ in_turn m count (next_client m client)

-- whose turn it is after the one proposed last
abbrev pub first_in_turn : ℕ → Option ℕ → ℕ
first_in_turn m None = 0
first_in_turn m (Some client) = next_client m client

-- the clients that an eager replica proposes next: the first 8 that wait, in turn after the one that it proposed last
abbrev pub next_proposed : Shape → List Entry → List ℕ
next_proposed shape log = take 8 (filter (is_waiting shape log) (in_turn shape.m shape.m (first_in_turn shape.m (last_proposed shape log))))

-- the envelope begins the replica's own slot, in a round that begins one, with the requests of these clients; idle if nobody waits
abbrev pub ProposesNext : Shape → Actor → List Entry → Envelope → Type 0
ProposesNext shape me log envelope = me ≡ sender_of shape (rounds shape log) → (asks : List SignedRequest)
    × (all_held shape log (next_proposed shape log) ≡ Some asks) × (envelope ≡ envelope_with shape me log (value_of asks))

-- the replica was eager in these newest entries of its log: it began each slot of its own with the requests that were next
abbrev pub IsEager : Shape → Actor → List Entry → List Entry → Type 0
IsEager shape me base [] = Unit {0}
IsEager shape me base (Post (Replica zero) envelope ∷ added) = IsEager shape me base added × ProposesNext shape me (added ++ base) envelope
IsEager shape me base (Post (Replica (suc q)) envelope ∷ added) = IsEager shape me base added
IsEager shape me base (Post (Client c) envelope ∷ added) = IsEager shape me base added
IsEager shape me base (Take from envelope ∷ added) = IsEager shape me base added

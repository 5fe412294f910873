-- The asks that a replica holds, its clients' pending requests (this project).
use Rattle.std.specs.Prelude.{ℕ, ◌==◌, ◌&&◌, not, nat_lt, Bool, true, List, [], ◌∷◌, Option, None, Some, if◌then◌else◌}
use Rattle.dsr_names.specs.Shape.{Shape}
use Rattle.dsr_names.specs.declared.actor.Actor.TheVariants.{Replica, Client}
use Rattle.dsr_chain.specs.ProperTest.{is_asked}
use Rattle.dsr_chain.specs.declared.signed_request.SignedRequest.{SignedRequest}
use Rattle.dsr_envelope.specs.declared.envelope.Envelope.{Envelope}
use Rattle.dsr_envelope.specs.declared.envelope.Envelope.TheVariants.{Empty, Round, Ask, Reply, Seen}
use Rattle.dsr_envelope.specs.declared.entry.Entry.{Entry}
use Rattle.dsr_envelope.specs.declared.entry.Entry.TheVariants.{Post, Take}

-- whether the ask is this client's own: its request, with its signature
abbrev pub is_own_ask : Shape → ℕ → SignedRequest → Bool
is_own_ask shape client ask = (ask.request.client == client) && is_asked shape ask

-- whether what is held gives way to an ask with this number: an equal or greater number replaces it
abbrev pub gives_way : Option SignedRequest → ℕ → Bool
gives_way None number = true
gives_way (Some ask) number = not (nat_lt number ask.request.number)

-- what is held for a client after this envelope is taken from it
abbrev pub held_with : Shape → ℕ → Option SignedRequest → Envelope → Option SignedRequest
held_with shape client held Empty = held
held_with shape client held (Round round chains) = held
held_with shape client held (Ask ask) = if is_own_ask shape client ask && gives_way held ask.request.number then Some ask else held
held_with shape client held (Reply reply) = held
held_with shape client held (Seen front) = held

-- the ask held for a client: the latest one with the greatest number, among the asks taken from it that it signed as
-- its own
abbrev pub held : Shape → ℕ → List Entry → Option SignedRequest
held shape client [] = None
held shape client (Post to envelope ∷ older) = held shape client older
held shape client (Take (Replica p) envelope ∷ older) = held shape client older
held shape client (Take (Client c) envelope ∷ older) =
    if c == client then held_with shape client (held shape client older) envelope else held shape client older

-- an item put before a list; none if either is missing
abbrev pub put_before : {A : Type 0} → Option A → Option (List A) → Option (List A)
put_before None more = None
put_before (Some x) None = None
put_before (Some x) (Some xs) = Some (x ∷ xs)

-- the asks held for these clients, in this order; none if one of them has none
abbrev pub all_held : Shape → List Entry → List ℕ → Option (List SignedRequest)
all_held shape log [] = Some []
all_held shape log (client ∷ more) = put_before (held shape client log) (all_held shape log more)

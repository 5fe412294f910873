-- With what a recorded post begins a slot of its replica (this project; in Dolev and Strong 1983 too a sender signs its value in the round that
-- begins its slot). A loyal replica's own chain comes last; in a recorded post it counts wherever it stands.
use Rattle.std.specs.Prelude.{◌≡◌, ◌⊎◌, ℕ, zero, suc, ◌==◌, List, [], ◌∷◌, Any, map, if◌then◌else◌}
use Rattle.dsr_names.specs.Shape.{Shape}
use Rattle.dsr_names.specs.declared.actor.Actor.{Actor}
use Rattle.dsr_names.specs.declared.actor.Actor.TheVariants.{Replica, Client}
use Rattle.dsr_names.specs.Support.ActorEquality.{actor_eq}
use Rattle.dsr_chain.specs.Chain.{Chain}
use Rattle.dsr_chain.specs.Content.{signed_in}
use Rattle.dsr_chain.specs.Proper.{sender_of}
use Rattle.dsr_chain.specs.declared.signed_request.SignedRequest.{SignedRequest}
use Rattle.dsr_envelope.specs.declared.envelope.Envelope.{Envelope}
use Rattle.dsr_envelope.specs.declared.envelope.Envelope.TheVariants.{Empty, Round, Ask, Reply, Seen}
use Rattle.dsr_envelope.specs.declared.entry.Entry.TheVariants.{Post as PostEntry, Take as TakeEntry}
use Rattle.dsr_envelope.specs.declared.pick.Pick.{Pick}
use Rattle.dsr_replica.specs.Shown.{choice_of}
use Rattle.dsr_run.specs.Run.{IsTraitor}
use Rattle.dsr_run.specs.Step.{Step}

-- the requests in the last of these chains that is of this slot; the second argument if none is
abbrev pub slot_asks : ℕ → List SignedRequest → List Chain → List SignedRequest
slot_asks slot asks [] = asks
slot_asks slot asks (chain ∷ more) = slot_asks slot (if chain.slot == slot then signed_in chain.value else asks) more

-- the clients of these requests, in their order
abbrev pub clients_of : List SignedRequest → List ℕ
clients_of asks = map (λ ask. ask.request.client) asks

-- the clients whose requests begin a slot of this replica, by its post to replica 0; none if that post begins no slot
abbrev pub clients_begun : Shape → Actor → ℕ → Envelope → List ℕ
clients_begun shape me zero Empty = []
clients_begun shape me zero (Round round chains) =
    if actor_eq me (sender_of shape round) then clients_of (slot_asks round [] chains) else []
clients_begun shape me zero (Ask ask) = []
clients_begun shape me zero (Reply reply) = []
clients_begun shape me zero (Seen front) = []
clients_begun shape me (suc q) envelope = []

-- the choice that would begin the slot like this
abbrev pub begun_choice : Shape → Actor → ℕ → Envelope → Pick
begun_choice shape me q envelope = choice_of (clients_begun shape me q envelope)

-- the client comes twice in this list: it is the first, and one of the others too; or it comes twice among those
abbrev pub ComesTwice : ℕ → List ℕ → Type 0
ComesTwice c [] = ⊥
ComesTwice c (first ∷ others) = ((first ≡ c) × Any (λ other. other ≡ c) others) ⊎ ComesTwice c others

-- the step is a post of a replica that is not a traitor, and begins a slot of its own with two requests of this client
abbrev pub BeginsTwice : Shape → Step → ℕ → Type 0
BeginsTwice shape (at, TakeEntry from found) c = ⊥
BeginsTwice shape (Replica p, PostEntry (Replica q) found) c =
    (IsTraitor shape (Replica p) → ⊥) × ComesTwice c (clients_begun shape (Replica p) q found)
BeginsTwice shape (Replica p, PostEntry (Client d) found) c = ⊥
BeginsTwice shape (Client d, PostEntry to found) c = ⊥

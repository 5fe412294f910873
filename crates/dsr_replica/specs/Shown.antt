-- Which choice an envelope shows (this project; in Dolev and Strong 1983 too a sender signs its value in the round that begins its slot).
use Rattle.std.specs.Prelude.{◌≡◌, ℕ, zero, suc, List, [], ◌∷◌, ◌++◌, map, if◌then◌else◌}
use Rattle.dsr_names.specs.Shape.{Shape}
use Rattle.dsr_names.specs.declared.actor.Actor.{Actor}
use Rattle.dsr_names.specs.Support.ActorEquality.{actor_eq}
use Rattle.dsr_chain.specs.Chain.{Chain, started}
use Rattle.dsr_chain.specs.Content.{requests_in}
use Rattle.dsr_chain.specs.Proper.{sender_of}
use Rattle.dsr_chain.specs.declared.slot_value.SlotValue.{SlotValue}
use Rattle.dsr_chain.specs.declared.slot_value.SlotValue.TheVariants.{Idle}
use Rattle.dsr_envelope.specs.declared.envelope.Envelope.{Envelope}
use Rattle.dsr_envelope.specs.declared.envelope.Envelope.TheVariants.{Empty, Round, Ask, Reply, Seen}
use Rattle.dsr_envelope.specs.declared.pick.Pick.{Pick}
use Rattle.dsr_envelope.specs.declared.pick.Pick.TheVariants.{Plain, From}

-- the value of the last of these chains, or the first argument if the list is empty
abbrev pub last_value : SlotValue → List Chain → SlotValue
last_value value [] = value
last_value value (chain ∷ more) = last_value chain.value more

-- the value that an envelope shows: that of its last chain, which is the one that a sender started; idle if it has no
-- chain
abbrev pub shown_value : Envelope → SlotValue
shown_value Empty = Idle
shown_value (Round round chains) = last_value Idle chains
shown_value (Ask ask) = Idle
shown_value (Reply reply) = Idle
shown_value (Seen front) = Idle

-- the clients of the requests of the value that an envelope shows, in their order
abbrev pub shown_clients : Envelope → List ℕ
shown_clients envelope = map (λ r. r.client) (requests_in (shown_value envelope))

-- the choice to propose the held requests of these clients; the plain choice if the list is empty
abbrev pub choice_of : List ℕ → Pick
choice_of [] = Plain
choice_of (client ∷ more) = From (client ∷ more)

-- the choice that an envelope shows in this round: the clients that it shows, if the slot that begins with the round is this
-- replica's own, else the plain one
abbrev pub choice_in : Shape → Actor → ℕ → Envelope → Pick
choice_in shape me round envelope = if actor_eq me (sender_of shape round) then choice_of (shown_clients envelope) else Plain

-- the choice that a loyal replica's post to this replica shows: at the post to replica 0 the one that the envelope shows in its
-- own round, at the posts to the others the plain one
abbrev pub shown_choice : Shape → Actor → ℕ → Envelope → Pick
shown_choice shape me zero Empty = Plain
shown_choice shape me zero (Round round chains) = choice_in shape me round (Round round chains)
shown_choice shape me zero (Ask ask) = Plain
shown_choice shape me zero (Reply reply) = Plain
shown_choice shape me zero (Seen front) = Plain
shown_choice shape me (suc q) envelope = Plain

-- the envelope of round t that a sender posts: the chains that it relays, and last the one that it starts on this value
pub record IsOwnLast (shape : Shape) (me : Actor) (t : ℕ) (value : SlotValue) (envelope : Envelope) : Type 0 where
  pub relayed : List Chain
  pub is : envelope ≡ Round t (relayed ++ started t value me ∷ [])

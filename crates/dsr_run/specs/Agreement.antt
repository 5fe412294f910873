-- What the laws of agreement say about logs and runs (Dolev and Strong 1983).
use Rattle.std.specs.Prelude.{◌≡◌, ◌⊎◌, ℕ, ◌<◌, ◌≤◌, List, ◌∷◌, Some, length, slice_get}
use Rattle.dsr_base.specs.Growth.{Extends}
use Rattle.dsr_base.specs.Member.{In}
use Rattle.dsr_names.specs.Shape.{Shape, IsLoyal}
use Rattle.dsr_names.specs.declared.actor.Actor.{Actor}
use Rattle.dsr_names.specs.declared.actor.Actor.TheVariants.{Replica}
use Rattle.dsr_rotation.specs.Calendar.{first_round, closed_slots}
use Rattle.dsr_desk.specs.Signature.{Signature}
use Rattle.dsr_desk.specs.declared.statement.Statement.{Statement}
use Rattle.dsr_chain.specs.Chain.{started}
use Rattle.dsr_chain.specs.Proper.{sender_of}
use Rattle.dsr_chain.specs.declared.slot_value.SlotValue.{SlotValue}
use Rattle.dsr_slot.specs.Broadcast.{IsLinkOf}
use Rattle.dsr_envelope.specs.declared.envelope.Envelope.{Envelope}
use Rattle.dsr_envelope.specs.declared.entry.Entry.{Entry}
use Rattle.dsr_replica.specs.Decided.{slot_decided}
use Rattle.dsr_envelope.specs.Envelope.{chains_for, Carries}
use Rattle.dsr_envelope.specs.Log.{posted_to, rounds}
use Rattle.dsr_replica.specs.Posts.{WasTaken}
use Rattle.dsr_run.specs.History.{decided_at}
use Rattle.dsr_run.specs.Run.{HasPosted, IsMadeOrPosted, envelope_of}
use Rattle.dsr_run.specs.Step.{Step, log_of}

-- the replica posted this value as its own for the slot: its envelope of the slot's first round has the chain that it starts there
pub record HasProposed (shape : Shape) (me : Actor) (log : List Entry) (slot : ℕ) (value : SlotValue) : Type 0 where
  pub to : ℕ
  pub inside : to < shape.n
  pub envelope : Envelope
  pub posted : slice_get (posted_to (Replica to) log) (first_round shape slot) ≡ Some envelope
  pub start : In (started slot value me) (chains_for (first_round shape slot) envelope)

-- the posts of the log carry at most `most` distinct links of the slot with the actor's signature
pub record HasFewLinks (me : Actor) (log : List Entry) (slot most : ℕ) : Type 0 where
  pub links : List Statement
  pub few : length links ≤ most
  pub all : (s : Signature) → HasPosted log s → s.signer ≡ me → IsLinkOf slot s.statement → In s.statement links

-- two loyal replicas agree: of the values that they decided, latest first, one list is the other with later values before it; and if
-- both have closed a slot, they decided it alike
pub record AgreeAt (shape : Shape) (run : List Step) (p q : ℕ) : Type 0 where
  pub lists : Extends (decided_at shape (log_of run) p) (decided_at shape (log_of run) q)
      ⊎ Extends (decided_at shape (log_of run) q) (decided_at shape (log_of run) p)
  pub slots : (slot : ℕ) → slot < closed_slots shape (rounds shape (log_of run (Replica p))) → slot < closed_slots shape (rounds shape (log_of run (Replica q)))
      → slot_decided shape (log_of run (Replica p)) slot ≡ slot_decided shape (log_of run (Replica q)) slot

-- a closed slot of a loyal sender is decided as the value that its sender posted: there is such a value, and only one
pub record IsValidAt (shape : Shape) (run : List Step) (slot p : ℕ) : Type 0 where
  pub decided : (value : SlotValue) → HasProposed shape (sender_of shape slot) (log_of run (sender_of shape slot)) slot value
      → slot_decided shape (log_of run (Replica p)) slot ≡ value
  pub proposed : HasProposed shape (sender_of shape slot) (log_of run (sender_of shape slot)) slot (slot_decided shape (log_of run (Replica p)) slot)

-- no signature is forged: each one that a step carries, or that was taken or posted, is by a traitor or is in what its signer has posted by then
pub record HasNoForgery (shape : Shape) (run : List Step) : Type 0 where
  pub steps : (older : List Step) (step : Step) → Extends run (step ∷ older) → (s : Signature) → Carries (envelope_of step.1) s
      → IsMadeOrPosted shape (log_of (step ∷ older)) s
  pub taken : (a : Actor) (s : Signature) → WasTaken (log_of run a) s → IsMadeOrPosted shape (log_of run) s
  pub posted : (a : Actor) (s : Signature) → HasPosted (log_of run a) s → IsMadeOrPosted shape (log_of run) s

-- agreement in a run: loyal replicas agree, closed slots of loyal senders are decided as proposed, nobody forges, and a loyal
-- replica signs at most two links of a slot, and at most one if the sender is loyal
pub record HasAgreement (shape : Shape) (run : List Step) : Type 0 where
  pub agree : (p q : ℕ) → IsLoyal shape (Replica p) → IsLoyal shape (Replica q) → AgreeAt shape run p q
  pub valid : (slot p : ℕ) → IsLoyal shape (sender_of shape slot) → IsLoyal shape (Replica p)
      → slot < closed_slots shape (rounds shape (log_of run (Replica p))) → IsValidAt shape run slot p
  pub no_forgery : HasNoForgery shape run
  pub two_links : (slot p : ℕ) → IsLoyal shape (Replica p) → HasFewLinks (Replica p) (log_of run (Replica p)) slot 2
  pub one_link : (slot p : ℕ) → IsLoyal shape (Replica p) → IsLoyal shape (sender_of shape slot) → HasFewLinks (Replica p) (log_of run (Replica p)) slot 1

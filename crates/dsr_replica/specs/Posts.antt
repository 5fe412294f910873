-- Facts about a loyal replica's posts (this project's words; Dolev and Strong 1983 for what is relayed).
use Rattle.std.specs.Prelude.{◌≡◌, ◌≢◌, ℕ, suc, ◌+◌, ◌<◌, ◌≤◌, List, Some, All, AllPairs, length}
use Rattle.dsr_base.specs.Member.{In}
use Rattle.dsr_names.specs.Shape.{Shape}
use Rattle.dsr_names.specs.declared.actor.Actor.{Actor}
use Rattle.dsr_names.specs.declared.actor.Actor.TheVariants.{Client}
use Rattle.dsr_request.specs.Request.{Request}
use Rattle.dsr_rotation.specs.Calendar.{first_round}
use Rattle.dsr_desk.specs.Signature.{Signature}
use Rattle.dsr_chain.specs.Chain.{Chain}
use Rattle.dsr_chain.specs.Content.{signed_in, content, requests_in}
use Rattle.dsr_chain.specs.Proper.{IsAsked, IsProper}
use Rattle.dsr_chain.specs.declared.signed_request.SignedRequest.{SignedRequest}
use Rattle.dsr_chain.specs.declared.slot_value.SlotValue.{SlotValue}
use Rattle.dsr_slot.specs.Conduct.{posted}
use Rattle.dsr_envelope.specs.declared.envelope.Envelope.{Envelope}
use Rattle.dsr_envelope.specs.declared.envelope.Envelope.TheVariants.{Ask}
use Rattle.dsr_envelope.specs.declared.entry.Entry.{Entry}
use Rattle.dsr_envelope.specs.declared.entry.Entry.TheVariants.{Take}
use Rattle.dsr_replica.specs.Conduct.{chains_posted}
use Rattle.dsr_replica.specs.Decided.{slot_kept}
use Rattle.dsr_envelope.specs.Envelope.{Carries, round_envelope}

-- a value that a loyal replica may propose: idle, or 1 to 8 requests of different clients of the shape, each with the signature
-- that was beside it in an ask that the replica took from its client
pub record MayPropose (shape : Shape) (log : List Entry) (value : SlotValue) : Type 0 where
  pub some : (requests : List Request) → content value ≡ Some requests → 0 < length requests
  pub few : length (requests_in value) ≤ 8
  pub different : AllPairs (λ r q. r.client ≢ q.client) (requests_in value)
  pub asked : All (IsAsked shape) (signed_in value)
  pub taken : (s : SignedRequest) → In s (signed_in value) → In (Take (Client s.request.client) (Ask s)) log

-- the envelope of a round: it has the chains that the log gives, for some value that may be proposed
pub record IsOfRound (shape : Shape) (me : Actor) (log : List Entry) (round : ℕ) (envelope : Envelope) : Type 0 where
  pub value : SlotValue
  pub may : MayPropose shape log value
  pub is : envelope ≡ round_envelope round (chains_posted shape me log round value)

-- an envelope that carries the signature was taken
pub record WasTaken (log : List Entry) (s : Signature) : Type 0 where
  pub from : Actor
  pub envelope : Envelope
  pub taken : In (Take from envelope) log
  pub carried : Carries envelope s

-- a chain that is posted in a global round: it is the replica's part in a round of a slot, and proper for the slot's
-- round
pub record IsPosted (shape : Shape) (me : Actor) (log : List Entry) (round : ℕ) (chain : Chain) : Type 0 where
  pub value : SlotValue
  pub may : MayPropose shape log value
  pub slot : ℕ
  pub earlier : ℕ
  pub round_is : first_round shape slot + earlier ≡ round
  pub within : earlier ≤ shape.f
  pub stands : In chain (posted shape slot me value (suc earlier) (slot_kept shape log slot earlier))
  pub proper : IsProper shape slot (suc earlier) chain

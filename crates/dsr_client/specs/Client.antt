-- What contracts see of a client (this project).
use Rattle.std.specs.Prelude.{◌≡◌, ℕ, suc, ◌^◌, ◌<◌, List, Option, None, length}
use Rattle.dsr_names.specs.Shape.{Shape}
use Rattle.dsr_names.specs.declared.actor.Actor.{Actor}
use Rattle.dsr_names.specs.declared.actor.Actor.TheVariants.{Replica, Client as AClient}
use Rattle.dsr_chain.specs.declared.signed_request.SignedRequest.{SignedRequest}
use Rattle.dsr_quorum.specs.Tally.{Tally, StandsFor as Counts}
use Rattle.dsr_envelope.specs.declared.entry.Entry.{Entry}
use Rattle.dsr_client.specs.State.{state_after, outstanding, accepted, seen}

-- its number and its shape, what is outstanding, the number of accepted replies, the votes for replies to what is outstanding,
-- and the seen front
pub record Client : Type 0 where
  pub me : ℕ
  pub shape : Shape
  pub outstanding : Option SignedRequest
  pub accepted : ℕ
  pub tally : Tally
  pub seen : ℕ

-- the client represents this log
pub record StandsFor (client : Client) (log : List Entry) : Type 0 where
  pub outstanding : client.outstanding ≡ outstanding client.shape log
  pub accepted : client.accepted ≡ length (accepted client.shape log)
  pub votes : Counts client.tally (state_after client.shape log).notes
  pub seen : client.seen ≡ seen client.shape log

-- it may begin a request: nothing is outstanding, and the next number is below the limit
abbrev pub MayBegin : Client → Type 0
MayBegin client = (client.outstanding ≡ None) × (suc client.accepted < 2 ^ 40)

-- an actor that is a client of the shape
abbrev pub IsClientOf : Shape → Actor → Type 0
IsClientOf shape (Replica r) = ⊥
IsClientOf shape (AClient c) = c < shape.m

-- What a client has invoked, and which responses it has, by its own log (Herlihy and Wing 1990, for what these words mean of a run).
use Rattle.std.specs.Prelude.{◌≡◌, List}
use Rattle.dsr_base.specs.Member.{In}
use Rattle.dsr_names.specs.Shape.{Shape}
use Rattle.dsr_request.specs.Request.{Request}
use Rattle.dsr_ledger.specs.declared.reply.Reply.{Reply}
use Rattle.dsr_chain.specs.declared.signed_request.SignedRequest.{SignedRequest}
use Rattle.dsr_envelope.specs.declared.entry.Entry.{Entry}
use Rattle.dsr_client.specs.Accepted.{WasPosted}
use Rattle.dsr_client.specs.State.{accepted}

-- the client whose log this is has invoked the request: it has asked a replica for it
abbrev pub HasInvoked : List Entry → Request → Type 0
HasInvoked log request = (ask : SignedRequest) × (ask.request ≡ request) × WasPosted log ask

-- the client whose log this is has received this response to the request, which it has invoked: it has accepted this reply to it
pub record HasReceived (shape : Shape) (log : List Entry) (request : Request) (reply : Reply) : Type 0 where
  pub invoked : HasInvoked log request
  pub accepted : In reply (accepted shape log)
  pub number : reply.number ≡ request.number

-- How private contracts see the asks that a replica holds (this project).
use Rattle.std.specs.Prelude.{ℕ, List, Option, slice_set}
use Rattle.dsr_names.specs.Shape.{Shape}
use Rattle.dsr_chain.specs.declared.signed_request.SignedRequest.{SignedRequest}
use Rattle.dsr_envelope.specs.declared.envelope.Envelope.{Envelope}
use Rattle.dsr_replica.specs.Held.{held_with}
use Rattle.dsr_replica.specs.Replica.{ask_of}

-- the asks after this envelope is taken from this client
abbrev pub asks_with : Shape → ℕ → List (Option SignedRequest) → Envelope → List (Option SignedRequest)
asks_with shape client asks envelope = slice_set asks client (held_with shape client (ask_of asks client) envelope)

-- What a slot carries (Dolev and Strong 1983: the value that the sender signs; in this project it is a list of
-- requests, and links cover the requests alone).
use Rattle.std.specs.Prelude.{List, [], ◌∷◌, Option, None, Some, map}
use Rattle.dsr_names.specs.declared.actor.Actor.{Actor}
use Rattle.dsr_request.specs.Request.{Request}
use Rattle.dsr_desk.specs.Signature.{signed}
use Rattle.dsr_desk.specs.declared.statement.Statement.TheVariants.{Ask}
use Rattle.dsr_chain.specs.declared.signed_request.SignedRequest.{SignedRequest}
use Rattle.dsr_chain.specs.declared.slot_value.SlotValue.{SlotValue}
use Rattle.dsr_chain.specs.declared.slot_value.SlotValue.TheVariants.{Idle, Act}

-- the request, with this actor's signature on it beside it
abbrev pub signed_by : Request → Actor → SignedRequest
signed_by request signer = record { request = request; signature = signed signer (Ask request) }

-- the signed requests of a value, none if it is idle
abbrev pub signed_in : SlotValue → List SignedRequest
signed_in Idle = []
signed_in (Act batch) = batch

-- the value with these signed requests; idle if the list is empty
abbrev pub value_of : List SignedRequest → SlotValue
value_of [] = Idle
value_of (s ∷ ss) = Act (s ∷ ss)

-- what a link covers: the requests without the signatures beside them, or nothing if the value is idle
abbrev pub content : SlotValue → Option (List Request)
content Idle = None
content (Act batch) = Some (map (λ s. s.request) batch)

-- the requests of a value in their order, none if it is idle
abbrev pub requests_in : SlotValue → List Request
requests_in value = map (λ s. s.request) (signed_in value)

-- The protocol of a client (this project; Schneider 1990 for requests that a client issues in turn).
use Rattle.std.specs.Prelude.{◌≡◌, ◌≢◌, ℕ, suc, ◌<◌, List, [], ◌∷◌, Option, None, Some, length}
use Rattle.std.specs.Option.{option_map}
use Rattle.dsr_names.specs.Shape.{Shape, IsActor}
use Rattle.dsr_names.specs.declared.actor.Actor.TheVariants.{Replica, Client}
use Rattle.dsr_request.specs.declared.op.Op.{Op}
use Rattle.dsr_chain.specs.Content.{signed_by}
use Rattle.dsr_chain.specs.declared.signed_request.SignedRequest.{SignedRequest}
use Rattle.dsr_envelope.specs.declared.envelope.Envelope.{Envelope}
use Rattle.dsr_envelope.specs.declared.envelope.Envelope.TheVariants.{Ask, Seen}
use Rattle.dsr_envelope.specs.declared.entry.Entry.{Entry}
use Rattle.dsr_envelope.specs.declared.entry.Entry.TheVariants.{Post, Take}
use Rattle.dsr_envelope.specs.declared.pick.Pick.{Pick}
use Rattle.dsr_envelope.specs.declared.pick.Pick.TheVariants.{Plain, From, Begin}
use Rattle.dsr_client.specs.State.{outstanding, accepted, seen}

-- the client's request with this number and operation, with its signature
abbrev pub ask_of : ℕ → ℕ → Op → SignedRequest
ask_of me number op = signed_by (record { client = me; number = number; op = op }) (Client me)

-- the number of the next request: one more than the count of accepted replies
abbrev pub next_number : Shape → List Entry → ℕ
next_number shape log = suc (length (accepted shape log))

-- the request that a choice asks for beside the outstanding one: that one again, or a new one if nothing is outstanding
abbrev pub chosen_beside : Option SignedRequest → ℕ → ℕ → Pick → Option SignedRequest
chosen_beside (Some ask) me number Plain = Some ask
chosen_beside None me number Plain = None
chosen_beside (Some ask) me number (Begin op) = None
chosen_beside None me number (Begin op) = Some (ask_of me number op)
chosen_beside o me number (From clients) = None

-- the ask that a client posts to a replica next, by this choice; none if it posts none
abbrev pub ask_to : Shape → ℕ → List Entry → Pick → Option Envelope
ask_to shape me log pick = option_map Ask (chosen_beside (outstanding shape log) me (next_number shape log) pick)

-- the choice that an ask shows beside what was outstanding before: to ask for that again, or to begin a request with
-- its operation
abbrev pub told_choice : Option SignedRequest → SignedRequest → Pick
told_choice (Some current) ask = Plain
told_choice None ask = Begin ask.request.op

-- what a client may do next: it asks replicas for the outstanding request, or for a new one if nothing is outstanding; it posts
-- its seen front to other clients; and it takes from every other actor
abbrev pub IsNext : Shape → ℕ → List Entry → Entry → Type 0
IsNext shape me log (Post (Replica q) envelope) = (q < shape.n) × ((pick : Pick) × (ask_to shape me log pick ≡ Some envelope))
IsNext shape me log (Post (Client c) envelope) = (c < shape.m) × (c ≢ me) × (envelope ≡ Seen (seen shape log))
IsNext shape me log (Take from envelope) = IsActor shape from × (from ≢ Client me)

-- the log of a client: each entry is a step that it might do next
abbrev pub IsClientLog : Shape → ℕ → List Entry → Type 0
IsClientLog shape me [] = Unit {0}
IsClientLog shape me (entry ∷ older) = IsClientLog shape me older × IsNext shape me older entry

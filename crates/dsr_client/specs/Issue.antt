-- When a client first asks for the request with a number, and its seen front just before (this project).
use Rattle.std.specs.Prelude.{◌≡◌, ◌≢◌, ℕ, ◌==◌, Bool, false, List, [], ◌∷◌, ◌++◌, Option, None, Some, if◌then◌else◌}
use Rattle.std.specs.Option.{option_or}
use Rattle.dsr_base.specs.Member.{In}
use Rattle.dsr_names.specs.Shape.{Shape}
use Rattle.dsr_names.specs.declared.actor.Actor.TheVariants.{Replica, Client}
use Rattle.dsr_chain.specs.declared.signed_request.SignedRequest.{SignedRequest}
use Rattle.dsr_envelope.specs.declared.envelope.Envelope.{Envelope}
use Rattle.dsr_envelope.specs.declared.envelope.Envelope.TheVariants.{Empty, Round, Ask, Reply, Seen}
use Rattle.dsr_envelope.specs.declared.entry.Entry.{Entry}
use Rattle.dsr_envelope.specs.declared.entry.Entry.TheVariants.{Post, Take}
use Rattle.dsr_client.specs.State.{seen}

-- whether the envelope asks for a request with this number
abbrev pub asks_for : ℕ → Envelope → Bool
asks_for number Empty = false
asks_for number (Round round chains) = false
asks_for number (Ask ask) = ask.request.number == number
asks_for number (Reply reply) = false
asks_for number (Seen front) = false

-- whether the entry asks a replica for a request with this number
abbrev pub is_ask_for : ℕ → Entry → Bool
is_ask_for number (Post (Replica q) envelope) = asks_for number envelope
is_ask_for number (Post (Client c) envelope) = false
is_ask_for number (Take from envelope) = false

-- the issue front of a number: the seen front of the client just before it first asks for a request with this number; none if
-- it never asked for one
abbrev pub issue_front : Shape → ℕ → List Entry → Option ℕ
issue_front shape number [] = None
issue_front shape number (entry ∷ older) =
    option_or (issue_front shape number older) (if is_ask_for number entry then Some (seen shape older) else None)

-- the client has asked no replica for a request with this number
abbrev pub IsUnasked : ℕ → List Entry → Type 0
IsUnasked number log = (q : ℕ) (ask : SignedRequest) → In (Post (Replica q) (Ask ask)) log → ask.request.number ≢ number

-- the first ask for a request with this number: the older log has no such ask, and `front` is the seen front by that log
pub record IsIssued (shape : Shape) (number : ℕ) (log : List Entry) (front : ℕ) : Type 0 where
  pub newer : List Entry
  pub older : List Entry
  pub replica : ℕ
  pub ask : SignedRequest
  pub parts : log ≡ newer ++ Post (Replica replica) (Ask ask) ∷ older
  pub is_number : ask.request.number ≡ number
  pub first : IsUnasked number older
  pub front_is : seen shape older ≡ front

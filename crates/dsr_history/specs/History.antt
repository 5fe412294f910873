-- Which requests act, and how each is answered. Values, requests and histories are listed newest first: a place is
-- the number of older requests. A value is a list of requests, oldest first; the empty one is idle.
use Rattle.std.specs.Prelude.{◌≡◌, ℕ, ◌<◌, Bool, true, not, ◌&&◌, ◌||◌, ◌==◌, nat_lt, if◌then◌else◌, List, [], ◌∷◌, ◌++◌, length, map, reverse, Option, None, Some}
use Rattle.dsr_base.specs.Member.{In}
use Rattle.dsr_request.specs.declared.op.Op.{Op}
use Rattle.dsr_request.specs.declared.answer.Answer.{Answer}
use Rattle.dsr_register.specs.Values.{answer_after}
use Rattle.dsr_ledger.specs.declared.reply.Reply.{Reply}
use Rattle.dsr_request.specs.Request.{Request}

-- the requests of the values, each value's in the order of its list
abbrev pub requests_of : List (List Request) → List Request
requests_of [] = []
requests_of (requests ∷ older) = reverse requests ++ requests_of older

-- whether the request's number is greater than every number of its client among the older requests
abbrev pub rises_above : Request → List Request → Bool
rises_above request [] = true
rises_above request (r ∷ older) = (not (r.client == request.client) || nat_lt r.number request.number) && rises_above request older

-- the requests that act: those that rise above all older ones of their client (Schneider 1990: each request of a
-- client is processed at most once, in the order in which the client issued them)
abbrev pub acting : List Request → List Request
acting [] = []
acting (request ∷ older) = if rises_above request older then request ∷ acting older else acting older

-- the history of the values: their requests that act
abbrev pub acted : List (List Request) → List Request
acted values = acting (requests_of values)

-- the operations of the requests
abbrev pub operations : List Request → List Op
operations requests = map (λ r. r.op) requests

-- the answer to the request at this place of the history; none past its end
abbrev pub answer_at : List Request → ℕ → Option Answer
answer_at [] place = None
answer_at (r ∷ older) place = if length older == place then Some (answer_after (operations older) r.op) else answer_at older place

-- the reply to the client's last request in the history: its number, its place and its answer
abbrev pub reply_in : List Request → ℕ → Option Reply
reply_in [] client = None
reply_in (r ∷ older) client =
    if r.client == client then Some (record { number = r.number; place = length older; answer = answer_after (operations older) r.op }) else reply_in older client

-- the reply to the client's last request that acted
abbrev pub reply : List (List Request) → ℕ → Option Reply
reply values client = reply_in (acted values) client

-- the request is at this place of the history, and this is its answer
pub record StandsAt (history : List Request) (place : ℕ) (request : Request) (answer : Answer) : Type 0 where
  pub newer : List Request
  pub older : List Request
  pub parts : history ≡ newer ++ request ∷ older
  pub place_is : place ≡ length older
  pub answer_is : answer ≡ answer_after (operations older) request.op

-- the reply is to a request of the client, at the place that it names: it has that request's number, and its
-- answer there
pub record IsReplyTo (history : List Request) (client : ℕ) (reply : Reply) : Type 0 where
  pub request : Request
  pub stands : StandsAt history reply.place request reply.answer
  pub client_is : request.client ≡ client
  pub number_is : request.number ≡ reply.number

-- within each client the numbers rise strictly
abbrev pub IsLegal : List Request → Type 0
IsLegal [] = Unit {0}
IsLegal (r ∷ older) = ((q : Request) → In q older → q.client ≡ r.client → q.number < r.number) × IsLegal older

-- What a client's host does with one operation. No public contract cites this.
use Rattle.std.specs.Prelude.{◌≡◌, ◌⊎◌, None}
use Rattle.dsr_request.specs.declared.op.Op.{Op}
use Rattle.dsr_ledger.specs.declared.reply.Reply.{Reply as AReply}
use Rattle.dsr_chain.specs.declared.signed_request.SignedRequest.{SignedRequest}
use Rattle.dsr_client.specs.Conduct.{ask_of, next_number}
use Rattle.dsr_client.specs.State.{outstanding}
use Rattle.dsr_boxes.specs.Pass.{Pass}
use Rattle.dsr_calls.specs.Calls.{number_of, IsAwaited, IsAnswered}
use Rattle.dsr_calls.specs.Calls.{GoesOn}

-- the client's request for this operation, under the next number by its log
abbrev pub next_ask : Pass → Op → SignedRequest
next_ask seat op = ask_of (number_of seat.actor) (next_number seat.shape seat.log) op

-- the operation, to be made next at the first seat, is not answered at this seat
abbrev pub IsOnItsWay : Op → Pass → Pass → Type 0
IsOnItsWay op first seat = (seat ≡ first) ⊎ IsAwaited first.shape (next_ask first op) first.log seat.log

-- the operation, to be made next at the first seat, is answered at this seat
abbrev pub HasMade : Op → Pass → Pass → Type 0
HasMade op first seat = (reply : AReply) × IsAnswered first.shape (next_ask first op) first.log seat.log reply

-- the first seat has nothing outstanding, this seat goes on from it, and the operation is on its way
pub record IsMaking (op : Op) (first seat : Pass) : Type 0 where
  pub goes : GoesOn seat first
  pub idle : outstanding first.shape first.log ≡ None
  pub way : IsOnItsWay op first seat

-- if the operation is on its way at the older seat, it is answered at the newer
abbrev pub Answers : Op → Pass → Pass → Type 0
Answers op old new = (first : Pass) → IsMaking op first old → HasMade op first new

-- if the operation is on its way at the older seat, it is still on its way at the newer
abbrev pub Keeps : Op → Pass → Pass → Type 0
Keeps op old new = (first : Pass) → IsMaking op first old → IsOnItsWay op first new

-- The course of a client's call: its turns, one by one (this project). A turn is a try at a box. A try that finds the box full (at a post) or empty
-- (at a take) changes nothing, and no log shows it: these definitions say of it only that nothing changed.
use Rattle.std.specs.Prelude.{◌≡◌, ◌⊎◌, ℕ, zero, suc, ◌<◌, ◌==◌, if◌then◌else◌, Option, None, Some, Result, Ok, Err}
use Rattle.dsr_names.specs.declared.actor.Actor.TheVariants.{Replica}
use Rattle.dsr_names.specs.declared.refusal.Refusal.{Refusal}
use Rattle.dsr_names.specs.declared.refusal.Refusal.TheVariants.{Unanswered, NoMemory}
use Rattle.dsr_request.specs.declared.op.Op.{Op}
use Rattle.dsr_ledger.specs.declared.reply.Reply.{Reply as AReply}
use Rattle.dsr_envelope.specs.declared.entry.Entry.TheVariants.{Post}
use Rattle.dsr_envelope.specs.declared.envelope.Envelope.{Envelope}
use Rattle.dsr_client.specs.State.{outstanding}
use Rattle.dsr_node.specs.Conduct.{post_of}
use Rattle.dsr_boxes.specs.Pass.{Pass, with_entry}
use Rattle.dsr_mail.specs.Refusals.{post_refused, take_refused, HasAsked}
use Rattle.dsr_calls.specs.Visits.{pick_beside, HasTakeTurn}

-- the own log's refusal to ask the replica, if any
abbrev pub ask_refused : Option Op → ℕ → Pass → Option Refusal
ask_refused op q seat = post_refused seat.shape seat.actor seat.log (Replica q) (pick_beside (outstanding seat.shape seat.log) op)

-- the client asked the replica for the awaited request, which adds one entry; or nothing changed, although the own log does not refuse the ask (the
-- box was full)
abbrev pub IsAskTry : Option Op → ℕ → Pass → Pass → Type 0
IsAskTry op q seat new = ((new ≡ seat) × (ask_refused op q seat ≡ None))
    ⊎ ((x : Envelope) × (post_of seat.shape seat.log seat.actor (Replica q) (pick_beside (outstanding seat.shape seat.log) op) ≡ Some x)
    × (new ≡ with_entry seat (Post (Replica q) x)))

-- a replica that was asked already takes no turn; at any other exactly one turn goes to a try to ask it
abbrev pub IsAskTurn : Option Op → ℕ → Pass → ℕ → Pass → ℕ → Type 0
IsAskTurn op q seat was new left = (HasAsked seat.shape seat.log q × (new ≡ seat) × (left ≡ was))
    ⊎ ((¬ HasAsked seat.shape seat.log q) × (suc left ≡ was) × IsAskTry op q seat new)

-- exactly one turn goes to a try to take from the replica, unless no turn is left
abbrev pub IsTakeTurn : ℕ → Pass → ℕ → Pass → ℕ → Option AReply → Type 0
IsTakeTurn p seat was new left reply = ((was ≡ 0) × (left ≡ 0) × (new ≡ seat) × (reply ≡ None))
    ⊎ ((suc left ≡ was) × HasTakeTurn p seat new reply)

-- the turns at one replica, with the reply that is accepted there, if any: first the ask, then the take
pub record IsVisit (op : Option Op) (q : ℕ) (seat : Pass) (was : ℕ) (new : Pass) (left : ℕ) (reply : Option AReply) : Type 0 where
  pub mid : Pass
  pub between : ℕ
  pub asked : IsAskTurn op q seat was mid between
  pub taken : IsTakeTurn q mid between new left reply

-- a turn at the replica, its ask or the take after that, was refused with this refusal, by the own log or because memory ran out
abbrev pub IsRefusedVisit : Option Op → ℕ → Pass → ℕ → Pass → Refusal → Type 0
IsRefusedVisit op q seat was new refusal =
    ((¬ HasAsked seat.shape seat.log q) × (new ≡ seat) × ((ask_refused op q seat ≡ Some refusal) ⊎ (refusal ≡ NoMemory)))
    ⊎ ((left : ℕ) × IsAskTurn op q seat was new left × (0 < left)
    × ((take_refused new.shape new.actor new.log (Replica q) ≡ Some refusal) ⊎ (refusal ≡ NoMemory)))

-- the replica after this one: 0 after the last of n
abbrev pub next_of : ℕ → ℕ → ℕ
next_of n q = if suc q == n then 0 else suc q

-- this many visits brought no reply: the first was at replica 0, each other one at the next replica, each begun with a turn left; they led from the
-- first seat and turns to these, and the next visit is at replica q
abbrev pub IsCourse : Option Op → ℕ → ℕ → Pass → ℕ → ℕ → Pass → ℕ → Type 0
IsCourse op n zero seat turns q new left = (q ≡ 0) × (new ≡ seat) × (left ≡ turns)
IsCourse op n (suc k) seat turns q new left = (p : ℕ) × (mid : Pass) × (between : ℕ) × IsCourse op n k seat turns p mid between
    × (0 < between) × IsVisit op p mid between new left None × (q ≡ next_of n p)

-- on its course the call came to the replica, with this many turns left, at least one
pub record ComesTo (op : Option Op) (n : ℕ) (seat : Pass) (turns q : ℕ) (new : Pass) (left : ℕ) : Type 0 where
  pub visits : ℕ
  pub course : IsCourse op n visits seat turns q new left
  pub turn : 0 < left

-- how the call ends: with the first reply that a visit brings; unanswered, if all of its turns were used; or at once by the first refusal
abbrev pub HasCourse : Option Op → ℕ → Pass → Pass → Result AReply Refusal → Type 0
HasCourse op turns seat new (Ok reply) = (q : ℕ) × (mid : Pass) × (between left : ℕ) × ComesTo op seat.shape.n seat turns q mid between
    × IsVisit op q mid between new left (Some reply)
HasCourse op turns seat new (Err refusal) =
    ((refusal ≡ Unanswered) × (visits : ℕ) × (q : ℕ) × IsCourse op seat.shape.n visits seat turns q new 0)
    ⊎ ((q : ℕ) × (mid : Pass) × (between : ℕ) × ComesTo op seat.shape.n seat turns q mid between × IsRefusedVisit op q mid between new refusal)

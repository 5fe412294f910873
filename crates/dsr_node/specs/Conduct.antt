-- The protocol of one actor, by its own log: what it posts by a choice, what it cannot take yet, and its role (this project).
use Rattle.std.specs.Prelude.{◌≡◌, ℕ, ◌^◌, ◌==◌, ◌&&◌, not, nat_lt, Bool, true, false, List, ◌∷◌, Option, None, Some, if◌then◌else◌}
use Rattle.dsr_names.specs.Shape.{Shape, is_traitor}
use Rattle.dsr_names.specs.declared.actor.Actor.{Actor}
use Rattle.dsr_names.specs.declared.actor.Actor.TheVariants.{Replica, Client}
use Rattle.dsr_request.specs.OpText.{IsOp}
use Rattle.dsr_ledger.specs.declared.reply.Reply.{Reply as AReply}
use Rattle.dsr_envelope.specs.declared.envelope.Envelope.{Envelope}
use Rattle.dsr_envelope.specs.declared.entry.Entry.{Entry}
use Rattle.dsr_envelope.specs.declared.due.Due.{Due}
use Rattle.dsr_envelope.specs.declared.due.Due.TheVariants.{Post as PostTo, Take as TakeFrom}
use Rattle.dsr_envelope.specs.declared.pick.Pick.{Pick}
use Rattle.dsr_envelope.specs.declared.pick.Pick.TheVariants.{Plain, From, Begin}
use Rattle.dsr_envelope.specs.Log.{due, rounds}
use Rattle.dsr_replica.specs.Conduct.{envelope_to, reply_to}
use Rattle.dsr_client.specs.Conduct.{next_number, ask_to}

-- ---- posts and takes

-- the envelope that a loyal actor posts to another, by its log and its choice; none if it does not post one
abbrev pub post_of : Shape → List Entry → Actor → Actor → Pick → Option Envelope
post_of shape log (Replica p) (Replica q) pick = envelope_to shape (Replica p) log q pick
post_of shape log (Replica p) (Client c) Plain = reply_to shape log c
post_of shape log (Replica p) (Client c) (From clients) = None
post_of shape log (Replica p) (Client c) (Begin op) = None
post_of shape log (Client c) (Replica q) pick = ask_to shape c log pick
post_of shape log (Client c) (Client d) pick = None

-- whether the post would take a counter of the actor past its limit: a replica's round, or the number of a client's new request
abbrev pub is_exhausted : Shape → List Entry → Actor → Actor → Pick → Bool
is_exhausted shape log (Replica p) (Replica q) pick = not (nat_lt (rounds shape log) (2 ^ 36))
is_exhausted shape log (Replica p) (Client c) pick = false
is_exhausted shape log (Client c) to Plain = false
is_exhausted shape log (Client c) to (From clients) = false
is_exhausted shape log (Client c) to (Begin op) = not (nat_lt (next_number shape log) (2 ^ 40))

-- whether the take from this replica is due
abbrev pub takes_from : Due → ℕ → Bool
takes_from (PostTo q) p = false
takes_from (TakeFrom q) p = q == p

-- whether this is a loyal replica's take from a replica, and not due
abbrev pub is_undue : Shape → List Entry → Actor → Actor → Bool
is_undue shape log (Replica p) (Replica q) = if is_traitor shape p then false else not (takes_from (due shape log) q)
is_undue shape log (Replica p) (Client c) = false
is_undue shape log (Client c) from = false

-- ---- roles

-- whether the actor is one of the shape
abbrev pub is_actor : Shape → Actor → Bool
is_actor shape (Replica p) = nat_lt p shape.n
is_actor shape (Client c) = nat_lt c shape.m

-- whether the actor is a traitor
abbrev pub is_traitor_of : Shape → Actor → Bool
is_traitor_of shape (Replica p) = is_traitor shape p
is_traitor_of shape (Client c) = false

-- whether both are clients
abbrev pub are_clients : Actor → Actor → Bool
are_clients (Replica p) to = false
are_clients (Client c) (Replica q) = false
are_clients (Client c) (Client d) = true

-- whether both are one client
abbrev pub is_own_client : Actor → Actor → Bool
is_own_client (Replica p) to = false
is_own_client (Client c) (Replica q) = false
is_own_client (Client c) (Client d) = c == d

-- whether both are clients, and not the same one
abbrev pub are_two_clients : Actor → Actor → Bool
are_two_clients a b = are_clients a b && not (is_own_client a b)

-- ---- choices and replies

-- an operation that the choice begins has a text
abbrev pub HasSpelledOp : Pick → Type 0
HasSpelledOp Plain = Unit {0}
HasSpelledOp (From clients) = Unit {0}
HasSpelledOp (Begin op) = IsOp op

-- the later list is the earlier one, with this reply added, if any; replies are listed newest first
abbrev pub AcceptsBy : Option AReply → List AReply → List AReply → Type 0
AcceptsBy None later earlier = later ≡ earlier
AcceptsBy (Some reply) later earlier = later ≡ reply ∷ earlier

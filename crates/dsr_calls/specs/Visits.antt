-- What the turns at one replica do with the request that a call waits for. No public contract cites this.
use Rattle.std.specs.Prelude.{◌≡◌, ◌⊎◌, ℕ, Option, None, Some}
use Rattle.dsr_names.specs.declared.actor.Actor.TheVariants.{Replica}
use Rattle.dsr_request.specs.declared.op.Op.{Op}
use Rattle.dsr_ledger.specs.declared.reply.Reply.{Reply as AReply}
use Rattle.dsr_chain.specs.declared.signed_request.SignedRequest.{SignedRequest}
use Rattle.dsr_envelope.specs.declared.entry.Entry.TheVariants.{Post, Take}
use Rattle.dsr_envelope.specs.declared.envelope.Envelope.{Envelope}
use Rattle.dsr_envelope.specs.declared.pick.Pick.{Pick}
use Rattle.dsr_envelope.specs.declared.pick.Pick.TheVariants.{Plain, Begin}
use Rattle.dsr_client.specs.State.{outstanding, accepted}
use Rattle.dsr_node.specs.Conduct.{post_of, AcceptsBy}
use Rattle.dsr_boxes.specs.Pass.{Pass, with_entry}
use Rattle.dsr_calls.specs.Calls.{GoesOn, Awaits, Answers}

-- the choice that asks for the awaited request, given the outstanding one: again for that one, or, if nothing is outstanding, to begin one for the
-- operation
abbrev pub pick_beside : Option SignedRequest → Option Op → Pick
pick_beside (Some ask) op = Plain
pick_beside None (Some op) = Begin op
pick_beside None None = Plain

-- a turn that asks the replica for that request: it adds one entry, or changes nothing
abbrev pub HasAskTurn : Option Op → ℕ → Pass → Pass → Type 0
HasAskTurn op q seat new = (new ≡ seat)
    ⊎ ((x : Envelope) × (post_of seat.shape seat.log seat.actor (Replica q) (pick_beside (outstanding seat.shape seat.log) op) ≡ Some x)
    × (new ≡ with_entry seat (Post (Replica q) x)))

-- a turn that takes from the replica, with the reply that is accepted by it: it adds one entry, or changes nothing and accepts no reply
abbrev pub HasTakeTurn : ℕ → Pass → Pass → Option AReply → Type 0
HasTakeTurn p seat new reply = ((new ≡ seat) × (reply ≡ None))
    ⊎ ((x : Envelope) × (new ≡ with_entry seat (Take (Replica p) x)) × AcceptsBy reply (accepted new.shape new.log) (accepted seat.shape seat.log))

-- what a call that led to this seat waits for, if not answered in this seat, is not answered in the new seat either
abbrev pub Keeps : Option Op → Pass → Pass → Type 0
Keeps op seat new = (first : Pass) → GoesOn seat first → Awaits first op seat → Awaits first op new

-- what a call that led to this seat waits for, if not answered in this seat, is answered in the new seat by this reply
abbrev pub Brings : Option Op → Pass → Pass → AReply → Type 0
Brings op seat new reply = (first : Pass) → GoesOn seat first → Awaits first op seat → Answers first op new reply

-- `Keeps` or `Brings`, by what a visit returns
abbrev pub Becomes : Option Op → Pass → Pass → Option AReply → Type 0
Becomes op seat new None = Keeps op seat new
Becomes op seat new (Some reply) = Brings op seat new reply

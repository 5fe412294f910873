-- Which calls a client's host makes for its operations, and the turn with which it asks the gate before each (this project). No public contract cites
-- this.
use Rattle.std.specs.Prelude.{◌≡◌, ◌⊎◌, ℕ, zero, suc, List, [], ◌∷◌, Option, None, Some, Result, Ok, Err, IsSome}
use Rattle.dsr_names.specs.declared.actor.Actor.{Actor}
use Rattle.dsr_names.specs.declared.refusal.Refusal.{Refusal}
use Rattle.dsr_names.specs.declared.refusal.Refusal.TheVariants.{Unanswered}
use Rattle.dsr_request.specs.declared.op.Op.{Op}
use Rattle.dsr_ledger.specs.declared.reply.Reply.{Reply as AReply}
use Rattle.dsr_client.specs.State.{outstanding}
use Rattle.dsr_boxes.specs.Pass.{Pass}
use Rattle.dsr_calls.specs.Course.{HasCourse}
use Rattle.dsr_rounds.specs.Ends.{turn_after}
use Rattle.dsr_rounds.specs.declared.end.End.{End}
use Rattle.dsr_rounds.specs.declared.end.End.TheVariants.{Told, Fault}

-- the course of a call with 1,000 turns, whichever reply it brings
abbrev pub HasCallCourse : Option Op → Pass → Pass → Result (Unit {0}) Refusal → Type 0
HasCallCourse op old new (Ok done) = (reply : AReply) × HasCourse op 1000 old new (Ok reply)
HasCallCourse op old new (Err refusal) = HasCourse op 1000 old new (Err refusal)

-- one call for the operation: it asks for it if nothing is outstanding; else it goes on with the outstanding request
abbrev pub IsCall : Op → Pass → Pass → Result (Unit {0}) Refusal → Type 0
IsCall op old new result = ((outstanding old.shape old.log ≡ None) × HasCallCourse (Some op) old new result)
    ⊎ (IsSome (outstanding old.shape old.log) × HasCallCourse None old new result)

-- the host asked the gate once, which may let this turn pass, and then made one call: its next turn is the one after (the last, 2^40-1, stays)
abbrev pub CallsOnce : (Actor → ℕ → Type 0) → Op → Pass → Pass → ℕ → ℕ → Result (Unit {0}) Refusal → Type 0
CallsOnce may op old new now next result = may old.actor now × (next ≡ turn_after now) × IsCall op old new result

-- it did so this many times, one after the other, and no reply came
abbrev pub CallsInVain : (Actor → ℕ → Type 0) → Op → ℕ → Pass → Pass → ℕ → ℕ → Type 0
CallsInVain may op zero old new now next = (new ≡ old) × (next ≡ now)
CallsInVain may op (suc calls) old new now next = (mid : Pass) × (turn : ℕ) × CallsInVain may op calls old mid now turn
    × CallsOnce may op mid new turn next (Err Unanswered)

-- it did not get past the gate: nothing changed, and the turn was counted or not
abbrev pub StaysOut : Pass → Pass → ℕ → ℕ → Type 0
StaysOut old new now next = (new ≡ old) × ((next ≡ now) ⊎ (next ≡ turn_after now))

-- how its calls for an operation end: a call brings the reply, or is refused; or, before another call, the host is told to stop or refused by its gate
abbrev pub CallsLast : (Actor → ℕ → Type 0) → Op → Pass → Pass → ℕ → ℕ → Result (Unit {0}) End → Type 0
CallsLast may op old new now next (Ok done) = CallsOnce may op old new now next (Ok done)
CallsLast may op old new now next (Err Told) = StaysOut old new now next
CallsLast may op old new now next (Err (Fault refusal)) = StaysOut old new now next ⊎ CallsOnce may op old new now next (Err refusal)

-- all of its calls for an operation: some in vain, then the last
abbrev pub CallsFor : (Actor → ℕ → Type 0) → Op → Pass → Pass → ℕ → ℕ → Result (Unit {0}) End → Type 0
CallsFor may op old new now next result = (calls : ℕ) × (mid : Pass) × (turn : ℕ) × CallsInVain may op calls old mid now turn
    × CallsLast may op mid new turn next result

-- all of its calls for these operations, given newest first: each was answered, and turns go on from one operation to the next
abbrev pub CallsForEach : (Actor → ℕ → Type 0) → List Op → Pass → Pass → ℕ → ℕ → Type 0
CallsForEach may [] old new now next = (new ≡ old) × (next ≡ now)
CallsForEach may (op ∷ ops) old new now next = (mid : Pass) × (turn : ℕ) × CallsForEach may ops old mid now turn
    × CallsFor may op mid new turn next (Ok tt)

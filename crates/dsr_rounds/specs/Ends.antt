-- Why a host ends (this project).
use Rattle.std.specs.Prelude.{◌≡◌, ◌≢◌, ◌⊎◌, Result, Ok, Err, ℕ, suc, ◌-◌, ◌^◌, nat_lt, Bool, true, false, if◌then◌else◌}
use Rattle.dsr_names.specs.declared.actor.Actor.{Actor}
use Rattle.dsr_names.specs.declared.refusal.Refusal.{Refusal}
use Rattle.dsr_names.specs.declared.refusal.Refusal.TheVariants.{BadShape, BadName, BadNumber, Busy, NotDue, BoxFull, BoxEmpty, Forged, Exhausted, Stopped, Unanswered, NoMemory, BadText, NotARun, NoActor, WrongRole, ReadFailed, WriteFailed, NoThread}
use Rattle.dsr_envelope.specs.declared.envelope.Envelope.{Envelope}
use Rattle.dsr_envelope.specs.declared.entry.Entry.{Entry}
use Rattle.dsr_boxes.specs.Pass.{Pass, with_entry}
use Rattle.dsr_rounds.specs.Limits.{IsAtLimit}
use Rattle.dsr_rounds.specs.declared.end.End.{End}
use Rattle.dsr_rounds.specs.declared.end.End.TheVariants.{Told, Fault}

-- the turn after this one: turns stay at 2^40-1 once they are there
abbrev pub turn_after : ℕ → ℕ
turn_after turn = if nat_lt turn (2 ^ 40 - 1) then suc turn else turn

-- what ends a host before a try: its service told it to stop; or the gate refused it, which this gate may do
abbrev pub IsPassEnd : (Actor → Type 0) → Bool → Actor → End → Type 0
IsPassEnd may serves actor Told = serves ≡ true
IsPassEnd may serves actor (Fault refusal) = (refusal ≡ Stopped) × may actor

-- why a host is refused: a next post of its seat is past a limit, its gate may refuse it, or memory ran out
abbrev pub HostRefusal : (Actor → Type 0) → Pass → Refusal → Type 0
HostRefusal may seat Exhausted = IsAtLimit seat
HostRefusal may seat Stopped = may seat.actor
HostRefusal may seat NoMemory = Unit {0}
HostRefusal may seat BadShape = ⊥
HostRefusal may seat BadName = ⊥
HostRefusal may seat BadNumber = ⊥
HostRefusal may seat Busy = ⊥
HostRefusal may seat NotDue = ⊥
HostRefusal may seat BoxFull = ⊥
HostRefusal may seat BoxEmpty = ⊥
HostRefusal may seat Forged = ⊥
HostRefusal may seat Unanswered = ⊥
HostRefusal may seat (BadText line) = ⊥
HostRefusal may seat (NotARun line) = ⊥
HostRefusal may seat NoActor = ⊥
HostRefusal may seat WrongRole = ⊥
HostRefusal may seat ReadFailed = ⊥
HostRefusal may seat WriteFailed = ⊥
HostRefusal may seat NoThread = ⊥

-- why a host ends: its service told it to stop, or a refusal ended it
abbrev pub HostEnd : (Actor → Type 0) → Bool → Pass → End → Type 0
HostEnd may serves seat Told = serves ≡ true
HostEnd may serves seat (Fault refusal) = HostRefusal may seat refusal

-- the outcome of a try: true, it added such an entry; false, the box was in the way, and nothing changed
abbrev pub HasTried : (Envelope → Entry) → Pass → Pass → Bool → Type 0
HasTried entry old new true = (x : Envelope) × (new ≡ with_entry old (entry x))
HasTried entry old new false = new ≡ old

-- the outcome of a try, from what the seat returned: success, or a box in the way, or a refusal that ends the host
abbrev pub IsTried : Result (Unit {0}) Refusal → Result Bool End → Type 0
IsTried tried (Ok true) = tried ≡ Ok tt
IsTried tried (Ok false) = (tried ≡ Err BoxFull) ⊎ (tried ≡ Err BoxEmpty)
IsTried tried (Err Told) = ⊥
IsTried tried (Err (Fault refusal)) = (tried ≡ Err refusal) × (refusal ≢ BoxFull) × (refusal ≢ BoxEmpty)

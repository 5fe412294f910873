-- What comes back from the host of a seat. No public contract cites this.
use Rattle.std.specs.Prelude.{[], Option, None, Some}
use Rattle.dsr_names.specs.declared.actor.Actor.{Actor}
use Rattle.dsr_script.specs.Script.{Script, ops_of}
use Rattle.dsr_run.specs.Eager.{IsEager}
use Rattle.dsr_boxes.specs.Pass.{SharedBoxes, Pass}
use Rattle.dsr_calls.specs.Calls.{number_of}
use Rattle.dsr_rounds.specs.Replicas.{AreOwed}
use Rattle.dsr_rounds.specs.Traitors.{ArePlanned}
use Rattle.dsr_rounds.specs.declared.end.End.{End}
use Rattle.dsr_rounds.specs.declared.end.End.TheVariants.{Told, Fault}
use Rattle.dsr_hosts.specs.declared.any_seat.AnySeat.{AnySeat}
use Rattle.dsr_hosts.specs.declared.any_seat.AnySeat.TheVariants.{Loyal, Traitor, OfClient}
use Rattle.dsr_hosts.specs.declared.back.Back.{Back}
use Rattle.dsr_hosts.specs.Causes.{ClientRefusal, IsUnserved, SeatRefusal}
use Rattle.dsr_hosts.specs.Seats.{pass_of, IsBack}
use Rattle.dsr_hosts.specs.Served.{HasAll}

-- the client has the replies to all operations that the script gives it
abbrev pub IsServed : Script → Pass → Type 0
IsServed script seat = HasAll seat.shape (number_of seat.actor) seat.log (ops_of script (number_of seat.actor))

-- why a host's work at a client's seat ended: its service told it to stop, or something refused it
abbrev pub ClientEnd : (Actor → Type 0) → Pass → End → Type 0
ClientEnd may seat Told = Unit {0}
ClientEnd may seat (Fault refusal) = ClientRefusal may seat refusal

-- a client whose host has done its work is served
abbrev pub IsDone : Script → AnySeat → Type 0
IsDone script (Loyal seat) = Unit {0}
IsDone script (Traitor seat) = Unit {0}
IsDone script (OfClient seat) = IsServed script seat

-- a client is not served if its service told its host to stop
abbrev pub IsLeft : Script → AnySeat → Type 0
IsLeft script (Loyal seat) = Unit {0}
IsLeft script (Traitor seat) = Unit {0}
IsLeft script (OfClient seat) = IsUnserved script seat

-- how the host of a seat ended: it did its work, or its service told it to stop, or something refused it
abbrev pub IsEnding : (Actor → Type 0) → Script → AnySeat → Option End → Type 0
IsEnding may script seat None = IsDone script seat
IsEnding may script seat (Some Told) = IsLeft script seat
IsEnding may script seat (Some (Fault refusal)) = SeatRefusal may script (pass_of seat) refusal

-- the seat of a replica has posted to clients only what they were owed
abbrev pub HasPostedOwed : Pass → Type 0
HasPostedOwed seat = AreOwed seat.shape [] seat.log

-- the seat of a replica was eager from its first entry on
abbrev pub WasAlwaysEager : Pass → Type 0
WasAlwaysEager seat = IsEager seat.shape seat.actor [] seat.log

-- the seat of a traitor has posted only what the script says
abbrev pub HasPostedPlanned : Script → Pass → Type 0
HasPostedPlanned script seat = ArePlanned script seat.shape seat.actor [] seat.log

-- a seat of any kind has posted what is asked of its kind
abbrev pub HasPostedWell : Script → AnySeat → Type 0
HasPostedWell script (Loyal seat) = HasPostedOwed seat × WasAlwaysEager seat
HasPostedWell script (Traitor seat) = HasPostedPlanned script seat
HasPostedWell script (OfClient seat) = Unit {0}

-- what comes back from the host of a seat
pub record ComesBack (may : Actor → Type 0) (mail : SharedBoxes) (script : Script) (seat : AnySeat) (back : Back) : Type 0 where
  pub same : IsBack mail seat back.seat
  pub ends : IsEnding may script back.seat back.end
  pub posted : HasPostedWell script back.seat

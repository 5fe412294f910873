-- How a traitor's seat knows what it may send on (this project).
use Rattle.std.specs.Prelude.{◌≡◌, ◌↔◌, List}
use Rattle.dsr_base.specs.Member.{In}
use Rattle.dsr_names.specs.declared.actor.Actor.{Actor}
use Rattle.dsr_desk.specs.Signature.{Signature}
use Rattle.dsr_envelope.specs.declared.entry.Entry.{Entry}
use Rattle.dsr_replica.specs.Posts.{WasTaken}
use Rattle.dsr_run.specs.Run.{IsTraitor}
use Rattle.dsr_boxes.specs.Pass.{Pass}

-- the known signatures are exactly those in what was taken
abbrev pub KnowsTaken : List Entry → List Signature → Type 0
KnowsTaken log known = (s : Signature) → In s known ↔ WasTaken log s

-- the actor is a traitor, the key is its own, and it knows the signatures in what it took
pub record IsTraitorSeat (seat : Pass) (key : Actor) (known : List Signature) : Type 0 where
  pub own : key ≡ seat.actor
  pub traitor : IsTraitor seat.shape seat.actor
  pub knows : KnowsTaken seat.log known

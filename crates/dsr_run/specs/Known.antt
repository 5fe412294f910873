-- What traitors may sign with and send on if what loyal actors post is known to them at once (this project).
use Rattle.std.specs.Prelude.{◌≡◌, ◌↔◌, ℕ, List, Any}
use Rattle.dsr_base.specs.Member.{In}
use Rattle.dsr_names.specs.Shape.{Shape, IsLoyal}
use Rattle.dsr_names.specs.declared.actor.Actor.{Actor}
use Rattle.dsr_names.specs.declared.actor.Actor.TheVariants.{Replica}
use Rattle.dsr_desk.specs.Signature.{Signature}
use Rattle.dsr_run.specs.Run.{IsTraitor, HasPosted}
use Rattle.dsr_run.specs.Step.{Logs}

-- the keys are those of the traitors
abbrev pub AreKeys : Shape → List Actor → Type 0
AreKeys shape keys = (a : Actor) → Any (λ holder. holder ≡ a) keys ↔ IsTraitor shape a

-- the known signatures are those that the posts of loyal actors carry
pub record KnowsPosts (shape : Shape) (logs : Logs) (known : List Signature) : Type 0 where
  pub from : (s : Signature) → In s known → (a : Actor) × IsLoyal shape a × HasPosted (logs a) s
  pub all : (s : Signature) (a : Actor) → IsLoyal shape a → HasPosted (logs a) s → In s known

-- if there is a traitor, the known signatures are those that the posts of loyal actors carry; without
-- traitors this asks for nothing
abbrev pub KnowsAll : Shape → Logs → List Signature → Type 0
KnowsAll shape logs known = (p : ℕ) → IsTraitor shape (Replica p) → KnowsPosts shape logs known

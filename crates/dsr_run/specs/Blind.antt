-- What may differ between shapes that differ in who the traitors are (this project).
use Rattle.dsr_names.specs.Shape.{Shape, AgreeButForTraitors}
use Rattle.dsr_names.specs.declared.actor.Actor.{Actor}
use Rattle.dsr_run.specs.Run.{IsTraitor}

-- the later shape is the earlier one, perhaps with more traitors: each traitor of the earlier one
-- is a traitor of the later one
pub record AddsTraitors (earlier later : Shape) : Type 0 where
  pub agree : AgreeButForTraitors earlier later
  pub stay : (a : Actor) → IsTraitor earlier a → IsTraitor later a

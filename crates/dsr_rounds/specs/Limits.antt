-- When a host's next post is past a limit (this project).
use Rattle.std.specs.Prelude.{◌≡◌, ◌⊎◌, true, false, Some}
use Rattle.dsr_names.specs.declared.actor.Actor.{Actor}
use Rattle.dsr_names.specs.declared.refusal.Refusal.TheVariants.{Exhausted}
use Rattle.dsr_node.specs.Conduct.{is_traitor_of}
use Rattle.dsr_boxes.specs.Pass.{Pass}
use Rattle.dsr_mail.specs.Refusals.{plant_refused}
use Rattle.dsr_calls.specs.Limits.{IsExhausted}

-- the traitor's box to some actor has no posts left: the traitor's own log refuses any post there
pub record IsSpent (seat : Pass) : Type 0 where
  pub to : Actor
  pub past : plant_refused seat.shape seat.log to ≡ Some Exhausted

-- the next post of the actor is past a limit: a due post of a loyal actor, or any post of a traitor to some actor
abbrev pub IsAtLimit : Pass → Type 0
IsAtLimit seat =
    ((is_traitor_of seat.shape seat.actor ≡ false) × IsExhausted seat) ⊎ ((is_traitor_of seat.shape seat.actor ≡ true) × IsSpent seat)

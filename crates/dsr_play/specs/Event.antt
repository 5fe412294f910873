-- Who does what an event says, and its text (this project).
use Rattle.dsr_names.specs.declared.actor.Actor.{Actor}
use Rattle.dsr_play.specs.PlayText.{IsPlayLine}
use Rattle.dsr_play.specs.declared.event.Event.{Event}
use Rattle.dsr_play.specs.declared.event.Event.TheVariants.{Post, Plant, Take, Tell}
use Rattle.dsr_play.specs.declared.play_line.PlayLine.TheVariants.{One}

-- who does what the event says
abbrev pub actor_of : Event → Actor
actor_of (Post from to pick) = from
actor_of (Plant from to draft) = from
actor_of (Take at from) = at
actor_of (Tell from to) = from

-- an event that a line of a play can write
abbrev pub IsSpelledEvent : Event → Type 0
IsSpelledEvent event = IsPlayLine (One event)

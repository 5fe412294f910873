-- The letter that an event posted or took; no public contract cites this (this project).
use Rattle.std.specs.Prelude.{◌&&◌, List, Option, None, if◌then◌else◌}
use Rattle.dsr_names.specs.Shape.{Shape}
use Rattle.dsr_names.specs.declared.actor.Actor.{Actor}
use Rattle.dsr_envelope.specs.declared.envelope.Envelope.{Envelope}
use Rattle.dsr_node.specs.Conduct.{is_actor}
use Rattle.dsr_play.specs.declared.event.Event.{Event}
use Rattle.dsr_play.specs.declared.event.Event.TheVariants.{Post, Plant, Take, Tell}
use Rattle.dsr_run.specs.Step.{Logs, Step, log_of}
use Rattle.dsr_world.specs.Event.{in_box}
use Rattle.dsr_world.specs.Stage.{last_taken}

-- what is in the box from one actor of the shape to another
abbrev pub box_of : Shape → Logs → Actor → Actor → Option Envelope
box_of shape logs from to = if is_actor shape from && is_actor shape to then in_box logs from to else None

-- what an event that was done last posted, by the boxes after it, or took
abbrev pub handled : Shape → List Step → Event → Option Envelope
handled shape run (Post from to pick) = box_of shape (log_of run) from to
handled shape run (Plant from to draft) = box_of shape (log_of run) from to
handled shape run (Take at from) = last_taken run
handled shape run (Tell from to) = box_of shape (log_of run) from to

-- Steps of all actors in one order, and the log of each actor in it (this project).
use Rattle.std.specs.Prelude.{List, [], ◌∷◌, if◌then◌else◌}
use Rattle.dsr_names.specs.declared.actor.Actor.{Actor}
use Rattle.dsr_names.specs.Support.ActorEquality.{actor_eq}
use Rattle.dsr_envelope.specs.declared.entry.Entry.{Entry}

-- a step: an actor, and the entry that its log gets
abbrev pub Step : Type 0
Step = Actor × Entry

-- the log of each actor
abbrev pub Logs : Type 0
Logs = Actor → List Entry

-- the logs after one more step: the entry is put before the log of its actor
abbrev pub with_step : Step → Logs → Logs
with_step (actor, entry) logs a = if actor_eq actor a then entry ∷ logs a else logs a

-- the log of each actor after these steps; steps and logs are listed newest first
abbrev pub log_of : List Step → Logs
log_of [] a = []
log_of (step ∷ older) a = with_step step (log_of older) a

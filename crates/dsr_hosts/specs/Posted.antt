-- What the replicas and traitors of a service posted (this project).
use Rattle.std.specs.Prelude.{ℕ, []}
use Rattle.dsr_names.specs.Shape.{IsLoyal}
use Rattle.dsr_names.specs.declared.actor.Actor.TheVariants.{Replica}
use Rattle.dsr_script.specs.Script.{Script}
use Rattle.dsr_run.specs.Run.{IsTraitor}
use Rattle.dsr_run.specs.Eager.{IsEager}
use Rattle.dsr_mail.specs.Logs.{Logs, logs_of}
use Rattle.dsr_rounds.specs.Replicas.{AreOwed}
use Rattle.dsr_rounds.specs.Traitors.{ArePlanned}

-- each loyal replica posted to clients only what they were owed
abbrev pub AreAllOwed : Logs → Type 0
AreAllOwed logs = (p : ℕ) → IsLoyal logs.shape (Replica p) → AreOwed logs.shape [] (logs_of logs (Replica p))

-- each loyal replica was eager: it began each of its own slots with the requests whose turn it was
abbrev pub AreAllEager : Logs → Type 0
AreAllEager logs = (p : ℕ) → IsLoyal logs.shape (Replica p) → IsEager logs.shape (Replica p) [] (logs_of logs (Replica p))

-- each traitor posted only what the script says
abbrev pub AreAllPlanned : Script → Logs → Type 0
AreAllPlanned script logs = (p : ℕ) → IsTraitor logs.shape (Replica p) → ArePlanned script logs.shape (Replica p) [] (logs_of logs (Replica p))

-- The outcome of a service, however it ended.
use Rattle.std.proofs.Common.{◌≡◌, ℕ, List, subst, sym}
use Rattle.std.specs.Prelude.{Option, None, Some, Result, Ok, Err, IfErr, IfOk}
use Rattle.dsr_names.specs.Shape.{Shape, HasFewTraitors}
use Rattle.dsr_names.specs.declared.refusal.Refusal.{Refusal}
use Rattle.dsr_names.specs.declared.refusal.Refusal.TheVariants.{BadShape, BadName, BadNumber, Busy, NotDue, BoxFull, BoxEmpty, Forged, Exhausted, Stopped, Unanswered, NoMemory, BadText, NotARun, NoActor, WrongRole, ReadFailed, WriteFailed, NoThread}
use Rattle.dsr_script.specs.Script.{Script, Spells, IsScriptRefusal}
use Rattle.dsr_run.specs.Run.{AreLogs}
use Rattle.dsr_run.specs.Step.{Logs as LogsOfAll}
use Rattle.dsr_mail.specs.Logs.{Logs, logs_of}
use Rattle.dsr_hosts.specs.Causes.{CauseOf}
use Rattle.dsr_hosts.specs.Posted.{AreAllOwed, AreAllEager, AreAllPlanned}
use Rattle.dsr_hosts.specs.declared.serving.ServeFault.{ServeFault}
use Rattle.dsr_record.specs.Merge.{IsMergeRefusal}
use Rattle.dsr_cli.specs.Served.{AreRightLogs, HasService, IsEndOf, ServesAll}
use Rattle.dsr_cli.proofs.MergeLemmas.{never_stops}

module _ (text : List ℕ) (script : Script) (spells : Spells text script)
    (laws : (shape : Shape) (logs : LogsOfAll) → HasFewTraitors shape → AreLogs shape logs → AreRightLogs shape logs) where
  -- logs of a run of the script's shape are right
  ended_so : (logs : Logs) (cause : Option Refusal) → logs.shape ≡ script.shape → AreLogs logs.shape (logs_of logs) → AreAllOwed logs
      → AreAllEager logs → AreAllPlanned script logs → IsEndOf script logs cause → HasService text logs cause
  ended_so logs cause same are owed eager planned ended = record {
    script = script;
    spells = spells;
    shape_is = same;
    right = laws logs.shape (logs_of logs) (subst HasFewTraitors (sym same) spells.allowed.few_traitors) are;
    owed = owed;
    eager = eager;
    planned = planned;
    ended = ended;
  }

  -- the logs and the cause are those of how the service ended
  pub has_service : (r : Result Logs ServeFault) (came : Logs) (cause : Option Refusal)
      → IfOk r (λ logs. logs.shape ≡ script.shape) → IfOk r (λ logs. AreLogs logs.shape (logs_of logs)) → IfOk r (ServesAll script)
      → IfOk r (λ logs. AreAllOwed logs) → IfOk r (λ logs. AreAllEager logs) → IfOk r (λ logs. AreAllPlanned script logs)
      → IfErr r (λ fault. fault.logs.shape ≡ script.shape) → IfErr r (λ fault. AreLogs fault.logs.shape (logs_of fault.logs))
      → IfErr r (λ fault. AreAllOwed fault.logs) → IfErr r (λ fault. AreAllEager fault.logs) → IfErr r (λ fault. AreAllPlanned script fault.logs)
      → IfErr r (λ fault. CauseOf (λ actor. ⊥) script fault.logs fault.cause)
      → IfOk r (λ logs. (came ≡ logs) × (cause ≡ None)) → IfErr r (λ fault. (came ≡ fault.logs) × (cause ≡ Some fault.cause))
      → HasService text came cause
  has_service (Ok logs) came cause same are all owed eager planned fault_same fault_are fault_owed fault_eager fault_planned why served fault =
      subst (λ (l : Logs). HasService text l cause) (sym served.0)
      (subst (λ (c : Option Refusal). HasService text logs c) (sym served.1) (ended_so logs None same are owed eager planned all))
  has_service (Err f) came cause same are all owed eager planned fault_same fault_are fault_owed fault_eager fault_planned why served fault =
      subst (λ (l : Logs). HasService text l cause) (sym fault.0)
      (subst (λ (c : Option Refusal). HasService text f.logs c) (sym fault.1) (ended_so f.logs (Some f.cause) fault_same fault_are fault_owed fault_eager fault_planned why))

-- making a record of the logs of a run is refused only if memory runs out
pub unmerged : (text : List ℕ) (logs : Logs) (refusal : Refusal) → AreLogs logs.shape (logs_of logs)
    → IsMergeRefusal logs.shape (logs_of logs) refusal → IsScriptRefusal text refusal
unmerged text logs NoMemory are h = tt
unmerged text logs (NotARun line) are h = absurd (never_stops logs.shape (logs_of logs) line are h)
unmerged text logs (BadText line) are h = absurd h
unmerged text logs BadShape are h = absurd h
unmerged text logs BadName are h = absurd h
unmerged text logs BadNumber are h = absurd h
unmerged text logs Busy are h = absurd h
unmerged text logs NotDue are h = absurd h
unmerged text logs BoxFull are h = absurd h
unmerged text logs BoxEmpty are h = absurd h
unmerged text logs Forged are h = absurd h
unmerged text logs Exhausted are h = absurd h
unmerged text logs Stopped are h = absurd h
unmerged text logs Unanswered are h = absurd h
unmerged text logs NoActor are h = absurd h
unmerged text logs WrongRole are h = absurd h
unmerged text logs ReadFailed are h = absurd h
unmerged text logs WriteFailed are h = absurd h
unmerged text logs NoThread are h = absurd h

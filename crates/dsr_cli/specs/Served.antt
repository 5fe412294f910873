-- What `serve` leaves, by what it returns (this project).
use Rattle.std.specs.Prelude.{◌≡◌, ◌↔◌, ◌⊎◌, ℕ, ◌<◌, ◌≤◌, ◌++◌, All, Bool, false, true, List, Option, None, Some, length}
use Rattle.std.specs.Io.KnownBytes.{Keeps}
use Rattle.dsr_base.specs.Growth.{Extends}
use Rattle.dsr_base.specs.Member.{In}
use Rattle.dsr_names.specs.Limits.{most_bytes}
use Rattle.dsr_names.specs.Shape.{Shape, IsLoyal}
use Rattle.dsr_names.specs.Streams.{Output, Streams, CanFailToGive, CanFailToTake, SentAll, SentPrefix}
use Rattle.dsr_names.specs.declared.actor.Actor.TheVariants.{Client, Replica}
use Rattle.dsr_names.specs.declared.refusal.Refusal.{Refusal}
use Rattle.dsr_names.specs.declared.refusal.Refusal.TheVariants.{BadShape, BadText, Exhausted, NoMemory, NoThread, ReadFailed, Unanswered, WriteFailed}
use Rattle.dsr_ledger.specs.declared.reply.Reply.{Reply as AReply}
use Rattle.dsr_history.specs.Applied.{IsTextOf}
use Rattle.dsr_history.specs.History.{IsLegal}
use Rattle.dsr_script.specs.Script.{Script, Spells, IsScriptRefusal, ops_of}
use Rattle.dsr_run.specs.History.{accepted_by, decided_at, history}
use Rattle.dsr_run.specs.Right.{IsRightReply}
use Rattle.dsr_run.specs.Run.{AreLogs}
use Rattle.dsr_run.specs.Step.{Logs as LogsOfAll}
use Rattle.dsr_mail.specs.Logs.{Logs, logs_of}
use Rattle.dsr_hosts.specs.Causes.{CauseOf}
use Rattle.dsr_hosts.specs.Posted.{AreAllOwed, AreAllEager, AreAllPlanned}
use Rattle.dsr_hosts.specs.Served.{HasAll}
use Rattle.dsr_record.specs.Merge.{IsMerge, IsWhole}
use Rattle.dsr_record.specs.Record.{Record}
use Rattle.dsr_record.specs.RecordText.{IsStepOf, record_text}
use Rattle.dsr_record.specs.RecordText.{Spells as SpellsRecord}
use Rattle.dsr_record.specs.declared.version.Version.TheVariants.{One}
use Rattle.dsr_reports.specs.Report.{accepted_text, history_text}

-- ---- what is written

-- the report of logs: what clients accepted and which requests acted, in the lines of a play's report
abbrev pub served_text : Logs → List ℕ
served_text logs = accepted_text logs.shape (logs_of logs) ++ history_text (history logs.shape (logs_of logs))

-- a form of a service's output: the text that is written, by the logs of all actors
abbrev pub ServiceForm : Type 1
ServiceForm = Logs → List ℕ → Type 0

-- the report
abbrev pub IsServiceReport : ServiceForm
IsServiceReport logs text = text ≡ served_text logs

-- the transcript, from which the steps can be read back: that of a merge of the whole logs, in version 1 if that version has all of their lines
pub record IsServiceTranscript (logs : Logs) (text : List ℕ) : Type 0 where
  pub recorded : Record
  pub shape_is : recorded.shape ≡ logs.shape
  pub whole : IsWhole (logs_of logs) recorded.run
  pub merged : IsMerge logs.shape (logs_of logs) recorded.run
  pub version : (recorded.version ≡ One) ↔ All (IsStepOf One) recorded.run
  pub is : text ≡ record_text recorded
  pub spells : SpellsRecord text recorded

-- the form of a service's output: the transcript if the flag is true, else the report
abbrev pub service_form_of : Bool → ServiceForm
service_form_of false = IsServiceReport
service_form_of true = IsServiceTranscript

-- ---- the service

-- logs of a run in which loyal replicas agree and what clients accepted is right
pub record AreRightLogs (shape : Shape) (logs : LogsOfAll) : Type 0 where
  pub of_run : AreLogs shape logs
  pub agree : (p q : ℕ) → IsLoyal shape (Replica p) → IsLoyal shape (Replica q)
      → Extends (decided_at shape logs p) (decided_at shape logs q) ⊎ Extends (decided_at shape logs q) (decided_at shape logs p)
  pub right : (c : ℕ) → c < shape.m → (reply : AReply) → In reply (accepted_by shape logs c)
      → IsRightReply shape (history shape logs) (logs (Client c)) reply
  pub legal : IsLegal (history shape logs)

-- each client accepted the replies to exactly those operations that the script gives it, in their order
abbrev pub ServesAll : Script → Logs → Type 0
ServesAll script logs = (c : ℕ) → c < logs.shape.m → HasAll logs.shape c (logs_of logs (Client c)) (ops_of script c)

-- how a service ended: without a cause, all clients were served; else this cause ended it, which is never that the gate stopped a host
abbrev pub IsEndOf : Script → Logs → Option Refusal → Type 0
IsEndOf script logs None = ServesAll script logs
IsEndOf script logs (Some cause) = CauseOf (λ actor. ⊥) script logs cause

-- the text encodes a script that was served, with these logs and this end: loyal replicas were eager, and posted to clients only what these were
-- owed; traitors posted only what the script says
pub record HasService (text : List ℕ) (logs : Logs) (cause : Option Refusal) : Type 0 where
  pub script : Script
  pub spells : Spells text script
  pub shape_is : logs.shape ≡ script.shape
  pub right : AreRightLogs logs.shape (logs_of logs)
  pub owed : AreAllOwed logs
  pub eager : AreAllEager logs
  pub planned : AreAllPlanned script logs
  pub ended : IsEndOf script logs cause

-- the text encodes a script that was served and ended by this cause, if by any; `told` is the service's output
pub record HasServed (Tells : ServiceForm) (text : List ℕ) (cause : Option Refusal) (told : List ℕ) : Type 0 where
  pub logs : Logs
  pub served : HasService text logs cause
  pub tells : Tells logs told

-- ---- what is left

-- the source gave a script that was served and ended by this cause, if by any, and all of its output went out
pub record ToldService (Tells : ServiceForm) (cause : Option Refusal) (s : Streams) : Type 0 where
  pub text : List ℕ
  pub short : length text ≤ most_bytes
  pub given : IsTextOf s.input.left text
  pub told : List ℕ
  pub served : HasServed Tells text cause told
  pub went_out : SentAll told s.output s.written

-- all clients were served, and all of the output went out
abbrev pub ServedAll : ServiceForm → Streams → Type 0
ServedAll Tells s = ToldService Tells None s

-- this cause ended the service, and all of the output on what was done until then went out
abbrev pub ServiceEnded : ServiceForm → Refusal → Streams → Type 0
ServiceEnded Tells cause s = ToldService Tells (Some cause) s

-- however the service ended, a prefix of its output went out; the sink was one that may not take all of it
pub record ServicePart (Tells : ServiceForm) (s : Streams) : Type 0 where
  pub text : List ℕ
  pub short : length text ≤ most_bytes
  pub given : IsTextOf s.input.left text
  pub cause : Option Refusal
  pub told : List ℕ
  pub served : HasServed Tells text cause told
  pub too_many : CanFailToTake (length told) s.output
  pub went_out : SentPrefix told s.output s.written

-- reading the text that the source gave as a script is refused for this reason, and nothing went out
pub record RefusedScript (refusal : Refusal) (s : Streams) : Type 0 where
  pub text : List ℕ
  pub short : length text ≤ most_bytes
  pub given : IsTextOf s.input.left text
  pub refused : IsScriptRefusal text refusal
  pub unwritten : Keeps s.output.contents s.written.contents

-- what each refusal leaves: a text that is not a script is refused by what is wrong with it, and nothing was written; a counter at its limit, a
-- client without an answer, or a thread that could not be started ended the service, and all of its output was written; so did memory that ran
-- out, or nothing was written; if reading failed, which a steady source does only for too many bytes, nothing was written; if writing
-- failed, a prefix was; no other refusal occurs
abbrev pub LeftAfterService : ServiceForm → Refusal → Streams → Type 0
LeftAfterService Tells BadShape s = RefusedScript BadShape s
LeftAfterService Tells (BadText line) s = RefusedScript (BadText line) s
LeftAfterService Tells Exhausted s = ServiceEnded Tells Exhausted s
LeftAfterService Tells Unanswered s = ServiceEnded Tells Unanswered s
LeftAfterService Tells NoThread s = ServiceEnded Tells NoThread s
LeftAfterService Tells NoMemory s = Keeps s.output.contents s.written.contents ⊎ ServiceEnded Tells NoMemory s
LeftAfterService Tells ReadFailed s = CanFailToGive s.input × Keeps s.output.contents s.written.contents
LeftAfterService Tells WriteFailed s = ServicePart Tells s
LeftAfterService Tells other s = ⊥

-- ---- while it is written; no public contract cites this

-- what a refusal leaves while `told`, the output of a service with this cause, is written: all of it went out, and the refusal is the cause; or
-- writing failed, and a prefix of it went out; or memory ran out, and nothing did
abbrev pub IsAfterTelling : List ℕ → Option Refusal → Output → Output → Refusal → Type 0
IsAfterTelling told cause before after refusal =
    ((cause ≡ Some refusal) × SentAll told before after)
    ⊎ (((refusal ≡ WriteFailed) × CanFailToTake (length told) before × SentPrefix told before after)
    ⊎ ((refusal ≡ NoMemory) × (after.contents ≡ before.contents)))

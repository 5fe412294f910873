-- What a C program gets to know about a text, in five numbers (this project).
use Rattle.std.specs.Prelude.{◌≡◌, ℕ, List, length}
use Rattle.dsr_names.specs.Refusal.{code_of}
use Rattle.dsr_names.specs.declared.refusal.Refusal.{Refusal}
use Rattle.dsr_names.specs.declared.refusal.Refusal.TheVariants.{BadText, NotARun}
use Rattle.dsr_record.specs.Record.{Record}
use Rattle.dsr_record.specs.RecordText.{Spells, IsRecordRefusal}
use Rattle.dsr_run.specs.Agreement.{HasAgreement}
use Rattle.dsr_run.specs.Right.{IsRight}
use Rattle.dsr_run.specs.Run.{IsRun}
use Rattle.dsr_record.specs.FirstBad.{IsFirstBad}
use Rattle.dsr_check.specs.Verdict.{Verdict, IsVerdict}
use Rattle.dsr_check_c.specs.declared.report.Report.{Report}

-- the text is the transcript of a run, in which loyal replicas agree and each accepted reply is right; and this is the verdict on it
pub record IsVerdictOn (text : List ℕ) (verdict : Verdict) : Type 0 where
  pub recorded : Record
  pub spelled : Spells text recorded
  pub run : IsRun recorded.shape recorded.run
  pub right : IsRight recorded.shape recorded.run
  pub agreement : HasAgreement recorded.shape recorded.run
  pub of_run : IsVerdict recorded.shape recorded.run verdict

-- the text is the transcript of a run, and the report says how many entries it has, how many requests its history, and how many
-- replies its clients accepted
pub record IsRunReport (text : List ℕ) (report : Report) : Type 0 where
  pub verdict : Verdict
  pub on_text : IsVerdictOn text verdict
  pub line : report.line ≡ 0
  pub entries : report.entries ≡ verdict.entries
  pub history : report.history ≡ length verdict.history
  pub accepted : report.accepted ≡ length verdict.accepted

-- the line that a refusal names; 0 if it names none
abbrev pub line_of : Refusal → ℕ
line_of (BadText line) = line
line_of (NotARun line) = line
line_of other = 0

-- what a refusal says about the text: it is a transcript, and the first of its steps that may not be next is at this line; or it
-- is not a transcript, and why; or nothing, if memory ran out
abbrev pub IsCheckRefusal : List ℕ → Refusal → Type 0
IsCheckRefusal text (NotARun line) = (recorded : Record) × Spells text recorded × IsFirstBad recorded.shape recorded.run line
IsCheckRefusal text other = IsRecordRefusal text other

-- the text is refused: the report has the refusal's number and line, and counts nothing
pub record IsRefusalReport (text : List ℕ) (report : Report) : Type 0 where
  pub refusal : Refusal
  pub why : IsCheckRefusal text refusal
  pub status : report.status ≡ code_of refusal
  pub line : report.line ≡ line_of refusal
  pub entries : report.entries ≡ 0
  pub history : report.history ≡ 0
  pub accepted : report.accepted ≡ 0

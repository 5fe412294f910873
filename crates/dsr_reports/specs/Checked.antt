-- What `check` leaves, by what it returns (this project).
use Rattle.std.specs.Prelude.{◌≡◌, ◌++◌, ℕ, List, codes, length}
use Rattle.std.specs.Fmt.{decimal}
use Rattle.std.specs.Io.KnownBytes.{Keeps}
use Rattle.dsr_names.specs.Shape.{Shape}
use Rattle.dsr_names.specs.Streams.{Streams, CanFailToTake, SentAll, SentPrefix}
use Rattle.dsr_names.specs.declared.refusal.Refusal.{Refusal}
use Rattle.dsr_names.specs.declared.refusal.Refusal.TheVariants.{NoMemory, NotARun, WriteFailed}
use Rattle.dsr_run.specs.Agreement.{HasAgreement}
use Rattle.dsr_run.specs.History.{history}
use Rattle.dsr_run.specs.Right.{IsRight}
use Rattle.dsr_run.specs.Run.{IsRun}
use Rattle.dsr_run.specs.Step.{Step, log_of}
use Rattle.dsr_record.specs.Record.{Record}
use Rattle.dsr_record.specs.RecordFile.{GivesRecord, IsReadRefusal}
use Rattle.dsr_record.specs.FirstBad.{IsFirstBad}
use Rattle.dsr_reports.specs.Report.{accepted_text, history_text}

-- the report on a run: how many steps it has, then the lines of a play's report on what clients accepted and which requests acted
abbrev pub run_text : Shape → List Step → List ℕ
run_text shape run =
    codes "run " ++ (decimal (length run) ++ (codes "\n" ++ (accepted_text shape (log_of run) ++ history_text (history shape (log_of run)))))

-- the recorded steps are a run, in which loyal replicas agree and what clients accepted is right, and this is the report on it
pub record HasChecked (recorded : Record) (report : List ℕ) : Type 0 where
  pub is_run : IsRun recorded.shape recorded.run
  pub agreement : HasAgreement recorded.shape recorded.run
  pub right : IsRight recorded.shape recorded.run
  pub reported : report ≡ run_text recorded.shape recorded.run

-- what each refusal of a record says: which line has the first step that may not follow those before it, or, if memory ran out, nothing;
-- no other refusal occurs
abbrev pub IsCheckRefusal : Record → Refusal → Type 0
IsCheckRefusal recorded (NotARun line) = IsFirstBad recorded.shape recorded.run line
IsCheckRefusal recorded NoMemory = Unit {0}
IsCheckRefusal recorded other = ⊥

-- the source gave a transcript of a run, and the whole report on it went out
pub record CheckedAll (s : Streams) : Type 0 where
  pub recorded : Record
  pub given : GivesRecord s.input recorded
  pub report : List ℕ
  pub checked : HasChecked recorded report
  pub went_out : SentAll report s.output s.written

-- the source gave a transcript of a run, and a prefix of the report on it went out; the sink was one that may not take all of it
pub record CheckedPart (s : Streams) : Type 0 where
  pub recorded : Record
  pub given : GivesRecord s.input recorded
  pub report : List ℕ
  pub checked : HasChecked recorded report
  pub too_many : CanFailToTake (length report) s.output
  pub went_out : SentPrefix report s.output s.written

-- the source gave a transcript of steps that are not a run, with the first bad step on this line, and nothing went out
pub record FoundNoRun (line : ℕ) (s : Streams) : Type 0 where
  pub recorded : Record
  pub given : GivesRecord s.input recorded
  pub first_bad : IsFirstBad recorded.shape recorded.run line
  pub unwritten : Keeps s.output.contents s.written.contents

-- what each refusal leaves: steps that are not a run are refused by the first that may not follow those before it, and nothing was written;
-- if writing failed, a prefix of the report was; every other refusal is one of reading a transcript, and nothing was written: what is wrong
-- with a text that is not one, that reading failed, or that memory ran out, which may also happen later
abbrev pub LeftAfterCheck : Refusal → Streams → Type 0
LeftAfterCheck (NotARun line) s = FoundNoRun line s
LeftAfterCheck WriteFailed s = CheckedPart s
LeftAfterCheck other s = IsReadRefusal s.input other × Keeps s.output.contents s.written.contents

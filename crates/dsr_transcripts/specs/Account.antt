-- The explanation of a transcript (this project).
use Rattle.std.specs.Prelude.{◌≡◌, ◌≢◌, ◌⊎◌, ℕ, Bool, List, [], ◌++◌, Option, None, Some, codes, length}
use Rattle.std.specs.Fmt.{decimal}
use Rattle.dsr_names.specs.Shape.{Shape}
use Rattle.dsr_names.specs.ShapeText.{shape_text}
use Rattle.dsr_names.specs.declared.refusal.Refusal.{Refusal}
use Rattle.dsr_names.specs.declared.refusal.Refusal.TheVariants.{NoMemory, NotARun}
use Rattle.dsr_run.specs.Run.{IsRun}
use Rattle.dsr_run.specs.Step.{Step, Logs, log_of}
use Rattle.dsr_record.specs.Record.{Record}
use Rattle.dsr_record.specs.RecordText.{Spells, IsRecordRefusal, step_text}
use Rattle.dsr_record.specs.FirstBad.{IsFirstBad}
use Rattle.dsr_reasons.specs.Reason.{one_of}
use Rattle.dsr_lines.specs.Record.{IsFaultAt}
use Rattle.dsr_lines.specs.declared.line_fault.LineFault.{LineFault}
use Rattle.dsr_transcripts.specs.Standing.{standing_line, entry_box_line}
use Rattle.dsr_transcripts.specs.Why.{IsWhy}

-- ---- lines

-- the first line: of data the version and the shape; in words there is none
abbrev pub first_line : Bool → Shape → List ℕ
first_line is_data shape = one_of is_data (codes "dsr-explain 1 " ++ (shape_text shape ++ codes "\n")) []

-- the line that says that the steps are a run, and how many they are
abbrev pub run_line : Bool → ℕ → List ℕ
run_line is_data count =
    one_of is_data (codes "run ") (codes "this is a run: each step may follow those before it; number of steps: ") ++ (decimal count ++ codes "\n")

-- the line that names the first step that may not follow, as the transcript has it
abbrev pub stop_line : Bool → ℕ → Step → List ℕ
stop_line is_data line step =
    one_of is_data (codes "stop ") (codes "line ") ++ (decimal line
    ++ (one_of is_data (codes " ") (codes " may not follow those before it: ") ++ (step_text step ++ codes "\n")))

-- ---- the whole text

-- the text says that this step, which is in this line, may not follow logs; why; what its actor's log has due; and what the box holds
pub record TellsStep (is_data : Bool) (shape : Shape) (logs : Logs) (line : ℕ) (step : Step) (fault : LineFault) (text : List ℕ) : Type 0 where
  pub why : List ℕ
  pub says : IsWhy is_data shape logs step.0 fault why
  pub told :
      text ≡ stop_line is_data line step
      ++ (why ++ (standing_line is_data shape logs step.0 ++ entry_box_line is_data shape logs step.0 step.1))

-- the text says that the steps are a run, and they are
pub record TellsRun (is_data : Bool) (recorded : Record) (text : List ℕ) : Type 0 where
  pub run : IsRun recorded.shape recorded.run
  pub told : text ≡ first_line is_data recorded.shape ++ run_line is_data (length recorded.run)

-- the text says that the step in this line may not follow, and why: it is the first that may not, those before it are the run `before`, and this
-- is wrong with it
pub record TellsStop (is_data : Bool) (recorded : Record) (line : ℕ) (text : List ℕ) : Type 0 where
  pub first_bad : IsFirstBad recorded.shape recorded.run line
  pub before : List Step
  pub fault : LineFault
  pub at : IsFaultAt recorded.shape recorded.run before line fault
  pub rest : List ℕ
  pub tells : TellsStep is_data recorded.shape (log_of before) line at.step fault rest
  pub told : text ≡ first_line is_data recorded.shape ++ rest

-- the text explains a record: as a run if nothing is wrong with it; otherwise the line at which it stops being one
abbrev pub TellsRecord : Bool → Record → Option Refusal → List ℕ → Type 0
TellsRecord is_data recorded None text = TellsRun is_data recorded text
TellsRecord is_data recorded (Some (NotARun line)) text = TellsStop is_data recorded line text
TellsRecord is_data recorded (Some other) text = ⊥

-- the transcript encodes a record, and the text explains it
pub record TellsSteps (transcript : List ℕ) (is_data : Bool) (fault : Option Refusal) (text : List ℕ) : Type 0 where
  pub recorded : Record
  pub spells : Spells transcript recorded
  pub tells : TellsRecord is_data recorded fault text

-- the fault is one for which the text is refused as a transcript, other than lack of memory
abbrev pub IsUnread : List ℕ → Option Refusal → Type 0
IsUnread transcript None = ⊥
IsUnread transcript (Some refusal) = (refusal ≢ NoMemory) × IsRecordRefusal transcript refusal

-- the text explains a transcript; or the transcript is refused, and nothing is claimed about the text
abbrev pub TellsTranscript : List ℕ → Bool → Option Refusal → List ℕ → Type 0
TellsTranscript transcript is_data fault text = TellsSteps transcript is_data fault text ⊎ IsUnread transcript fault

-- What `play` leaves, by what it returns (this project).
use Rattle.std.specs.Prelude.{◌≡◌, ◌↔◌, ◌⊎◌, ℕ, ◌<◌, ◌≤◌, All, Bool, false, true, List, [], length}
use Rattle.std.specs.Io.KnownBytes.{Keeps}
use Rattle.dsr_names.specs.Limits.{most_bytes}
use Rattle.dsr_names.specs.Shape.{Shape}
use Rattle.dsr_names.specs.Streams.{Streams, CanFailToGive, CanFailToTake, SentAll, SentPrefix}
use Rattle.dsr_names.specs.declared.refusal.Refusal.{Refusal}
use Rattle.dsr_names.specs.declared.refusal.Refusal.TheVariants.{BadShape, BadText, NoMemory, ReadFailed, WriteFailed}
use Rattle.dsr_history.specs.Applied.{IsTextOf}
use Rattle.dsr_world.specs.Outcome.{HasEnded}
use Rattle.dsr_play.specs.Play.{Play, Spells, IsPlayRefusal}
use Rattle.dsr_run.specs.Agreement.{HasAgreement}
use Rattle.dsr_run.specs.Right.{IsRight}
use Rattle.dsr_run.specs.Run.{IsRun}
use Rattle.dsr_run.specs.Step.{Step, log_of}
use Rattle.dsr_world.specs.declared.run_end.RunEnd.{RunEnd}
use Rattle.dsr_record.specs.Record.{Record}
use Rattle.dsr_record.specs.RecordText.{IsStepOf, record_text}
use Rattle.dsr_record.specs.RecordText.{Spells as SpellsRecord}
use Rattle.dsr_record.specs.declared.version.Version.TheVariants.{One}
use Rattle.dsr_reports.specs.Report.{report_text}

-- ---- what is written

-- a form of a play's output: the text that is written, by the shape, the run, and how the events ended
abbrev pub Form : Type 1
Form = Shape → List Step → RunEnd → List ℕ → Type 0

-- the report
abbrev pub IsReport : Form
IsReport shape run end text = text ≡ report_text shape (log_of run) end

-- the transcript, from which the run can be read back: that of the run's record, in version 1 if that version has all of its lines
pub record IsTranscript (shape : Shape) (run : List Step) (end : RunEnd) (text : List ℕ) : Type 0 where
  pub recorded : Record
  pub shape_is : recorded.shape ≡ shape
  pub run_is : recorded.run ≡ run
  pub version : (recorded.version ≡ One) ↔ All (IsStepOf One) run
  pub is : text ≡ record_text recorded
  pub spells : SpellsRecord text recorded

-- the form of a play's output: the transcript if the flag is true, else the report
abbrev pub form_of : Bool → Form
form_of false = IsReport
form_of true = IsTranscript

-- ---- the play

-- the text encodes a play of this shape, whose events made this run of a new world and ended like this; in it loyal replicas agree, and what
-- clients accepted is right
pub record HasRun (text : List ℕ) (shape : Shape) (run : List Step) (end : RunEnd) : Type 0 where
  pub play : Play
  pub spells : Spells text play
  pub shape_is : play.shape ≡ shape
  pub is_run : IsRun shape run
  pub agreement : HasAgreement shape run
  pub right : IsRight shape run
  pub ended : HasEnded shape run [] play.events end

-- the text encodes a play that was played; `refused` of its events were refused, `starved` of them because memory ran out; `told` is its output
pub record HasPlayed (Tells : Form) (text : List ℕ) (refused starved : ℕ) (told : List ℕ) : Type 0 where
  pub shape : Shape
  pub run : List Step
  pub end : RunEnd
  pub played : HasRun text shape run end
  pub refused_is : end.refused ≡ refused
  pub starved_is : end.starved ≡ starved
  pub tells : Tells shape run end told

-- ---- what is left

-- all events of the play were done but `refused` ones, which were refused for another reason than memory; and all of its output went out
pub record PlayedAll (Tells : Form) (refused : ℕ) (s : Streams) : Type 0 where
  pub text : List ℕ
  pub short : length text ≤ most_bytes
  pub given : IsTextOf s.input.left text
  pub starved : ℕ
  pub none_starved : starved ≡ 0
  pub told : List ℕ
  pub played : HasPlayed Tells text refused starved told
  pub went_out : SentAll told s.output s.written

-- some events of the play were refused because memory ran out, and all of its output went out
pub record PlayedStarved (Tells : Form) (s : Streams) : Type 0 where
  pub text : List ℕ
  pub short : length text ≤ most_bytes
  pub given : IsTextOf s.input.left text
  pub refused : ℕ
  pub starved : ℕ
  pub some_starved : 0 < starved
  pub told : List ℕ
  pub played : HasPlayed Tells text refused starved told
  pub went_out : SentAll told s.output s.written

-- a prefix of the play's output went out; the sink was one that may not take all of it
pub record PlayedPart (Tells : Form) (s : Streams) : Type 0 where
  pub text : List ℕ
  pub short : length text ≤ most_bytes
  pub given : IsTextOf s.input.left text
  pub refused : ℕ
  pub starved : ℕ
  pub told : List ℕ
  pub played : HasPlayed Tells text refused starved told
  pub too_many : CanFailToTake (length told) s.output
  pub went_out : SentPrefix told s.output s.written

-- the text that the source gave is refused for this reason, and nothing went out
pub record RefusedText (refusal : Refusal) (s : Streams) : Type 0 where
  pub text : List ℕ
  pub short : length text ≤ most_bytes
  pub given : IsTextOf s.input.left text
  pub refused : IsPlayRefusal text refusal
  pub unwritten : Keeps s.output.contents s.written.contents

-- what each refusal leaves: a text that is not a play is refused by what is wrong with it, and nothing was written; if memory ran
-- out, nothing was written, or all of the output of a play with some events refused for that; if reading failed, which a steady
-- source does only for too many bytes, nothing was written; if writing failed, a prefix was; no other refusal occurs
abbrev pub LeftAfterPlay : Form → Refusal → Streams → Type 0
LeftAfterPlay Tells BadShape s = RefusedText BadShape s
LeftAfterPlay Tells (BadText line) s = RefusedText (BadText line) s
LeftAfterPlay Tells NoMemory s = Keeps s.output.contents s.written.contents ⊎ PlayedStarved Tells s
LeftAfterPlay Tells ReadFailed s = CanFailToGive s.input × Keeps s.output.contents s.written.contents
LeftAfterPlay Tells WriteFailed s = PlayedPart Tells s
LeftAfterPlay Tells other s = ⊥

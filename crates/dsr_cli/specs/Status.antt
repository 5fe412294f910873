-- What the program's exit status says (this project).
use Rattle.std.specs.Prelude.{◌≡◌, ◌<◌, ◌⊎◌, ◌&&◌, Bool, false, true, ℕ, List, if◌then◌else◌, length, nat_lt}
use Rattle.dsr_names.specs.Streams.{Output, Streams, CanFailToTake, SentAll, SentPrefix, Sent}
use Rattle.dsr_names.specs.Refusal.{refusal_line}
use Rattle.dsr_names.specs.declared.refusal.Refusal.{Refusal}
use Rattle.dsr_names.specs.declared.refusal.Refusal.TheVariants.{NoMemory, WriteFailed}
use Rattle.dsr_history.specs.Applied.{AppliedAll, WrittenAfter}
use Rattle.dsr_command.specs.Asked.{Asked, task, version, help, unknown}
use Rattle.dsr_command.specs.ShownTexts.{IsHelp, IsUsage, version_line}
use Rattle.dsr_command.specs.declared.Task.{Task}
use Rattle.dsr_command.specs.declared.Task.TheVariants.{Apply, Check, Explain, Play, Serve}
use Rattle.dsr_reports.specs.Checked.{CheckedAll, LeftAfterCheck}
use Rattle.dsr_cli.specs.Explained.{ExplainedAll, LeftAfterExplain}
use Rattle.dsr_reports.specs.Played.{LeftAfterPlay, PlayedAll, form_of}
use Rattle.dsr_cli.specs.Served.{LeftAfterService, ServedAll, service_form_of}
use Rattle.dsr_cli.specs.declared.Ending.{Ending}
use Rattle.dsr_cli.specs.declared.Ending.TheVariants.{Done, Unmet}

-- what a run of the program was given and left: its input and output, and its error stream before and after
pub record Run : Type 1 where
  pub io : Streams
  pub errors : Output
  pub told : Output

-- the run with these streams
abbrev pub run_of : Streams → Output → Output → Run
run_of io errors told = record { io = io; errors = errors; told = told }

-- this text was written on the error stream, and nothing else
abbrev pub Told : List ℕ → Run → Type 0
Told text run = Sent text run.errors run.told

-- nothing was written on the error stream
abbrev pub IsQuiet : Run → Type 0
IsQuiet run = run.told.contents ≡ run.errors.contents

-- nothing was written on the output
abbrev pub IsUnwritten : Run → Type 0
IsUnwritten run = run.io.written.contents ≡ run.io.output.contents

-- the status of a refusal
abbrev pub status_of : Refusal → ℕ
status_of NoMemory = 3
status_of other = 1

-- the status is that of a refusal, which was written on the error stream, and `After` of that refusal holds
pub record EndedBy (After : Refusal → Streams → Type 0) (status : ℕ) (run : Run) : Type 0 where
  pub refusal : Refusal
  pub status_is : status ≡ status_of refusal
  pub told : Told (refusal_line refusal) run
  pub left : After refusal run.io

-- the task starts no threads
abbrev pub IsAlone : Task → Type 0
IsAlone (Serve transcript) = ⊥
IsAlone other = Unit {0}

-- a task was done: all lines were answered; the whole report of a play, or the transcript of its run, went out, and no event of the play
-- was refused because memory ran out, nor any event of a strict play for another reason; all clients of a script were served, and the whole
-- report of the service, or its transcript, went out; the whole report on a transcript's run went out; or all of an explanation of a play or of a transcript did
abbrev pub IsDone : Task → Streams → Type 0
IsDone Apply s = AppliedAll s
IsDone (Play false transcript) s = (refused : ℕ) × PlayedAll (form_of transcript) refused s
IsDone (Play true transcript) s = PlayedAll (form_of transcript) 0 s
IsDone (Serve transcript) s = ServedAll (service_form_of transcript) s
IsDone Check s = CheckedAll s
IsDone (Explain narrowing) s = ExplainedAll narrowing s

-- a play that was to be strict was played, and all of its output went out, but some of its events were refused, none because memory ran out
abbrev pub IsUnmet : Task → Streams → Type 0
IsUnmet (Play true transcript) s = (refused : ℕ) × (0 < refused) × PlayedAll (form_of transcript) refused s
IsUnmet other s = ⊥

-- what the end of a task that was not refused means
abbrev pub HasEndedAs : Ending → Task → Streams → Type 0
HasEndedAs Done named s = IsDone named s
HasEndedAs Unmet named s = IsUnmet named s

-- the end of a play with `refused` refused events: unmet if it was to be strict and there are any, else done
abbrev pub ending_of : Bool → ℕ → Ending
ending_of strict refused = if strict && nat_lt 0 refused then Unmet else Done

-- the status of an ending
abbrev pub status_after : Ending → ℕ
status_after Done = 0
status_after Unmet = 1

-- what a refusal of a task leaves
abbrev pub LeftAfter : Task → Refusal → Streams → Type 0
LeftAfter Apply refusal s = WrittenAfter refusal s
LeftAfter (Play strict transcript) refusal s = LeftAfterPlay (form_of transcript) refusal s
LeftAfter (Serve transcript) refusal s = LeftAfterService (service_form_of transcript) refusal s
LeftAfter Check refusal s = LeftAfterCheck refusal s
LeftAfter (Explain narrowing) refusal s = LeftAfterExplain narrowing refusal s

-- the status is that of an ending, nothing was written on the error stream, and what the ending means holds
pub record EndedSo (named : Task) (status : ℕ) (run : Run) : Type 0 where
  pub ending : Ending
  pub status_is : status ≡ status_after ending
  pub quiet : IsQuiet run
  pub ended : HasEndedAs ending named run.io

-- after 0 the task was done; after 1 with nothing on the error stream, an event of a strict play was refused; else the status is a refusal's
abbrev pub WhatTaskLeft : Task → ℕ → Run → Type 0
WhatTaskLeft named status run = EndedSo named status run ⊎ EndedBy (LeftAfter named) status run

-- the status is 1, and the error stream says that writing failed: a prefix of the text went out, to a sink that may not take all of it
pub record ShowedPart (text : List ℕ) (status : ℕ) (run : Run) : Type 0 where
  pub status_is : status ≡ 1
  pub told : Told (refusal_line WriteFailed) run
  pub too_many : CanFailToTake (length text) run.io.output
  pub went_out : SentPrefix text run.io.output run.io.written

-- after 0 the whole text went out, and after 1 a prefix of it
abbrev pub WhatShowingLeft : List ℕ → ℕ → Run → Type 0
WhatShowingLeft text status run = ((status ≡ 0) × SentAll text run.io.output run.io.written) ⊎ ShowedPart text status run

-- memory ran out before anything was written
abbrev pub RanOut : ℕ → Run → Type 0
RanOut status run = (status ≡ 3) × Told (refusal_line NoMemory) run × IsUnwritten run

-- a help's text was shown, or could not be
pub record ShowedHelp (status : ℕ) (run : Run) : Type 0 where
  pub text : List ℕ
  pub is : IsHelp text
  pub left : WhatShowingLeft text status run

-- the status is 2, and a text for unknown words was written on the error stream
pub record ToldUsage (status : ℕ) (run : Run) : Type 0 where
  pub text : List ℕ
  pub is : IsUsage text
  pub status_is : status ≡ 2
  pub told : Told text run
  pub unwritten : IsUnwritten run

-- what the status says, by what was asked: the task was done or refused, the version or help was shown or could not be, or the words
-- asked for nothing that the program knows; in each case memory may have run out before anything was written
abbrev pub StatusFor : Asked → ℕ → Run → Type 0
StatusFor (task named) status run = WhatTaskLeft named status run ⊎ RanOut status run
StatusFor version status run = WhatShowingLeft version_line status run ⊎ RanOut status run
StatusFor help status run = ShowedHelp status run ⊎ RanOut status run
StatusFor unknown status run = ToldUsage status run ⊎ RanOut status run

-- P holds, if the words do not ask for a task
abbrev pub IfNoTask : Asked → Type 0 → Type 0
IfNoTask (task t) P = Unit {0}
IfNoTask version P = P
IfNoTask help P = P
IfNoTask unknown P = P

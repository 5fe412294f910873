-- What is left after a task and after showing a text, and what each reading of the words leads to.
use Rattle.std.proofs.Common.{◌≡◌, ◌<◌, ℕ, zero, suc, Bool, false, true, List, ap, length, inl, inr, refl, subst, sym, zero-lt-suc}
use Rattle.std.specs.Prelude.{Result, Ok, Err, IfErr, IfOk, OnOk, if◌then◌else◌, string_bytes}
use Rattle.std.proofs.lemmas.Bool.Decides.{Decides-ltb}
use Rattle.dsr_command.specs.Asked.{Asked, task, version, help, unknown}
use Rattle.dsr_command.specs.Readings.{IfDo, IfHelp, IfUsage, IfVersion, OnHelp, OnNoMemory, OnUsage, OnVersion}
use Rattle.dsr_command.specs.ShownTexts.{IsHelp, IsUsage, version_line}
use Rattle.dsr_command.specs.declared.Reading.{Reading}
use Rattle.dsr_command.specs.declared.Reading.TheVariants as reading
use Rattle.dsr_command.specs.declared.Task.{Task}
use Rattle.dsr_command.specs.declared.Task.TheVariants.{Play}
use Rattle.dsr_names.specs.Refusal.{refusal_line}
use Rattle.dsr_names.specs.Streams.{Streams, CanFailToTake, SentAll, SentPrefix}
use Rattle.dsr_names.specs.declared.refusal.Refusal.{Refusal}
use Rattle.dsr_names.specs.declared.refusal.Refusal.TheVariants.{WriteFailed}
use Rattle.dsr_reports.specs.Played.{PlayedAll, form_of}
use Rattle.dsr_cli.specs.Status.{Run, HasEndedAs, IsDone, LeftAfter, RanOut, StatusFor, Told, IsQuiet, IsUnwritten, WhatShowingLeft, WhatTaskLeft, ending_of, status_after, status_of}
use Rattle.dsr_cli.specs.declared.Ending.{Ending}
use Rattle.dsr_cli.specs.declared.Ending.TheVariants.{Done, Unmet}

-- ---- how tasks end

-- the end of a task that is either refused or done
pub ended_done : (named : Task) (s : Streams) (done : Result (Unit {0}) Refusal) (r : Result Ending Refusal) → OnOk done (r ≡ Ok Done)
    → IfErr done (λ refusal. r ≡ Err refusal) → OnOk done (IsDone named s) → IfOk r (λ ending. HasEndedAs ending named s)
ended_done named s (Ok nothing) r is refused all = subst (λ (q : Result Ending Refusal). IfOk q (λ ending. HasEndedAs ending named s)) (sym is) all
ended_done named s (Err refusal) r is refused all = subst (λ (q : Result Ending Refusal). IfOk q (λ ending. HasEndedAs ending named s)) (sym refused) tt

pub ended_refused : (named : Task) (s : Streams) (done : Result (Unit {0}) Refusal) (r : Result Ending Refusal) → OnOk done (r ≡ Ok Done)
    → IfErr done (λ refusal. r ≡ Err refusal) → IfErr done (λ refusal. LeftAfter named refusal s) → IfErr r (λ refusal. LeftAfter named refusal s)
ended_refused named s (Ok nothing) r is refused left = subst (λ (q : Result Ending Refusal). IfErr q (λ refusal. LeftAfter named refusal s)) (sym is) tt
ended_refused named s (Err refusal) r is refused left = subst (λ (q : Result Ending Refusal). IfErr q (λ refusal. LeftAfter named refusal s)) (sym refused) left

-- the end of a play with `refused` refused events
pub play_ended : (strict transcript : Bool) (s : Streams) (refused : ℕ) → PlayedAll (form_of transcript) refused s
    → HasEndedAs (ending_of strict refused) (Play strict transcript) s
play_ended false transcript s refused all = (refused, all)
play_ended true transcript s zero all = all
play_ended true transcript s (suc n) all =
    subst (λ (ending : Ending). HasEndedAs ending (Play true transcript) s)
    (sym (ap (λ b. if b then Unmet else Done) ((Decides-ltb 0 (suc n)).1 (zero-lt-suc n)))) (suc n, zero-lt-suc n, all)

-- what the clauses of `perform` follow from
pub ruleset endings = (ended_done, ended_refused)

-- ---- what is left

-- a status of 0 and any other are the two ways in which showing a text ends
pub showing_left : (text : List ℕ) (status : ℕ) (run : Run)
    → (status ≡ 0 → SentAll text run.io.output run.io.written)
    → (0 < status → (status ≡ 1) × CanFailToTake (length text) run.io.output × SentPrefix text run.io.output run.io.written
    × Told (refusal_line WriteFailed) run)
    → WhatShowingLeft text status run
showing_left text zero run whole part = inl (refl, whole refl)
showing_left text (suc n) run whole part =
    let h = part (zero-lt-suc n) in
    inr (record { status_is = h.0; told = h.3; too_many = h.1; went_out = h.2 })

-- a statement about a task that is not refused may be weakened
pub on_ok : {P Q : Type 0} (done : Result Ending Refusal) → (P → Q) → OnOk done P → OnOk done Q
on_ok (Ok ending) f h = f h
on_ok (Err refusal) f h = tt

-- a task that is not refused and one that is are the two ways in which a task ends
pub task_left : (named : Task) (done : Result Ending Refusal) (status : ℕ) (run : Run)
    → IfOk done (λ ending. HasEndedAs ending named run.io) → IfErr done (λ refusal. LeftAfter named refusal run.io)
    → IfOk done (λ ending. status ≡ status_after ending) → OnOk done (IsQuiet run)
    → IfErr done (λ refusal. (status ≡ status_of refusal) × Told (refusal_line refusal) run)
    → WhatTaskLeft named status run
task_left named (Ok ending) status run all left is quiet refused =
    inl (record { ending = ending; status_is = is; quiet = quiet; ended = all })
task_left named (Err refusal) status run all left is quiet refused =
    inr (record { refusal = refusal; status_is = refused.0; told = refused.1; left = left })

-- if memory ran out while the words were read, for anything that they ask for
ran_out : (asked : Asked) (status : ℕ) (run : Run) → RanOut status run → StatusFor asked status run
ran_out (task named) status run h = inr h
ran_out version status run h = inr h
ran_out help status run h = inr h
ran_out unknown status run h = inr h

-- what each reading leads to is what the words ask for
pub status_for : (asked : Asked) (r : Reading) (status : ℕ) (run : Run)
    → IfDo r (λ done. asked ≡ task done) → OnVersion r (asked ≡ version) → OnHelp r (asked ≡ help) → OnUsage r (asked ≡ unknown)
    → IfVersion r (λ line. line ≡ version_line) → IfHelp r IsHelp → IfUsage r IsUsage
    → IfDo r (λ done. WhatTaskLeft done status run) → IfVersion r (λ line. WhatShowingLeft line status run)
    → IfHelp r (λ text. WhatShowingLeft text status run)
    → IfUsage r (λ text. (status ≡ 2) × IsUnwritten run × Told text run) → OnNoMemory r (RanOut status run)
    → StatusFor asked status run
status_for asked (reading.Do named) status run t v h u line help_text usage_text done stated shown told out =
    subst (λ a. StatusFor a status run) (sym t) (inl done)
status_for asked (reading.Version text) status run t v h u line help_text usage_text done stated shown told out =
    subst (λ a. StatusFor a status run) (sym v) (inl (subst (λ (shown_line : List ℕ). WhatShowingLeft shown_line status run) line stated))
status_for asked (reading.Help text) status run t v h u line help_text usage_text done stated shown told out =
    subst (λ a. StatusFor a status run) (sym h) (inl (record { text = string_bytes text; is = help_text; left = shown }))
status_for asked (reading.Usage text) status run t v h u line help_text usage_text done stated shown told out =
    subst (λ a. StatusFor a status run) (sym u)
    (inl (record { text = string_bytes text; is = usage_text; status_is = told.0; told = told.2; unwritten = told.1 }))
status_for asked reading.NoMemory status run t v h u line help_text usage_text done stated shown told out = ran_out asked status run out

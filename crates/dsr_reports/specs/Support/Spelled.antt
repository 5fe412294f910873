-- What is spelled once for several replicas, in the report of a play (this project).
use Rattle.std.specs.Prelude.{◌≡◌, ℕ, length, string_bytes}
use Rattle.dsr_names.specs.Shape.{IsLoyal}
use Rattle.dsr_names.specs.declared.actor.Actor.TheVariants.{Replica}
use Rattle.dsr_run.specs.History.{decided_at}
use Rattle.dsr_run.specs.Step.{log_of}
use Rattle.dsr_world.specs.Stage.{Stage}
use Rattle.dsr_reports.specs.Report.{slots_text}
use Rattle.dsr_reports.specs.declared.report.Spelled.{Spelled}

-- the text is what each loyal replica decided that closed this many slots
abbrev pub IsSpelledAt : Stage → Spelled → Type 0
IsSpelledAt stage spelled =
    (p : ℕ) → IsLoyal stage.shape (Replica p) → length (decided_at stage.shape (log_of stage.run) p) ≡ spelled.slots
    → string_bytes spelled.text ≡ slots_text (decided_at stage.shape (log_of stage.run) p)

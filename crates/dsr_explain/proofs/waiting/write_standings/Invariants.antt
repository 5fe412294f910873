use Rattle.std.proofs.Common.{◌≡◌, ◌++◌}
use Rattle.dsr_run.specs.Step.{log_of}
use Rattle.dsr_explain.specs.Waiting.{standings_text}
use Rattle.dsr_explain.proofs.waiting.write_standings.Given as goal

abbrev pub invariant-loop-place : goal.invariant-loop-place
invariant-loop-place l =
    l.out ≡ l.initial.out ++ standings_text l.stage.shape (log_of l.stage.run) l.client l.number l.place

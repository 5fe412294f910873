use Rattle.dsr_names.specs.Shape.{shape_of}
use Rattle.dsr_run.proofs.MoreTraitors.{more_run, more_logs, no_traitors, fewer_logs}
use Rattle.dsr_run.proofs.blind.traitors_may_be_loyal.Goals as goal

pub returns-clause-runs : goal.returns-clause-runs
returns-clause-runs c shape other adds run is = more_run shape other adds run is

pub returns-clause-logs : goal.returns-clause-logs
returns-clause-logs c shape other adds logs are = more_logs shape other adds logs are

pub returns-clause-none : goal.returns-clause-none
returns-clause-none c n f m traitors run is = more_run (shape_of n f m 0) (shape_of n f m traitors) (no_traitors n f m traitors) run is

pub returns-clause-history : goal.returns-clause-history
returns-clause-history c shape other adds few run is = fewer_logs shape other adds few run is

use Rattle.dsr_run.proofs.Asking.{outstanding_within}
use Rattle.dsr_run.proofs.Within.{rounds_within, posted_within, taken_within, loyal_next_within, history_within}
use Rattle.dsr_run.proofs.laws.limits_are_kept_in_runs.Goals as goal

pub returns-clause-posted : goal.returns-clause-posted
returns-clause-posted c shape run is a to envelope posted = posted_within shape run is a to envelope posted

pub returns-clause-taken : goal.returns-clause-taken
returns-clause-taken c shape run is a from envelope taken = taken_within shape run is a from envelope taken

pub returns-clause-rounds : goal.returns-clause-rounds
returns-clause-rounds c shape run is p loyal = rounds_within shape run is p loyal

pub returns-clause-history : goal.returns-clause-history
returns-clause-history c shape run is = history_within shape run is

pub returns-clause-next : goal.returns-clause-next
returns-clause-next c shape run allowed is p loyal to envelope next = loyal_next_within shape allowed run is p loyal to envelope next

pub returns-clause-again : goal.returns-clause-again
returns-clause-again c shape run is client ask current = outstanding_within shape run is client ask current

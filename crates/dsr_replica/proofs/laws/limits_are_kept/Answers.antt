use Rattle.dsr_replica.proofs.Replying.{history_few, history_fits, next_fits}
use Rattle.dsr_replica.proofs.laws.limits_are_kept.Goals as goal

pub returns-clause-posts : goal.returns-clause-posts
returns-clause-posts c shape p log allowed inside loyal took low to envelope next =
    next_fits shape allowed p inside log loyal took low to envelope next

pub returns-clause-history : goal.returns-clause-history
returns-clause-history c shape log took = history_few shape log took

pub returns-clause-requests : goal.returns-clause-requests
returns-clause-requests c shape log took request inside = history_fits shape log took request inside

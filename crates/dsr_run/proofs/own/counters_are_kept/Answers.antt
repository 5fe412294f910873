use Rattle.dsr_run.proofs.LogLaws.{logs_posts, logs_seen, logs_few, logs_numbers}
use Rattle.dsr_run.proofs.own.counters_are_kept.Goals as goal

pub returns-clause-posts : goal.returns-clause-posts
returns-clause-posts c shape logs are a b = logs_posts shape logs are a b

pub returns-clause-seen : goal.returns-clause-seen
returns-clause-seen c shape logs few are client = logs_seen shape logs are few client

pub returns-clause-few : goal.returns-clause-few
returns-clause-few c shape logs are = logs_few shape logs are

pub returns-clause-numbers : goal.returns-clause-numbers
returns-clause-numbers c shape logs few are client reply h = logs_numbers shape logs are few client reply h

use Rattle.dsr_replica.proofs.laws.calls_keep_a_log_loyal.Goals as goal

pub returns-clause-empty : goal.returns-clause-empty
returns-clause-empty c shape me = tt

pub returns-clause-posted : goal.returns-clause-posted
returns-clause-posted c shape me log loyal q pick picked envelope given = (loyal, (pick, picked, given))

pub returns-clause-replied : goal.returns-clause-replied
returns-clause-replied c shape me log loyal client inside envelope given = (loyal, (inside, given))

pub returns-clause-taken : goal.returns-clause-taken
returns-clause-taken c shape me log loyal p is_due envelope = (loyal, is_due)

pub returns-clause-asked : goal.returns-clause-asked
returns-clause-asked c shape me log loyal client inside envelope = (loyal, inside)

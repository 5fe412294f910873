use Rattle.dsr_run.proofs.NextSteps.{own_post, own_take, held_within, outside_empty}
use Rattle.dsr_run.proofs.own.own_logs_are_enough.Goals as goal

pub returns-clause-post : goal.returns-clause-post
returns-clause-post c shape logs me to envelope allowed are actor other may left empty =
    own_post shape logs are allowed me to envelope actor other may left empty

pub returns-clause-take : goal.returns-clause-take
returns-clause-take c shape logs me from envelope allowed are actor other keeps full =
    own_take shape logs are allowed me from envelope actor other keeps full

pub returns-clause-within : goal.returns-clause-within
returns-clause-within c shape logs me from envelope are full = held_within shape logs are me from envelope full

pub returns-clause-outside : goal.returns-clause-outside
returns-clause-outside c shape logs are a outside = outside_empty shape logs are a outside

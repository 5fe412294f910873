use Rattle.std.proofs.Common.{ap, ◌∙◌, refl}
use Rattle.std.specs.Option.{option_map}
use Rattle.dsr_envelope.specs.declared.envelope.Envelope.TheVariants.{Ask}
use Rattle.dsr_envelope.specs.declared.pick.Pick.TheVariants.{Plain, Begin}
use Rattle.dsr_client.proofs.Choosing.{plain_ask, new_ask}
use Rattle.dsr_client.proofs.laws.calls_keep_a_clients_log.Goals as goal

pub returns-clause-empty : goal.returns-clause-empty
returns-clause-empty c shape me = tt

pub returns-clause-posted : goal.returns-clause-posted
returns-clause-posted c shape me log loyal q inside pick envelope given = (loyal, (inside, (pick, given)))

pub returns-clause-begun : goal.returns-clause-begun
returns-clause-begun c shape me log loyal q inside none op = (loyal, (inside, (Begin op, new_ask shape me log none op)))

pub returns-clause-again : goal.returns-clause-again
returns-clause-again c shape me log loyal q inside ask current =
    (loyal, (inside, (Plain, plain_ask shape me log ∙ ap (option_map Ask) current)))

pub returns-clause-told : goal.returns-clause-told
returns-clause-told c shape me log loyal client inside other = (loyal, (inside, other, refl))

pub returns-clause-taken : goal.returns-clause-taken
returns-clause-taken c shape me log loyal from actor other envelope = (loyal, (actor, other))

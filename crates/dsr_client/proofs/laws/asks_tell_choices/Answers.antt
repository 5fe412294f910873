use Rattle.std.proofs.Common.{ap, sym}
use Rattle.dsr_client.specs.Conduct.{next_number, chosen_beside}
use Rattle.dsr_client.specs.State.{outstanding}
use Rattle.dsr_client.proofs.Choosing.{chosen_ask, choice_told, operation_told, none_told, plain_ask, new_ask}
use Rattle.dsr_client.proofs.laws.asks_tell_choices.Goals as goal

pub returns-clause-choice : goal.returns-clause-choice
returns-clause-choice c shape me log pick ask e = choice_told shape me log pick ask e

pub returns-clause-operation : goal.returns-clause-operation
returns-clause-operation c shape me log op ask e = ap (λ a. a.request.op) (sym (operation_told shape me log op ask e))

pub returns-clause-new : goal.returns-clause-new
returns-clause-new c shape me log op ask e = (none_told shape me log op ask e, operation_told shape me log op ask e)

pub returns-clause-begun : goal.returns-clause-begun
returns-clause-begun c shape me log none op = new_ask shape me log none op

pub returns-clause-plain : goal.returns-clause-plain
returns-clause-plain c shape me log = plain_ask shape me log

pub returns-clause-asks : goal.returns-clause-asks
returns-clause-asks c shape me log pick envelope e =
    let found = chosen_ask (chosen_beside (outstanding shape log) me (next_number shape log) pick) envelope e in (found.0, found.2)

use Rattle.dsr_client.proofs.Asked.{was_posted}
use Rattle.dsr_client.proofs.Numbers.{numbered}
use Rattle.dsr_client.proofs.laws.numbers_name_one_request.Goals as goal

pub returns-clause-once : goal.returns-clause-once
returns-clause-once c shape me log loyal q r ask other inside later same = (numbered shape me log loyal).once q r ask other inside later same

pub returns-clause-own : goal.returns-clause-own
returns-clause-own c shape me log loyal q ask inside = let own = ((numbered shape me log loyal).posted q ask inside).0 in (own.op, own.is)

pub returns-clause-next : goal.returns-clause-next
returns-clause-next c shape me log loyal ask current = ((numbered shape me log loyal).next ask current).0

pub returns-clause-posted : goal.returns-clause-posted
returns-clause-posted c shape log ask current = was_posted shape log ask current

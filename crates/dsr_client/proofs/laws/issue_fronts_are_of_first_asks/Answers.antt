use Rattle.dsr_client.specs.Conduct.{next_number}
use Rattle.dsr_client.proofs.Issuing.{unasked, no_front, first_front, front_stays, issued, front_told, front_below, next_unasked}
use Rattle.dsr_client.proofs.laws.issue_fronts_are_of_first_asks.Goals as goal

pub returns-clause-issued : goal.returns-clause-issued
returns-clause-issued c shape number log front = (issued shape number log front, front_told shape number log front)

pub returns-clause-first : goal.returns-clause-first
returns-clause-first c shape number log none q ask same = first_front shape number log none q ask same

pub returns-clause-never : goal.returns-clause-never
returns-clause-never c shape number log = (unasked shape number log, no_front shape number log)

pub returns-clause-next : goal.returns-clause-next
returns-clause-next c shape me log loyal none = no_front shape (next_number shape log) log (next_unasked shape me log loyal none)

pub returns-clause-stays : goal.returns-clause-stays
returns-clause-stays c shape number log later front e grown = front_stays shape number log later front e grown

pub returns-clause-seen : goal.returns-clause-seen
returns-clause-seen c shape number log front e = front_below shape number log front e

use Rattle.dsr_slot.proofs.Keeps.{after_few, after_distinct, after_came, after_stays, after_heard}
use Rattle.dsr_slot.proofs.laws.first_two_contents_are_kept.Goals as goal

pub returns-clause-few : goal.returns-clause-few
returns-clause-few c shape slot read rounds = after_few shape slot read rounds

pub returns-clause-distinct : goal.returns-clause-distinct
returns-clause-distinct c shape slot read rounds = after_distinct shape slot read rounds

pub returns-clause-came : goal.returns-clause-came
returns-clause-came c shape slot read rounds = after_came shape slot read rounds

pub returns-clause-stays : goal.returns-clause-stays
returns-clause-stays c shape slot read rounds later = after_stays shape slot read rounds later

pub returns-clause-heard : goal.returns-clause-heard
returns-clause-heard c shape slot read rounds round chain = after_heard shape slot read rounds round chain

use Rattle.dsr_slot.proofs.Agreement.{agreement, validity}
use Rattle.dsr_slot.proofs.Deciding.{decided_asked}
use Rattle.dsr_slot.proofs.Silence.{silent_broadcast}
use Rattle.dsr_slot.proofs.laws.agreement_and_validity.Goals as goal

pub returns-clause-agreement : goal.returns-clause-agreement
returns-clause-agreement c shape slot value given few broadcast = agreement shape slot value given broadcast few

pub returns-clause-validity : goal.returns-clause-validity
returns-clause-validity c shape slot value given broadcast = validity shape slot value given broadcast

pub returns-clause-asked : goal.returns-clause-asked
returns-clause-asked c shape slot read = decided_asked shape slot read

pub returns-clause-some : goal.returns-clause-some
returns-clause-some c shape slot value asked = silent_broadcast shape slot value asked

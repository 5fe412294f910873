use Rattle.dsr_rotation.proofs.Closing.{begins_blind, closed_blind}
use Rattle.dsr_rotation.proofs.laws.calendar_is_blind.Goals as goal

pub returns-clause-begins : goal.returns-clause-begins
returns-clause-begins c shape other agree slot = begins_blind shape other slot

pub returns-clause-closed : goal.returns-clause-closed
returns-clause-closed c shape other agree t = closed_blind shape other agree t

use Rattle.dsr_slot.proofs.Blindness.{kept_blind, posted_blind, decided_blind}
use Rattle.dsr_slot.proofs.laws.rules_are_blind.Goals as goal

pub returns-clause-kept : goal.returns-clause-kept
returns-clause-kept c shape other agree slot read rounds = kept_blind shape other agree slot read rounds

pub returns-clause-posted : goal.returns-clause-posted
returns-clause-posted c shape other agree slot me value round kept = posted_blind shape other agree slot me value round kept

pub returns-clause-decided : goal.returns-clause-decided
returns-clause-decided c shape other agree slot read = decided_blind shape other agree slot read

use Rattle.dsr_replica.proofs.Blindness.{due_blind, slot_kept_blind, decided_values_blind, held_blind, envelope_to_blind, loyal_blind}
use Rattle.dsr_replica.proofs.laws.conduct_is_blind.Goals as goal

pub returns-clause-due : goal.returns-clause-due
returns-clause-due c shape other agree log = due_blind shape other agree log

pub returns-clause-kept : goal.returns-clause-kept
returns-clause-kept c shape other agree log slot closed = slot_kept_blind shape other agree log slot closed

pub returns-clause-decided : goal.returns-clause-decided
returns-clause-decided c shape other agree log = decided_values_blind shape other agree log

pub returns-clause-held : goal.returns-clause-held
returns-clause-held c shape other agree client log = held_blind shape other agree client log

pub returns-clause-posted : goal.returns-clause-posted
returns-clause-posted c shape other agree me log to pick = envelope_to_blind shape other agree me log to pick

pub returns-clause-conduct : goal.returns-clause-conduct
returns-clause-conduct c shape other agree me log = loyal_blind shape other agree me log

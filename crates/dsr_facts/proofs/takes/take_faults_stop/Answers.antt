use Rattle.dsr_facts.proofs.TakeLemmas.{take_fault_stops}
use Rattle.dsr_facts.proofs.takes.take_faults_stop.Goals as goal

pub returns : goal.returns
returns c shape logs at from found fault holds next = take_fault_stops shape logs at from found fault holds next

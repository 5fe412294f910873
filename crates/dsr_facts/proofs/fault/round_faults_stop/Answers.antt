use Rattle.dsr_facts.proofs.FaultLemmas.{round_fault_stops}
use Rattle.dsr_facts.proofs.fault.round_faults_stop.Goals as goal

pub returns : goal.returns
returns c = round_fault_stops

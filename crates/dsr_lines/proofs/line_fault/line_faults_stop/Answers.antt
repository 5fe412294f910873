use Rattle.dsr_lines.proofs.FaultLemmas.{fault_stops}
use Rattle.dsr_lines.proofs.line_fault.line_faults_stop.Goals as goal

pub returns : goal.returns
returns c = fault_stops

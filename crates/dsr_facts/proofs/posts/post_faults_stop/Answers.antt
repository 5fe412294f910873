use Rattle.dsr_facts.proofs.PostLemmas.{post_fault_stops}
use Rattle.dsr_facts.proofs.posts.post_faults_stop.Goals as goal

pub returns : goal.returns
returns c shape logs p q found fault honest holds next = post_fault_stops shape logs p q found fault honest holds next

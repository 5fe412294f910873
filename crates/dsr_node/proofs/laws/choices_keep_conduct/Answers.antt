use Rattle.dsr_node.proofs.Conduct.{replica_next, round_below, client_next, new_request_within, take_next}
use Rattle.dsr_node.proofs.laws.choices_keep_conduct.Goals as goal

pub returns : goal.returns
returns c = record { replicas = replica_next; rounds = round_below; clients = client_next; new = new_request_within; takes = take_next }

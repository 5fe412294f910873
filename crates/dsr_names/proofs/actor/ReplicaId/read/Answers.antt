use Rattle.std.proofs.Common.{sym, subst}
use Rattle.dsr_names.proofs.ReplicaTokens.{ReadsReplica, no_actor, a_client, a_replica}
use Rattle.dsr_names.proofs.actor.ReplicaId.read.Goals as goal

pub returns-in_err-replica : goal.returns-in_err-replica
returns-in_err-replica c = subst (ReadsReplica c.args.bytes.now) (sym c.from_residual.ensures) (no_actor c.args.bytes.now c.in_err-replica.ensures)

pub returns-in-Replica : goal.returns-in-Replica
returns-in-Replica c = a_replica c.args.bytes.now c.in-Replica.replica (rw c.in-Replica.is at c.in_ok-replica.ensures)

pub returns-in-Client : goal.returns-in-Client
returns-in-Client c = a_client c.args.bytes.now c.in-Client.field-0 (rw c.in-Client.is at c.in_ok-replica.ensures)

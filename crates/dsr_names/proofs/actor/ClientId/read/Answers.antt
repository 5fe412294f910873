use Rattle.std.proofs.Common.{sym, subst}
use Rattle.dsr_names.proofs.ClientTokens.{ReadsClient, no_actor, a_client, a_replica}
use Rattle.dsr_names.proofs.actor.ClientId.read.Goals as goal

pub returns-in_err-client : goal.returns-in_err-client
returns-in_err-client c = subst (ReadsClient c.args.bytes.now) (sym c.from_residual.ensures) (no_actor c.args.bytes.now c.in_err-client.ensures)

pub returns-in-Client : goal.returns-in-Client
returns-in-Client c = a_client c.args.bytes.now c.in-Client.client (rw c.in-Client.is at c.in_ok-client.ensures)

pub returns-in-Replica : goal.returns-in-Replica
returns-in-Replica c = a_replica c.args.bytes.now c.in-Replica.field-0 (rw c.in-Replica.is at c.in_ok-client.ensures)

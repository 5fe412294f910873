use Rattle.std.proofs.Common.{◌≡◌, ◌↔◌, Some, subst}
use Rattle.dsr_names.specs.Actor.{actor_text, IsNumbered}
use Rattle.dsr_names.specs.declared.actor.Actor.{Actor}
use Rattle.dsr_request.proofs.RequestTextLemmas.{client_read, replica_read, no_actor_read}
use Rattle.dsr_request.proofs.request_text.read_client.Goals as goal

pub returns-in_err-client : goal.returns-in_err-client
returns-in_err-client c = no_actor_read c.args.bytes.now c.from_residual.result c.from_residual.ensures c.in_err-client.ensures

pub returns-in-Client : goal.returns-in-Client
returns-in-Client c =
    client_read c.args.bytes.now c.in-Client.client
    (subst (λ x. (a : Actor) → (Some x ≡ Some a) ↔ (IsNumbered a × (c.args.bytes.now ≡ actor_text a))) c.in-Client.is c.in_ok-client.ensures)

pub returns-in-Replica : goal.returns-in-Replica
returns-in-Replica c =
    replica_read c.args.bytes.now c.in-Replica.field-0
    (subst (λ x. (a : Actor) → (Some x ≡ Some a) ↔ (IsNumbered a × (c.args.bytes.now ≡ actor_text a))) c.in-Replica.is c.in_ok-client.ensures)

use Rattle.std.proofs.Common.{◌∙◌}
use Rattle.dsr_mail.specs.Seats.{is_loyal_replica, is_traitor_replica, is_client, actors_of}
use Rattle.dsr_mail_tries.proofs.SameLemmas.{new_of_mail, come_back_written}
use Rattle.dsr_mail_tries.proofs.tries.try_all.Goals as goal

pub try_kinds-requires-clause-replicas : goal.try_kinds-requires-clause-replicas
try_kinds-requires-clause-replicas g c κs within =
    let mail = c.args.mail.now in let slice = c.as_mut_slice-replicas in
    new_of_mail mail (actors_of is_loyal_replica mail.shape) slice.result.now (slice.ensures.value ∙ c.requires.replicas)

pub try_kinds-requires-clause-traitors : goal.try_kinds-requires-clause-traitors
try_kinds-requires-clause-traitors g c κs within =
    let mail = c.args.mail.now in let slice = c.as_mut_slice-traitors in
    new_of_mail mail (actors_of is_traitor_replica mail.shape) slice.result.now (slice.ensures.value ∙ c.requires.traitors)

pub try_kinds-requires-clause-clients : goal.try_kinds-requires-clause-clients
try_kinds-requires-clause-clients g c κs within =
    let mail = c.args.mail.now in let slice = c.as_mut_slice-clients in
    new_of_mail mail (actors_of is_client mail.shape) slice.result.now (slice.ensures.value ∙ c.requires.clients)

pub returns-clause-replicas : goal.returns-clause-replicas
returns-clause-replicas g c =
    let slice = c.as_mut_slice-replicas in
    come_back_written c.args.mail.now is_loyal_replica slice.result.now c.try_kinds.new.replicas _ _
    (slice.ensures.value ∙ c.requires.replicas) slice.ensures.len c.try_kinds.ensures.replicas

pub returns-clause-traitors : goal.returns-clause-traitors
returns-clause-traitors g c =
    let slice = c.as_mut_slice-traitors in
    come_back_written c.args.mail.now is_traitor_replica slice.result.now c.try_kinds.new.traitors _ _
    (slice.ensures.value ∙ c.requires.traitors) slice.ensures.len c.try_kinds.ensures.traitors

pub returns-clause-clients : goal.returns-clause-clients
returns-clause-clients g c =
    let slice = c.as_mut_slice-clients in
    come_back_written c.args.mail.now is_client slice.result.now c.try_kinds.new.clients _ _
    (slice.ensures.value ∙ c.requires.clients) slice.ensures.len c.try_kinds.ensures.clients

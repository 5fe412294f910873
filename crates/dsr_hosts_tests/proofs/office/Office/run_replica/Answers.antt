use Rattle.std.proofs.Common.{◌<◌, length, subst}
use Rattle.dsr_mail.specs.Seats.{is_loyal_replica}
use Rattle.dsr_hosts_tests.proofs.SeatLemmas.{seats_stay}
use Rattle.dsr_hosts_tests.proofs.office.Office.run_replica.Goals as goal

pub invariant_of-self-2 : goal.invariant_of-self-2
invariant_of-self-2 g c =
    let old = c.args.self.now in
    record {
      replicas =
          seats_stay old.mail is_loyal_replica old.seats.replicas.items c.in-Some.place c.index_mut.result.now c.replica_runs.new.seat old.replicas
          (subst (λ xs. c.in-Some.place < length xs) c.as_slice.ensures.value c.in-Some.ensures) c.index_mut.ensures.value c.replica_runs.ensures;
      traitors = old.traitors;
      clients = old.clients;
    }

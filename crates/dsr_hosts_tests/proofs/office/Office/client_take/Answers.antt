use Rattle.std.proofs.Common.{◌<◌, length, subst}
use Rattle.dsr_mail.specs.Seats.{is_client}
use Rattle.dsr_hosts_tests.proofs.SeatLemmas.{seats_stay}
use Rattle.dsr_hosts_tests.proofs.office.Office.client_take.Goals as goal

pub invariant_of-self-2 : goal.invariant_of-self-2
invariant_of-self-2 c =
    let old = c.args.self.now in
    record {
      replicas = old.replicas;
      traitors = old.traitors;
      clients =
          seats_stay old.mail is_client old.seats.clients.items c.in-Some.place c.index_mut.result.now c.client_takes.new.seat old.clients
          (subst (λ xs. c.in-Some.place < length xs) c.as_slice.ensures.value c.in-Some.ensures) c.index_mut.ensures.value c.client_takes.ensures;
    }

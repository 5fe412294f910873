use Rattle.dsr_mail.specs.Seats.{is_loyal_replica, is_traitor_replica, is_client}
use Rattle.dsr_hosts_tests.proofs.SeatLemmas.{new_seats}
use Rattle.dsr_hosts_tests.proofs.office.Office.open.Goals as goal

pub invariant_of-result : goal.invariant_of-result
invariant_of-result c =
    let made = c.in_ok-mail in
    record {
      replicas = new_seats made.mail is_loyal_replica made.seats.replicas.items made.ensures.replicas;
      traitors = new_seats made.mail is_traitor_replica made.seats.traitors.items made.ensures.traitors;
      clients = new_seats made.mail is_client made.seats.clients.items made.ensures.clients;
    }

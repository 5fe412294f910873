use Rattle.std.proofs.Common.{◌++◌}
use Rattle.dsr_base.proofs.MemberLemmas.{In-append_right}
use Rattle.dsr_mail_tries.proofs.OrderLemmas.{in_order}
use Rattle.dsr_mail_tries.proofs.order.ask_in_order.Goals as goal

pub returns-in-Ok : goal.returns-in-Ok
returns-in-Ok g c =
    let seats = c.ask_from_seats.new.seats in
    let traitors = seats.traitors.items in
    let clients = seats.clients.items in
    record {
      ordered =
          in_order c.in_ok-mail.mail.shape c.in-Ok.moment clients c.close_after.result c.close_after.ensures.shape c.in-Ok.ensures.between
          (λ seat inside.
          c.close_after.ensures.own seat (In-append_right seat seats.replicas.items (traitors ++ clients) (In-append_right seat traitors clients inside)))
          c.close_after.ensures.places;
    }

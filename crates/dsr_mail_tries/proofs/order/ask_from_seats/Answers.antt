use Rattle.std.proofs.Common.{◌≡◌, ap, ◌∙◌}
use Rattle.dsr_names.specs.declared.actor.Actor.TheVariants.{Replica, Client}
use Rattle.dsr_boxes.specs.Pass.{Pass, new_pass}
use Rattle.dsr_mail_tries.proofs.OrderLemmas.{last_of_one, last_of_two, both_back, replica_back, clients_back, is_between}
use Rattle.dsr_mail_tries.proofs.order.ask_from_seats.Goals as goal

pub returns-clause-replicas : goal.returns-clause-replicas
returns-clause-replicas g c =
    let mail = c.args.mail.now in
    let replica = c.in-Some.replica in
    let asked = c.both_ask-ended in
    let none = c.pop.new.self.items in
    let lent =
    last_of_one c.args.seats.now.replicas.items (new_pass mail (Replica 0)) replica none c.requires.replicas c.in-Some.ensures.items in
    replica_back mail c.requires.shape none c.push_reserved.new.self.items replica asked.new.replica lent.0 lent.1 asked.ensures.replica
    c.push_reserved.ensures.items

pub returns-clause-clients : goal.returns-clause-clients
returns-clause-clients g c =
    let mail = c.args.mail.now in
    let first = c.in-Some-pop-2.first in
    let second = c.in-Some-pop.second in
    let asked = c.both_ask-ended in
    let one = c.pop-2.new.self.items in
    let none = c.pop-3.new.self.items in
    let both = c.push_reserved-3.new.self.items in
    let lent =
    last_of_two c.args.seats.now.clients.items one none (new_pass mail (Client 0)) (new_pass mail (Client 1)) first second c.requires.clients
    c.in-Some-pop.ensures.items c.in-Some-pop-2.ensures.items in
    let back =
    both_back none c.push_reserved-2.new.self.items both asked.new.first asked.new.second lent.0 c.push_reserved-2.ensures.items
    c.push_reserved-3.ensures.items in
    clients_back mail c.requires.shape both first second asked.new.first asked.new.second back lent.1 asked.ensures.first lent.2 asked.ensures.second

pub returns-clause-between : goal.returns-clause-between
returns-clause-between g c =
    let mail = c.args.mail.now in
    let first = c.in-Some-pop-2.first in
    let second = c.in-Some-pop.second in
    let asked = c.both_ask-ended in
    let one = c.pop-2.new.self.items in
    let none = c.pop-3.new.self.items in
    let both = c.push_reserved-3.new.self.items in
    let lent =
    last_of_two c.args.seats.now.clients.items one none (new_pass mail (Client 0)) (new_pass mail (Client 1)) first second c.requires.clients
    c.in-Some-pop.ensures.items c.in-Some-pop-2.ensures.items in
    let back =
    both_back none c.push_reserved-2.new.self.items both asked.new.first asked.new.second lent.0 c.push_reserved-2.ensures.items
    c.push_reserved-3.ensures.items in
    let actor : asked.new.first.actor ≡ Client 0 = asked.ensures.first.2 ∙ ap (λ (p : Pass). p.actor) lent.1 in
    is_between mail both asked.new.first second asked.new.second asked.result back actor lent.2 asked.ensures.done asked.ensures.past

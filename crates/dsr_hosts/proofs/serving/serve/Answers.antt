use Rattle.dsr_mail.specs.Seats.{is_loyal_replica, is_traitor_replica, is_client}
use Rattle.dsr_hosts.proofs.Closing.{are_new, are_seats_of, all_served, all_owed, all_eager, all_planned, none_owed, none_eager, none_planned, some_cause, none_cause}
use Rattle.dsr_hosts.proofs.serving.serve.Goals as goal

pub run_all-ran-requires-after_bounds : goal.run_all-ran-requires-after_bounds
run_all-ran-requires-after_bounds g c κs within =
    let opened = c.in-Ok.opened in
    are_new opened.0 opened.1 c.in-Ok.ensures.replicas c.in-Ok.ensures.traitors c.in-Ok.ensures.clients

pub close-logs-requires-clause-replicas : goal.close-logs-requires-clause-replicas
close-logs-requires-clause-replicas g c =
    are_seats_of c.in-Ok.opened.0 is_loyal_replica c.in-Ok.opened.1.replicas.items c.run_all-ran.result.seats.replicas.items
    c.in-Ok.ensures.replicas c.run_all-ran.ensures.replicas

pub close-logs-requires-clause-traitors : goal.close-logs-requires-clause-traitors
close-logs-requires-clause-traitors g c =
    are_seats_of c.in-Ok.opened.0 is_traitor_replica c.in-Ok.opened.1.traitors.items c.run_all-ran.result.seats.traitors.items
    c.in-Ok.ensures.traitors c.run_all-ran.ensures.traitors

pub close-logs-requires-clause-clients : goal.close-logs-requires-clause-clients
close-logs-requires-clause-clients g c =
    are_seats_of c.in-Ok.opened.0 is_client c.in-Ok.opened.1.clients.items c.run_all-ran.result.seats.clients.items
    c.in-Ok.ensures.clients c.run_all-ran.ensures.clients

pub returns-in-None-clause-served : goal.returns-in-None-clause-served
returns-in-None-clause-served g c =
    all_served c.in-Ok.opened.0 c.args.script.now c.run_all-ran.result.seats c.close-logs.result
    (are_seats_of c.in-Ok.opened.0 is_client c.in-Ok.opened.1.clients.items c.run_all-ran.result.seats.clients.items
    c.in-Ok.ensures.clients c.run_all-ran.ensures.clients)
    (c.run_all-ran.ensures.served (none_cause c.run_all-ran.result.ends.first c.run_all-ran.result.ends.served c.in-None.ensures)) c.close-logs.ensures.shape c.close-logs.ensures.own

pub returns-in-Some-clause-cause : goal.returns-in-Some-clause-cause
returns-in-Some-clause-cause g c =
    some_cause (g.G.Gate.may_refuse c.args.gate.now) c.in-Ok.opened.0 c.args.script.now c.in-Ok.opened.1 c.run_all-ran.result c.close-logs.result
    c.in-Some.cause c.run_all-ran.ensures c.close-logs.ensures.shape c.close-logs.ensures.own c.in-Some.ensures

pub returns-in-None-clause-owed : goal.returns-in-None-clause-owed
returns-in-None-clause-owed g c =
    all_owed c.in-Ok.opened.0 c.run_all-ran.result.seats c.close-logs.result
    (are_seats_of c.in-Ok.opened.0 is_loyal_replica c.in-Ok.opened.1.replicas.items c.run_all-ran.result.seats.replicas.items
    c.in-Ok.ensures.replicas c.run_all-ran.ensures.replicas) c.run_all-ran.ensures.owed c.close-logs.ensures.shape c.close-logs.ensures.own

pub returns-in-None-clause-eager : goal.returns-in-None-clause-eager
returns-in-None-clause-eager g c =
    all_eager c.in-Ok.opened.0 c.run_all-ran.result.seats c.close-logs.result
    (are_seats_of c.in-Ok.opened.0 is_loyal_replica c.in-Ok.opened.1.replicas.items c.run_all-ran.result.seats.replicas.items
    c.in-Ok.ensures.replicas c.run_all-ran.ensures.replicas) c.run_all-ran.ensures.eager c.close-logs.ensures.shape c.close-logs.ensures.own

pub returns-in-None-clause-planned : goal.returns-in-None-clause-planned
returns-in-None-clause-planned g c =
    all_planned c.in-Ok.opened.0 c.args.script.now c.run_all-ran.result.seats c.close-logs.result
    (are_seats_of c.in-Ok.opened.0 is_traitor_replica c.in-Ok.opened.1.traitors.items c.run_all-ran.result.seats.traitors.items
    c.in-Ok.ensures.traitors c.run_all-ran.ensures.traitors) c.run_all-ran.ensures.planned c.close-logs.ensures.shape c.close-logs.ensures.own

pub returns-in-Some-clause-fault_owed : goal.returns-in-Some-clause-fault_owed
returns-in-Some-clause-fault_owed g c =
    all_owed c.in-Ok.opened.0 c.run_all-ran.result.seats c.close-logs.result
    (are_seats_of c.in-Ok.opened.0 is_loyal_replica c.in-Ok.opened.1.replicas.items c.run_all-ran.result.seats.replicas.items
    c.in-Ok.ensures.replicas c.run_all-ran.ensures.replicas) c.run_all-ran.ensures.owed c.close-logs.ensures.shape c.close-logs.ensures.own

pub returns-in-Some-clause-fault_eager : goal.returns-in-Some-clause-fault_eager
returns-in-Some-clause-fault_eager g c =
    all_eager c.in-Ok.opened.0 c.run_all-ran.result.seats c.close-logs.result
    (are_seats_of c.in-Ok.opened.0 is_loyal_replica c.in-Ok.opened.1.replicas.items c.run_all-ran.result.seats.replicas.items
    c.in-Ok.ensures.replicas c.run_all-ran.ensures.replicas) c.run_all-ran.ensures.eager c.close-logs.ensures.shape c.close-logs.ensures.own

pub returns-in-Some-clause-fault_planned : goal.returns-in-Some-clause-fault_planned
returns-in-Some-clause-fault_planned g c =
    all_planned c.in-Ok.opened.0 c.args.script.now c.run_all-ran.result.seats c.close-logs.result
    (are_seats_of c.in-Ok.opened.0 is_traitor_replica c.in-Ok.opened.1.traitors.items c.run_all-ran.result.seats.traitors.items
    c.in-Ok.ensures.traitors c.run_all-ran.ensures.traitors) c.run_all-ran.ensures.planned c.close-logs.ensures.shape c.close-logs.ensures.own

pub returns-in-Err-clause-fault_owed : goal.returns-in-Err-clause-fault_owed
returns-in-Err-clause-fault_owed g c = none_owed c.empty-logs.result c.empty-logs.ensures.none

pub returns-in-Err-clause-fault_eager : goal.returns-in-Err-clause-fault_eager
returns-in-Err-clause-fault_eager g c = none_eager c.empty-logs.result c.empty-logs.ensures.none

pub returns-in-Err-clause-fault_planned : goal.returns-in-Err-clause-fault_planned
returns-in-Err-clause-fault_planned g c = none_planned c.args.script.now c.empty-logs.result c.empty-logs.ensures.none

pub returns-in-Some-clause-fault_all : goal.returns-in-Some-clause-fault_all
returns-in-Some-clause-fault_all g c other = c.close-logs.ensures.all

pub returns-in-Err-clause-fault_all : goal.returns-in-Err-clause-fault_all
returns-in-Err-clause-fault_all g c other = absurd (other c.in-Err.ensures.refusal)

use Rattle.dsr_calls.proofs.Turns.{goes_asked, keeps_asked, goes_same, waits_first, adds_none, adds_asked, visit_goes, visit_ok, visit_err, visit_adds}
use Rattle.dsr_calls.proofs.visits.visit.Goals as goal

pub returns-clause-log : goal.returns-clause-log
returns-clause-log c =
    let seat = c.args.seat.now in
    let mid = c.post_turn.new.seat in
    let turn = c.take_turn.ensures in
    visit_goes c.args.replica seat mid c.take_turn.new.seat c.take_turn.result (goes_asked c.args.op.now c.args.replica seat mid c.in-Ok.ensures.ok) turn.ok turn.err

pub returns-clause-ok : goal.returns-clause-ok
returns-clause-ok c =
    let seat = c.args.seat.now in
    let mid = c.post_turn.new.seat in
    let op = c.args.op.now in
    let asked = c.in-Ok.ensures.ok in
    visit_ok op c.args.replica seat mid c.take_turn.new.seat c.take_turn.result (goes_asked op c.args.replica seat mid asked)
    (keeps_asked op c.client-client.result c.args.replica seat mid c.client-client.ensures.same asked) c.take_turn.ensures.ok

pub returns-clause-err : goal.returns-clause-err
returns-clause-err c =
    let seat = c.args.seat.now in
    let mid = c.post_turn.new.seat in
    let op = c.args.op.now in
    visit_err op seat mid c.take_turn.new.seat c.take_turn.result
    (keeps_asked op c.client-client.result c.args.replica seat mid c.client-client.ensures.same c.in-Ok.ensures.ok) c.take_turn.ensures.err

pub returns-clause-added : goal.returns-clause-added
returns-clause-added c =
    let seat = c.args.seat.now in
    let mid = c.post_turn.new.seat in
    let op = c.args.op.now in
    let me = c.client-client.result in
    let client = c.client-client.ensures in
    let asked = c.in-Ok.ensures.ok in
    let waits = keeps_asked op me c.args.replica seat mid client.same asked seat (goes_same seat) (waits_first seat me op client.same client.conduct) in
    let turn = c.take_turn.ensures in
    visit_adds op c.args.replica seat mid c.take_turn.new.seat c.take_turn.result (goes_asked op c.args.replica seat mid asked) waits
    (adds_asked op me c.args.replica seat mid client.same asked) turn.ok turn.err

pub returns-in-Err-clause-added : goal.returns-in-Err-clause-added
returns-in-Err-clause-added c = adds_none c.args.op.now c.args.seat.now c.post_turn.new.seat c.in-Err.ensures.err

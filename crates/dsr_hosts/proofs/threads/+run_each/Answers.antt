use Rattle.std.proofs.Common.{sym, subst}
use Rattle.dsr_names.specs.Shape.{IsActor}
use Rattle.dsr_hosts.specs.Seats.{pass_of, IsBack}
use Rattle.dsr_hosts.proofs.Backs.{back_of, comes_at}
use Rattle.dsr_hosts.proofs.Runs.{none_run, still_new, come_on, room_left}
use Rattle.dsr_hosts.proofs.threads.+run_each.Goals as goal

pub returns-in_default : goal.returns-in_default
returns-in_default g t c =
    none_run (g.G.Gate.may_refuse c.args.service.now.host.gate.now) c.args.service.now.host.mail.now c.args.service.now.script.now c.args.seats
    c.take_last.new.seats c.none-ends.result c.in_default.ensures.none c.take_last.ensures.room c.none-ends.ensures.first c.none-ends.ensures.served

pub start-started-requires-after_bounds : goal.start-started-requires-after_bounds
start-started-requires-after_bounds g t c κs within =
    (still_new c.args.service.now.host.mail.now c.args.seats c.take_last.new.seats c.in-Some.seat c.requires c.in-Some.ensures.some).1

pub run_each-ran-requires-after_bounds : goal.run_each-ran-requires-after_bounds
run_each-ran-requires-after_bounds g t c κs within =
    (still_new c.args.service.now.host.mail.now c.args.seats c.take_last.new.seats c.in-Some.seat c.requires c.in-Some.ensures.some).0

pub finish-back-requires-clause-ended : goal.finish-back-requires-clause-ended
finish-back-requires-clause-ended g t c b is =
    comes_at (g.G.Gate.may_refuse c.args.service.now.host.gate.now) c.args.service.now.host.mail.now c.args.service.now.script.now c.in-Some.seat
    c.of-was.result.value b c.of-was.ensures (c.start-started.ensures.ended b is)

pub with-requires : goal.with-requires
with-requires g t c = record {
  inside = subst (λ s. IsActor s (pass_of c.finish-back.result.seat).actor) (sym c.shape.ensures)
      (back_of c.args.service.now.host.mail.now c.of-was.result.value c.finish-back.result.seat c.finish-back.ensures.same).1;
  room = room_left (g.G.Gate.may_refuse c.args.service.now.host.gate.now) c.args.service.now.host.mail.now c.args.service.now.script.now c.args.seats
      c.take_last.new.seats c.run_each-ran.result c.in-Some.seat c.finish-back.result.seat c.in-Some.ensures.some c.take_last.ensures.room
      c.run_each-ran.ensures (subst (λ s. IsBack c.args.service.now.host.mail.now s c.finish-back.result.seat) c.of-was.ensures c.finish-back.ensures.same);
}

pub returns : goal.returns
returns g t c =
    come_on (g.G.Gate.may_refuse c.args.service.now.host.gate.now) c.args.service.now.host.mail.now c.args.service.now.script.now c.args.seats
    c.take_last.new.seats c.run_each-ran.result c.with.result c.in-Some.seat c.finish-back.result.seat c.finish-back.result.end
    c.in-Some.ensures.some c.take_last.ensures.room c.run_each-ran.ensures
    (subst (λ s. IsBack c.args.service.now.host.mail.now s c.finish-back.result.seat) c.of-was.ensures c.finish-back.ensures.same)
    c.finish-back.ensures.ends c.finish-back.ensures.posted c.with.ensures.seats c.with.ensures.room c.with.ensures.ends.0 c.with.ensures.ends.2

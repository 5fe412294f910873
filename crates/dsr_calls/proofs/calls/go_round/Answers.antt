use Rattle.std.proofs.Common.{◌≡◌, suc, None, Some, inl, inr, refl, sym, ap, ◌∙◌, subst, arith}
use Rattle.dsr_calls.specs.Course.{IsCourse, IsVisit, IsRefusedVisit, next_of}
use Rattle.dsr_calls.specs.Visits.{Becomes}
use Rattle.dsr_calls.proofs.Turns.{goes_same, goes_then, still_own, still_due, waits_first, adds_none, adds_then, accepted_same}
use Rattle.dsr_calls.proofs.calls.go_round.Goals as goal

pub loop-left-init : goal.loop-left-init
loop-left-init c =
    let seat = c.args.seat.now in
    let client = c.client-client.ensures in
    let same = c.n-n.ensures.same in
    let allowed = c.n-n.ensures.allowed in
    let few = allowed.few_replicas in
    let some = allowed.some_replica in
    record {
      goes = goes_same seat;
      waits = waits_first seat c.client-client.result c.args.op.now client.same client.conduct;
      added = adds_none c.args.op.now seat seat refl;
      short = omega arith;
      own = c.requires.mail;
      all = same ∙ ap (λ s. s.n) (c.shape.ensures ∙ sym c.requires.mail.1);
      few = omega (arith, same, few);
      inside = omega (arith, same, some);
      course = (0, (refl, refl, refl));
    }

pub visit-requires-clause-due : goal.visit-requires-clause-due
visit-requires-clause-due c =
    let way = c.loop-left.invariant in
    still_due c.args.seat.now c.loop-left.seat c.args.op.now way.goes way.waits c.requires.due

pub returns-in-Ok-Some-clause-log : goal.returns-in-Ok-Some-clause-log
returns-in-Ok-Some-clause-log c =
    goes_then c.visit.new.seat c.loop-left.seat c.args.seat.now c.in-Ok-Some.ensures.log c.loop-left.invariant.goes

pub returns-in-Ok-Some-clause-answered : goal.returns-in-Ok-Some-clause-answered
returns-in-Ok-Some-clause-answered c =
    let way = c.loop-left.invariant in
    subst (Becomes c.args.op.now c.loop-left.seat c.visit.new.seat) c.in-Ok-Some.field-0-is c.in-Ok-Some.ensures.ok c.args.seat.now way.goes way.waits

pub returns-in-Err-clause-log : goal.returns-in-Err-clause-log
returns-in-Err-clause-log c =
    goes_then c.visit.new.seat c.loop-left.seat c.args.seat.now c.in-Err.ensures.log c.loop-left.invariant.goes

pub returns-in-Err-clause-same : goal.returns-in-Err-clause-same
returns-in-Err-clause-same c =
    let way = c.loop-left.invariant in
    let first = c.args.seat.now in
    accepted_same first c.visit.new.seat c.args.op.now (goes_then c.visit.new.seat c.loop-left.seat first c.in-Err.ensures.log way.goes) c.requires.due
    (c.in-Err.ensures.err first way.goes way.waits)

pub loop-left-preserved : goal.loop-left-preserved
loop-left-preserved c =
    let way = c.loop-left.invariant in
    let first = c.args.seat.now in
    let seat = c.loop-left.seat in
    let new = c.visit.new.seat in
    let on = c.in-Ok-None.ensures.log in
    record {
      goes = goes_then new seat first on way.goes;
      waits = subst (Becomes c.args.op.now seat new) c.in-Ok-None.field-0-is c.in-Ok-None.ensures.ok first way.goes way.waits;
      added = adds_then c.args.op.now first seat new way.goes way.waits way.added c.in-Ok-None.ensures.added;
      short = let was = way.short in let more = c.in-Ok-None.ensures.few in omega (arith, was, more);
      own = still_own c.args.mail.now new seat on way.own;
      all = way.all ∙ ap (λ s. s.n) (sym on.shape);
      few = way.few;
      inside = c.next_after-number.ensures.inside;
      course =
          let op = c.args.op.now in
          let all = way.all ∙ ap (λ s. s.n) way.goes.shape in
          let visit = subst (IsVisit op c.of-replica.result seat c.loop-left.left new c.visit.new.left) c.in-Ok-None.field-0-is c.in-Ok-None.ensures.visited in (
            suc way.course.0,
            (
              c.loop-left.number,
              seat,
              c.loop-left.left,
              way.course.1,
              c.loop-left-test.true,
              subst (λ q. IsVisit op q seat c.loop-left.left new c.visit.new.left None) c.of-replica.ensures visit,
              subst (λ n. c.next_after-number.result ≡ next_of n c.loop-left.number) all c.next_after-number.ensures.next,
            ),
          );
    }

pub returns-clause-same : goal.returns-clause-same
returns-clause-same c =
    let way = c.loop-left.invariant in
    accepted_same c.args.seat.now c.loop-left.seat c.args.op.now way.goes c.requires.due way.waits

pub returns-in-Ok-Some-clause-turns : goal.returns-in-Ok-Some-clause-turns
returns-in-Ok-Some-clause-turns c =
    let way = c.loop-left.invariant in
    adds_then c.args.op.now c.args.seat.now c.loop-left.seat c.visit.new.seat way.goes way.waits way.added c.in-Ok-Some.ensures.added

pub returns-in-Ok-Some-clause-few : goal.returns-in-Ok-Some-clause-few
returns-in-Ok-Some-clause-few c = let was = c.loop-left.invariant.short in let more = c.in-Ok-Some.ensures.few in omega (arith, was, more)

pub returns-in-Err-clause-turns : goal.returns-in-Err-clause-turns
returns-in-Err-clause-turns c =
    let way = c.loop-left.invariant in
    adds_then c.args.op.now c.args.seat.now c.loop-left.seat c.visit.new.seat way.goes way.waits way.added c.in-Err.ensures.added

pub returns-in-Err-clause-few : goal.returns-in-Err-clause-few
returns-in-Err-clause-few c = let was = c.loop-left.invariant.short in let more = c.in-Err.ensures.few in omega (arith, was, more)

pub returns-in-Ok-Some-clause-course : goal.returns-in-Ok-Some-clause-course
returns-in-Ok-Some-clause-course c =
    let way = c.loop-left.invariant in
    let seat = c.loop-left.seat in
    let new = c.visit.new.seat in
    let op = c.args.op.now in
    let visit = subst (IsVisit op c.of-replica.result seat c.loop-left.left new c.visit.new.left) c.in-Ok-Some.field-0-is c.in-Ok-Some.ensures.visited in (
      c.loop-left.number,
      seat,
      c.loop-left.left,
      c.visit.new.left,
      record { visits = way.course.0; course = way.course.1; turn = c.loop-left-test.true },
      subst (λ q. IsVisit op q seat c.loop-left.left new c.visit.new.left (Some c.in-Ok-Some.reply)) c.of-replica.ensures visit,
    )

pub returns-in-Err-clause-course : goal.returns-in-Err-clause-course
returns-in-Err-clause-course c =
    let way = c.loop-left.invariant in
    let seat = c.loop-left.seat in
    inr (
      c.loop-left.number,
      seat,
      c.loop-left.left,
      record { visits = way.course.0; course = way.course.1; turn = c.loop-left-test.true },
      subst (λ q. IsRefusedVisit c.args.op.now q seat c.loop-left.left c.visit.new.seat c.in-Err.refusal) c.of-replica.ensures c.in-Err.ensures.stopped,
    )

pub returns-clause-course : goal.returns-clause-course
returns-clause-course c =
    let way = c.loop-left.invariant in
    let test = c.loop-left-test.false in
    inl (
      refl,
      way.course.0,
      c.loop-left.number,
      subst (λ l. IsCourse c.args.op.now c.args.seat.now.shape.n way.course.0 c.args.seat.now c.args.turns c.loop-left.number c.loop-left.seat l)
          (omega (arith, test)) way.course.1,
    )

use Rattle.std.proofs.Common.{rules, arith}
use Rattle.std.proofs.lemmas.Bool.{iff_false}
use Rattle.dsr_world.specs.Support.PlayingFields.{played_of}
use Rattle.dsr_world.specs.declared.playing.Played.{Played}
use Rattle.dsr_world.proofs.Ending.{step_outcome}
use Rattle.dsr_world.proofs.Playings.{took_over, took_one}
use Rattle.dsr_world.proofs.playing.Playing.happen.Goals as goal

-- after too many events nothing happens
pub returns-then-not-has_room-clause-took : goal.returns-then-not-has_room-clause-took
returns-then-not-has_room-clause-took c events t =
    took_over c.args.self.now events t c.args.event.now (omega (arith, iff_false c.has_room.ensures c.if-not-has_room.true))

pub returns-clause-took : goal.returns-clause-took
returns-clause-took c events t =
    let before = played_of c.self.inside in
    let after : Played = record { stage = c.step_in.new.self; end = c.add.new.self } in
    let room = rw (← c.self.view_is) at (c.has_room.ensures.0 c.if-not-has_room.false) in
    let outcome = step_outcome before.stage.shape after.stage.run before.stage.run c.args.event.now c.step_in.result c.err-outcome.result
    (search rules) c.err-outcome.ensures.value in
    took_one before events (rw (← c.self.view_is) at t) after c.args.event.now c.err-outcome.result room c.step_in.ensures.shape outcome
    c.add.ensures.counts c.add.ensures.one

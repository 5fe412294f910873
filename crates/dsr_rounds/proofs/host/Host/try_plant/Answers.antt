use Rattle.std.proofs.Common.{refl, subst}
use Rattle.dsr_rounds.specs.declared.traitor.Planting.TheVariants.{Made, Forged, Full}
use Rattle.dsr_rounds.proofs.Turns.{planted_turn, turns_pass}
use Rattle.dsr_rounds.proofs.host.Host.try_plant.Goals as goal

pub returns-in_err-pass-clause-turns : goal.returns-in_err-pass-clause-turns
returns-in_err-pass-clause-turns g c =
    turns_pass (g.G.Gate.may_pass c.args.self.now.gate.now) c.args.seat.now c.args.seat.now c.args.turn.now.number c.pass.new.turn.number refl
    c.pass.ensures.later

pub returns-in-Ok-clause-turns : goal.returns-in-Ok-clause-turns
returns-in-Ok-clause-turns g c =
    let may = g.G.Gate.may_pass c.args.self.now.gate.now in
    planted_turn may c.args.to.now c.args.draft.now c.args.seat.now c.try_post.new.self c.args.turn.now.number c.pass.new.turn.number Made
    (subst (λ a. may a c.args.turn.now.number) c.actor.ensures.same c.in_ok-pass.ensures.passed) c.in_ok-pass.ensures.next
    (c.in-Ok.ensures.ok, c.in-Ok.ensures.unforged)

pub returns-in-Err-Forged-clause-turns : goal.returns-in-Err-Forged-clause-turns
returns-in-Err-Forged-clause-turns g c =
    turns_pass (g.G.Gate.may_pass c.args.self.now.gate.now) c.args.seat.now c.try_post.new.self c.args.turn.now.number c.pass.new.turn.number
    c.in-Err-Forged.ensures.err c.pass.ensures.later

pub returns-in-Err-BoxFull-clause-turns : goal.returns-in-Err-BoxFull-clause-turns
returns-in-Err-BoxFull-clause-turns g c =
    turns_pass (g.G.Gate.may_pass c.args.self.now.gate.now) c.args.seat.now c.try_post.new.self c.args.turn.now.number c.pass.new.turn.number
    c.in-Err-BoxFull.ensures.err c.pass.ensures.later

pub returns-in-Err-clause-turns : goal.returns-in-Err-clause-turns
returns-in-Err-clause-turns g c =
    turns_pass (g.G.Gate.may_pass c.args.self.now.gate.now) c.args.seat.now c.try_post.new.self c.args.turn.now.number c.pass.new.turn.number
    c.in-Err.ensures.err c.pass.ensures.later

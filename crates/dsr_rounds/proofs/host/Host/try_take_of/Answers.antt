use Rattle.std.proofs.Common.{◌≡◌, refl, subst}
use Rattle.dsr_envelope.specs.declared.entry.Entry.TheVariants.{Take}
use Rattle.dsr_rounds.specs.Ends.{HasTried}
use Rattle.dsr_rounds.proofs.Going.{if_tried, err_tried}
use Rattle.dsr_rounds.proofs.Turns.{tried_turn, turns_pass}
use Rattle.dsr_rounds.proofs.host.Host.try_take_of.Goals as goal

pub returns-in_err-pass-clause-turns : goal.returns-in_err-pass-clause-turns
returns-in_err-pass-clause-turns g c =
    turns_pass (g.G.Gate.may_pass c.args.self.now.gate.now) c.args.seat.now c.args.seat.now c.args.turn.now.number c.pass.new.turn.number refl
    c.pass.ensures.later

pub returns-clause-turns : goal.returns-clause-turns
returns-clause-turns g c =
    let may = g.G.Gate.may_pass c.args.self.now.gate.now in
    let seat = c.args.seat.now in
    tried_turn may (λ x. Take c.args.from.now x) seat c.try_take.new.self c.args.turn.now.number c.pass.new.turn.number c.was_made.result
    (subst (λ a. may a c.args.turn.now.number) c.actor.ensures.same c.in_ok-pass.ensures.passed) c.in_ok-pass.ensures.next
    (if_tried c.try_take.result c.was_made.result (HasTried (λ x. Take c.args.from.now x) seat c.try_take.new.self) c.was_made.ensures
    c.try_take.ensures.ok c.try_take.ensures.err (λ made. (made.0, made.2)) (λ same. same))
    (err_tried c.try_take.result c.was_made.result (c.try_take.new.self ≡ seat) c.was_made.ensures c.try_take.ensures.err)

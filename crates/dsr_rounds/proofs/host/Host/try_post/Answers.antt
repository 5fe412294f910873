use Rattle.std.proofs.Common.{◌≡◌, refl, subst}
use Rattle.dsr_envelope.specs.declared.entry.Entry.TheVariants.{Post}
use Rattle.dsr_names.specs.declared.refusal.Refusal.TheVariants.{BoxFull}
use Rattle.dsr_mail.specs.Refusals.{IsRefusedBy, post_refused}
use Rattle.dsr_rounds.specs.Eagerness.{HasTriedPost}
use Rattle.dsr_rounds.specs.Ends.{HasTried}
use Rattle.dsr_rounds.proofs.Going.{has_posted, if_tried, err_tried, end_tried, replica_post_ends}
use Rattle.dsr_rounds.proofs.Turns.{tried_turn, turns_pass}
use Rattle.dsr_rounds.proofs.host.Host.try_post.Goals as goal

pub returns-clause-tried : goal.returns-clause-tried
returns-clause-tried g c =
    let seat = c.args.seat.now in
    let to = c.args.to.now in
    let pick = c.args.pick.now in
    if_tried c.try_post.result c.was_made.result (HasTriedPost seat c.try_post.new.self to pick) c.was_made.ensures
    (has_posted c.try_post.result seat c.try_post.new.self to pick c.try_post.ensures.ok c.try_post.ensures.refused) c.try_post.ensures.err
    (λ made. made) (λ same. same)

pub returns-clause-unchanged : goal.returns-clause-unchanged
returns-clause-unchanged g c = err_tried c.try_post.result c.was_made.result (c.try_post.new.self ≡ c.args.seat.now) c.was_made.ensures c.try_post.ensures.err

pub returns-clause-end : goal.returns-clause-end
returns-clause-end g c =
    let may = g.G.Gate.may_refuse c.args.self.now.gate.now in
    let seat = c.args.seat.now in
    let to = c.args.to.now in
    let pick = c.args.pick.now in
    end_tried c.try_post.result c.was_made.result may c.args.self.now.stop.now c.try_post.new.self
    (IsRefusedBy (post_refused seat.shape seat.actor seat.log to pick) BoxFull) c.was_made.ensures c.try_post.ensures.err c.try_post.ensures.last
    (λ e same refused full empty. replica_post_ends may seat c.try_post.new.self to pick e c.replica-replica.result same c.replica-replica.ensures.same
    c.replica-replica.ensures.loyal c.requires.inside c.requires.given refused full)

pub returns-in_err-pass-clause-turns : goal.returns-in_err-pass-clause-turns
returns-in_err-pass-clause-turns g c =
    turns_pass (g.G.Gate.may_pass c.args.self.now.gate.now) c.args.seat.now c.args.seat.now c.args.turn.now.number c.pass.new.turn.number refl
    c.pass.ensures.later

pub returns-clause-turns : goal.returns-clause-turns
returns-clause-turns g c =
    let may = g.G.Gate.may_pass c.args.self.now.gate.now in
    let seat = c.args.seat.now in
    tried_turn may (λ x. Post c.args.to.now x) seat c.try_post.new.self c.args.turn.now.number c.pass.new.turn.number c.was_made.result
    (subst (λ a. may a c.args.turn.now.number) c.actor.ensures.same c.in_ok-pass.ensures.passed) c.in_ok-pass.ensures.next
    (if_tried c.try_post.result c.was_made.result (HasTried (λ x. Post c.args.to.now x) seat c.try_post.new.self) c.was_made.ensures
    c.try_post.ensures.ok c.try_post.ensures.err (λ made. (made.0, made.2)) (λ same. same))
    (err_tried c.try_post.result c.was_made.result (c.try_post.new.self ≡ seat) c.was_made.ensures c.try_post.ensures.err)

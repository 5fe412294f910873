use Rattle.std.proofs.Common.{◌≡◌, Some, sym, ◌∙◌}
use Rattle.dsr_base.specs.Boxes.{box_at}
use Rattle.dsr_names.specs.Places.{place_of}
use Rattle.dsr_node.specs.Node.{Plays}
use Rattle.dsr_run.specs.Step.{log_of}
use Rattle.dsr_world.proofs.Repeating.{letters_taken}
use Rattle.dsr_world.proofs.WorldTakes.{IsTaken, cleared_take, may_take, parts_with_room, parts_after_take, done_take}
use Rattle.dsr_world.proofs.StageLemmas.{plays_at, one_more}
use Rattle.dsr_world.proofs.stage.Stage.take.Goals.{After-envelope}
use Rattle.dsr_world.proofs.stage.Stage.take.Goals as goal

-- nothing refuses the take, the actor's node plays it, and the box holds the envelope
ready : (c : After-envelope) → let a = c.self.inside in let at = c.args.at.now in let from = c.args.from.now in
    IsTaken a.shape (log_of a.steps) at from × Plays a.shape at (log_of a.steps at) c.index_mut.result.now
    × ((box_at a.boxes (place_of a.shape from) (place_of a.shape at)).item ≡ Some c.envelope.result.now)
ready c =
    let a = c.self.inside in
    let is = cleared_take a.shape (log_of a.steps) c.args.at.now c.args.from.now (rw (← c.self.view_is) at (sym c.take_refusal.ensures ∙ c.in_default.is)) in (
      is,
      plays_at a c.self.invariant c.args.at.now is.actor c.place-taker.ensures c.index_mut.ensures.value,
      cc (c.place-poster.ensures, c.place-taker.ensures, c.lent-held.ensures, c.envelope.ensures),
    )

pub take-requires : goal.take-requires
take-requires c =
    let r = ready (goal.at.take-requires c).After-envelope in
    may_take _ _ _ _ _ _ c.self.invariant.0 _ _ _ _ r.0 r.2 r.1

pub invariant_of-self : goal.invariant_of-self
invariant_of-self c =
    let r = ready (goal.at.invariant_of-self c).After-envelope in
    let plays = c.in_default-take.ensures.stays _ _ _ r.1 in
    rw c.place-taker.ensures (parts_with_room _ _ _ _ _ _ c.self.invariant.0 c.args.at.now _ r.0.actor plays, c.self.invariant.1)

pub invariant_of-self-2 : goal.invariant_of-self-2
invariant_of-self-2 c =
    let r = ready (goal.at.invariant_of-self-2 c).After-envelope in
    let taken : c.take-letter.result ≡ c.envelope.result.now = cc (c.lent-held.ensures, c.envelope.ensures, c.take-letter.ensures.item) in
    rw (c.add_take.ensures, taken, c.take-letter.ensures.rest, c.place-poster.ensures, c.place-taker.ensures) (
      parts_after_take _ _ _ _ _ _ c.self.invariant.0 _ _ _ _ c.n-n.ensures.allowed r.0 r.2 (c.in-Ok.ensures.plays _ _ _ r.1),
      letters_taken _ _ _ c.self.invariant.1 c.args.at.now c.args.from.now c.envelope.result.now,
    )

pub returns-clause-done : goal.returns-clause-done
returns-clause-done c =
    let r = ready (goal.at.returns-clause-done c).After-envelope in
    let taken : c.take-letter.result ≡ c.envelope.result.now = cc (c.lent-held.ensures, c.envelope.ensures, c.take-letter.ensures.item) in
    rw (← c.self.view_is, c.add_take.ensures, taken)
    (done_take _ _ _ _ _ _ c.self.invariant.0 _ _ _ _ r.0.actor r.0.other r.2 (c.in-Ok.ensures.accepted _ _ _ r.1))

pub returns-clause-added : goal.returns-clause-added
returns-clause-added c =
    one_more c.self.view_is c.add_take.ensures c.keep_take.ensures.kept c.make_room_for.ensures.kept c.make_room_for.ensures.same
    (λ room was. c.keep_take.ensures.added c.take-letter.result room (c.in_ok-copy.ensures.copy was ∙ (sym c.lent-held.ensures ∙ c.take-letter.ensures.item)))

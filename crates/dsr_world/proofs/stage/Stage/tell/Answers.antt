use Rattle.std.proofs.Common.{ap, ap₂, sym, ◌∙◌}
use Rattle.dsr_envelope.specs.declared.envelope.Envelope.TheVariants.{Seen}
use Rattle.dsr_names.specs.declared.actor.Actor.TheVariants.{Client}
use Rattle.dsr_node.specs.Node.{Plays}
use Rattle.dsr_node.proofs.Lemmas.{client_plays}
use Rattle.dsr_run.specs.Step.{log_of}
use Rattle.dsr_world.specs.Support.StageFields.{is_posted_again}
use Rattle.dsr_world.proofs.WorldPosts.{IsTold, cleared_tell, done_tell}
use Rattle.dsr_world.proofs.StageLemmas.{plays_at, told, one_more}
use Rattle.dsr_world.proofs.stage.Stage.tell.Goals.{After-index}
use Rattle.dsr_world.proofs.stage.Stage.tell.Goals as goal

-- nothing refuses the post, and the client's node plays it
ready : (c : After-index) → let a = c.self.inside in (is : IsTold a.shape (log_of a.steps) c.args.from.now c.args.to.now)
    × Plays a.shape (Client is.c) (log_of a.steps (Client is.c)) c.index.result.now
ready c =
    let a = c.self.inside in
    let is = cleared_tell a.shape (log_of a.steps) c.args.from.now c.args.to.now (rw (← c.self.view_is) at (sym c.tell_refusal.ensures ∙ c.in_default.is)) in
    (is, rw is.from_is at (plays_at a c.self.invariant c.args.from.now is.actor c.place-poster.ensures c.index.ensures))

pub seen-requires : goal.seen-requires
seen-requires c = client_plays _ _ _ _ (ready (goal.at.seen-requires c).After-index).1

pub invariant_of-self-2 : goal.invariant_of-self-2
invariant_of-self-2 c =
    let r = ready (goal.at.invariant_of-self-2 c).After-index in
    let front = c.in_ok-letter.ensures.made ∙ ap Seen (c.seen.ensures _ _ _ r.1) in
    rw (c.add_post.ensures, c.put.ensures, c.place-poster.ensures, c.place-taker.ensures)
    (told c.self.inside c.self.invariant _ _ _ _ r.0 c.n-n.ensures.allowed front
    (λ holder h s. rw c.envelope.ensures at
    (c.in_ok-learn.ensures.learned (ap₂ is_posted_again r.0.from_is r.0.to_is) holder (rw c.as_slice.ensures.value h) s)))

pub returns-clause-done : goal.returns-clause-done
returns-clause-done c =
    let r = ready (goal.at.returns-clause-done c).After-index in
    let front = c.in_ok-letter.ensures.made ∙ ap Seen (c.seen.ensures _ _ _ r.1) in
    rw (← c.self.view_is, c.add_post.ensures, r.0.from_is, front) (done_tell _ _ _ _)

pub returns-clause-added : goal.returns-clause-added
returns-clause-added c =
    one_more c.self.view_is c.add_post.ensures c.keep_post.ensures.kept c.make_room_for.ensures.kept c.make_room_for.ensures.same
    (λ room was. c.keep_post.ensures.added c.in_ok-letter.letter room (c.in_ok-copy.ensures.copy was))

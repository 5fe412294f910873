use Rattle.std.proofs.Common.{inl, inr, sym, ◌∙◌}
use Rattle.std.proofs.lemmas.Bool.{cases_Bool}
use Rattle.dsr_node.specs.Node.{Plays}
use Rattle.dsr_run.specs.Step.{log_of}
use Rattle.dsr_world.specs.Support.StageFields.{is_posted_again}
use Rattle.dsr_world.proofs.Worlds.{IsCleared, can_post, cleared, conduct_cleared, known_again, row_long, posts_few, parts_after_post, done_post}
use Rattle.dsr_world.proofs.Repeating.{letters_posted}
use Rattle.dsr_world.proofs.StageLemmas.{plays_at, one_more}
use Rattle.dsr_world.proofs.stage.Stage.post.Goals.{After-index_mut}
use Rattle.dsr_world.proofs.stage.Stage.post.Goals as goal

-- nothing refuses the post, and the actor's node plays it
ready : (c : After-index_mut) → let a = c.self.inside in let from = c.args.from.now in
    IsCleared a.shape (log_of a.steps) from c.args.to.now c.args.pick.now × Plays a.shape from (log_of a.steps from) c.index_mut.result.now
ready c =
    let a = c.self.inside in
    let is = cleared a.shape (log_of a.steps) c.args.from.now c.args.to.now c.args.pick.now
    (rw (← c.self.view_is) at (sym c.post_refusal.ensures ∙ c.in_default.is)) in
    (is, plays_at a c.self.invariant c.args.from.now is.actor c.place-poster.ensures c.index_mut.ensures.value)

pub posted-requires : goal.posted-requires
posted-requires c =
    let r = ready (goal.at.posted-requires c).After-index_mut in
    can_post _ _ _ _ _ _ r.0 r.1

pub put-requires-clause-row : goal.put-requires-clause-row
put-requires-clause-row c =
    let is = (ready (goal.at.put-requires-clause-row c).After-index_mut).0 in
    rw (c.place-poster.ensures, c.place-taker.ensures) (row_long _ _ _ _ _ _ c.self.invariant.0 c.args.from.now c.args.to.now is.actor is.other)

pub put-requires-clause-few : goal.put-requires-clause-few
put-requires-clause-few c =
    let is = (ready (goal.at.put-requires-clause-few c).After-index_mut).0 in
    rw (c.place-poster.ensures, c.place-taker.ensures) (posts_few _ _ _ _ _ _ c.self.invariant.0 c.args.from.now c.args.to.now is.actor is.other is.used)

pub invariant_of-self-2 : goal.invariant_of-self-2
invariant_of-self-2 c =
    let from = c.args.from.now in
    let to = c.args.to.now in
    let x = c.in-Ok.letter in
    let r = ready (goal.at.invariant_of-self-2 c).After-index_mut in
    let given = rw (← c.self.view_is) at c.in-Ok.ensures.given in
    let plays = c.posted.ensures.plays _ _ _ _ r.1 (conduct_cleared _ _ _ _ _ r.0) given in
    rw (c.add_post.ensures, c.put.ensures, c.keep_letter.ensures, c.place-poster.ensures, c.place-taker.ensures, c.in_ok-again.ensures.kept) (
      parts_after_post _ _ _ _ _ _ c.self.invariant.0 from to _ x _ _ c.n-n.ensures.allowed c.look_at.ensures.pick c.look_at.ensures.spelled r.0 given plays
          (λ holder h s. elim (cases_Bool (is_posted_again from to)) [
            | inl again ↦ rw (c.in_ok-learn.ensures.again again) (
              λ now. inl now,
              λ was. elim was [
                | inl old ↦ old
                | inr carries ↦ known_again _ _ _ _ _ _ c.self.invariant.0 from to _ x again r.0.actor r.0.honest given holder h s carries
              ],
            )
            | inr new ↦ rw c.envelope.ensures at (c.in_ok-learn.ensures.learned new holder (rw c.as_slice.ensures.value h) s)
          ]),
      letters_posted _ _ _ c.self.invariant.1 from to x r.0.actor,
    )

pub returns-clause-done : goal.returns-clause-done
returns-clause-done c =
    rw (← c.self.view_is, c.add_post.ensures) (done_post _ _ _ _ _ _ (rw (← c.self.view_is) at c.in-Ok.ensures.given))

pub returns-clause-added : goal.returns-clause-added
returns-clause-added c =
    one_more c.self.view_is c.add_post.ensures c.keep_post.ensures.kept c.make_room_for.ensures.kept c.make_room_for.ensures.same
    (λ room was. c.keep_post.ensures.added c.in-Ok.letter room (c.in_ok-copy.ensures.copy was))

use Rattle.dsr_run.specs.Step.{log_of}
use Rattle.dsr_world.proofs.WorldPosts.{cleared_plant}
use Rattle.dsr_world.proofs.StageLemmas.{planted, one_more}
use Rattle.dsr_world.proofs.stage.Stage.plant.Goals as goal

pub invariant_of-self : goal.invariant_of-self
invariant_of-self c =
    let a = c.self.inside in
    let from = c.args.from.now in
    let to = c.args.to.now in
    let x = c.args.draft.now in
    let is = cleared_plant a.shape (log_of a.steps) from to x (rw (← c.self.view_is) at c.in-Ok.ensures.none) in
    rw (c.add_post.ensures, c.put.ensures, c.place-poster.ensures, c.place-taker.ensures, c.in_ok-letter.ensures.made, c.in-Ok.ensures.same)
    (planted a c.self.invariant from to x is c.n-n.ensures.allowed c.in-Ok.ensures.within (rw (← c.self.view_is) at c.in-Ok.ensures.made))

pub returns-clause-added : goal.returns-clause-added
returns-clause-added c =
    one_more c.self.view_is c.add_post.ensures c.keep_post.ensures.kept c.make_room_for.ensures.kept c.make_room_for.ensures.same
    (λ room was. c.keep_post.ensures.added c.in_ok-letter.letter room (c.in_ok-copy.ensures.copy was))

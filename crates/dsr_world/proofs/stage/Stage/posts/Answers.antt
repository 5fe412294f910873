use Rattle.dsr_world.proofs.stage.Stage.posts.Goals as goal

pub returns : goal.returns
returns c =
    let is = c.self.invariant.0.boxes.each c.args.from.now c.args.to.now (rw (← c.self.view_is) at c.requires.from) (rw (← c.self.view_is) at c.requires.to) in
    rw (← c.self.view_is, c.posts.ensures, c.place-poster.ensures, c.place-taker.ensures) is.count

use Rattle.std.proofs.Common.{ap, sym, ◌∙◌, Some}
use Rattle.std.proofs.lemmas.Result.{IfOk-weaker}
use Rattle.dsr_node.specs.Node.{Plays}
use Rattle.dsr_run.specs.Step.{log_of}
use Rattle.dsr_world.proofs.StageLemmas.{node_at}
use Rattle.dsr_world.proofs.Worlds.{IsCleared, can_post, cleared, conduct_cleared}
use Rattle.dsr_world.proofs.stage.Stage.letter_for.Goals.{After-index}
use Rattle.dsr_world.proofs.stage.Stage.letter_for.Goals as goal

-- nothing refuses the post, and the actor's node plays it
ready : (c : After-index) → let w = c.args.self.now in let from = c.args.from.now in
    IsCleared w.shape (log_of w.run) from c.args.to.now c.args.pick.now × Plays w.shape from (log_of w.run from) c.index.result.now
ready c =
    let w = c.args.self.now in
    let is = cleared w.shape (log_of w.run) c.args.from.now c.args.to.now c.args.pick.now c.requires in
    (is, node_at c.self.inside c.self.view_is c.self.invariant c.args.from.now is.actor c.place-poster.ensures c.index.ensures)

pub envelope_for-requires : goal.envelope_for-requires
envelope_for-requires c =
    let r = ready (goal.at.envelope_for-requires c).After-index in
    can_post _ _ _ _ _ _ r.0 r.1

pub returns-clause-given : goal.returns-clause-given
returns-clause-given c =
    let r = ready (goal.at.returns-clause-given c).After-index in
    let given = c.in-Ok.ensures.given _ _ _ r.1 (conduct_cleared _ _ _ _ _ r.0) in
    IfOk-weaker c.letter_of.result _ _ (λ letter e. given ∙ ap Some (sym e)) c.letter_of.ensures.same

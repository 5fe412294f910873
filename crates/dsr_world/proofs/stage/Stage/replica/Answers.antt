use Rattle.std.proofs.Common.{◌<◌, refl, sym, ◌∙◌, arith, rules}
use Rattle.std.proofs.lemmas.Bool.{true≢false, false≢true}
use Rattle.dsr_names.specs.declared.actor.Actor.TheVariants.{Replica}
use Rattle.dsr_node.specs.Node.{Plays}
use Rattle.dsr_run.specs.Step.{log_of}
use Rattle.dsr_world.proofs.StageLemmas.{node_at}
use Rattle.dsr_world.proofs.stage.Stage.replica.Goals.{After-index}
use Rattle.dsr_world.proofs.stage.Stage.replica.Goals as goal

-- it is a replica of the shape, and the node at its place plays it
found : (c : After-index) → let w = c.args.self.now in let p = c.args.replica in
    p < w.shape.n × Plays w.shape (Replica p) (log_of w.run (Replica p)) c.index.result.now
found c =
    let inside : c.args.replica < c.args.self.now.shape.n =
    rw (← c.self.view_is) (omega (arith, c.if-number-n.false, c.number.ensures.same, c.n.ensures.same)) in
    (inside, node_at c.self.inside c.self.view_is c.self.invariant (Replica c.args.replica) inside c.number-2.ensures.same c.index.ensures)

pub returns-in-Some : goal.returns-in-Some
returns-in-Some c =
    let f = found (goal.at.returns-in-Some c).After-index in
    let plays = c.in-Some.ensures.loyal _ _ _ f.1 in
    record { plays = plays; when = (λ e. (f.0, plays.honest), λ loyal. refl); outside = search rules; refusal = search rules }

pub returns-in-None-clause-when : goal.returns-in-None-clause-when
returns-in-None-clause-when c =
    let traitor = c.in-None.ensures.traitor _ _ _ (found (goal.at.returns-in-None-clause-when c).After-index).1 in
    (λ e. absurd (false≢true e), λ loyal. absurd (true≢false (sym traitor ∙ loyal.1)))

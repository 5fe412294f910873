use Rattle.std.proofs.Common.{sym, ◌∙◌}
use Rattle.dsr_names.specs.declared.actor.Actor.TheVariants.{Client}
use Rattle.dsr_world.proofs.Repeating.{asked_again}
use Rattle.dsr_world.proofs.StageLemmas.{IsNodeOf, client_at, fields_of, stored_at}
use Rattle.dsr_world.proofs.stage.Stage.asked_before.Goals.{After-index-2}
use Rattle.dsr_world.proofs.stage.Stage.asked_before.Goals as goal

found : (c : After-index-2) → IsNodeOf c.args.self.now c.args.client c.index-2.result.now
found c = client_at c.self.inside c.self.view_is c.self.invariant _ c.requires c.place-place.ensures c.index-2.ensures

pub has_outstanding-requires : goal.has_outstanding-requires
has_outstanding-requires c = (found (goal.at.has_outstanding-requires c).After-index-2).0

pub returns-then-has_outstanding : goal.returns-then-has_outstanding
returns-then-has_outstanding c =
    let fields = fields_of c.self.inside c.self.view_is c.self.invariant in
    let stored = stored_at c.self.inside c.self.view_is c.self.invariant (Client c.args.client) c.requires c.place-place.ensures c.index.ensures in
    let asks = (c.has_outstanding.ensures _ _ _ (found (goal.at.returns-then-has_outstanding c).After-index-2).1).0 c.if-has_outstanding.true in
    asked_again _ _ _ fields.1 fields.0.is_run _ c.requires _ (stored ∙ sym c.in_ok-letter.ensures.value) (rw c.envelope.ensures at asks)

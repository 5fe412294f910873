use Rattle.std.proofs.Common.{◌≡◌, ◌↔◌, Err, inl, inr, ap, sym, ◌∙◌}
use Rattle.dsr_names.specs.declared.actor.Actor.TheVariants.{Replica}
use Rattle.dsr_envelope.specs.declared.entry.Entry.TheVariants.{Post as PostEntry}
use Rattle.dsr_script.specs.Held.{IsUnforged}
use Rattle.dsr_run.specs.Run.{IsTraitor, ForgesNothing}
use Rattle.dsr_run.specs.Step.{log_of}
use Rattle.dsr_world.proofs.StageLemmas.{fields_of}
use Rattle.dsr_world.proofs.WorldPosts.{cleared_plant, unforged_made, made_unforged}
use Rattle.dsr_world.proofs.stage.Stage.unforged.Goals.{After-as_slice}
use Rattle.dsr_world.proofs.stage.Stage.unforged.Goals as goal

-- the signatures of the draft are held or known exactly if it forges nothing
forges_nothing : (c : After-as_slice) → let w = c.args.self.now in
    IsUnforged c.as_slice.result.now c.self.inside.known.signatures c.args.draft.now ↔ ForgesNothing w.shape (log_of w.run) (PostEntry c.args.to.now c.args.draft.now)
forges_nothing c =
    let w = c.args.self.now in
    let x = c.args.draft.now in
    let is = cleared_plant w.shape (log_of w.run) c.args.from.now c.args.to.now x (sym c.plant_refusal.ensures ∙ c.in_default.is) in
    let traitor : IsTraitor w.shape (Replica is.p) = (rw is.from_is at is.actor, is.traitor) in
    let parts = (fields_of c.self.inside c.self.view_is c.self.invariant).0 in
    rw c.as_slice.ensures.value (
      unforged_made _ _ _ _ _ _ parts is.p traitor x,
      made_unforged _ _ _ _ _ _ parts is.p traitor x,
    )

pub returns-in-Ok-clause-made : goal.returns-in-Ok-clause-made
returns-in-Ok-clause-made c = (forges_nothing (goal.at.returns-in-Ok-clause-made c).After-as_slice).0 (rw c.in-Ok.ensures.same at c.in-Ok.ensures.unforged)

pub returns-in-Ok-clause-forged : goal.returns-in-Ok-clause-forged
returns-in-Ok-clause-forged c forged = absurd (forged.1 (returns-in-Ok-clause-made c))

pub returns-in-Err-clause-last : goal.returns-in-Err-clause-last
returns-in-Err-clause-last c refusal e =
    let built = c.in-Err.ensures in
    let none = sym c.plant_refusal.ensures ∙ c.in_default.is in
    let made = forges_nothing (goal.at.returns-in-Err-clause-last c).After-as_slice in
    let same : refusal ≡ c.in-Err.refusal = cc in
    elim built.refusal [
      | inl forged ↦ inr (inl (same ∙ forged, (none, λ forges. built.forged.0 (ap Err forged) (made.1 forges))))
      | inr memory ↦ inr (inr (same ∙ memory, (none, λ forged. let bad = built.forged.1 (λ unforged. forged (made.0 unforged)) in absurd cc)))
    ]

pub returns-in-Err-clause-forged : goal.returns-in-Err-clause-forged
returns-in-Err-clause-forged c forged =
    let made = forges_nothing (goal.at.returns-in-Err-clause-forged c).After-as_slice in
    c.in-Err.ensures.forged.1 (λ unforged. forged.1 (made.0 unforged))

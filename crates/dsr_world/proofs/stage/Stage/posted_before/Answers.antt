use Rattle.std.proofs.Common.{◌≡◌, ◌<◌, ◌∙◌, Bor, Option, None, Some, IfSome, option_copied, sym, arith}
use Rattle.dsr_names.specs.declared.actor.Actor.TheVariants.{Replica}
use Rattle.dsr_envelope.specs.declared.pick.Pick.TheVariants.{Plain}
use Rattle.dsr_run.specs.Step.{log_of}
use Rattle.dsr_world.proofs.Repeating.{again_posted}
use Rattle.dsr_world.proofs.StageLemmas.{fields_of, stored_at}
use Rattle.dsr_world.proofs.Worlds.{IsCleared, cleared}
use Rattle.dsr_world.proofs.stage.Stage.posted_before.Goals as goal

if_held : {A : Type 0} (P : A → Type 0) (o : Option (Bor A)) (held : Option A) → option_copied o ≡ held → ((x : A) → held ≡ Some x → P x)
    → IfSome o (λ r. P r.now)
if_held P None held e all = tt
if_held P (Some r) held e all = all r.now (sym e)

pub returns-in-Replica-Replica-Plain : goal.returns-in-Replica-Replica-Plain
returns-in-Replica-Replica-Plain c =
    let w = c.args.self.now in
    let i = c.in-Replica-Replica-Plain in
    let is : IsCleared w.shape (log_of w.run) (Replica i.poster) (Replica i.taker) Plain =
    rw (i.is-0, i.is-1, i.is-2) at (cleared w.shape (log_of w.run) c.args.from.now c.args.to.now c.args.pick.now c.requires) in
    let later : 0 < i.taker = omega (arith, c.number.ensures.same, c.if-number-gt0.true) in
    let fields = fields_of c.self.inside c.self.view_is c.self.invariant in
    let stored = stored_at c.self.inside c.self.view_is c.self.invariant (Replica i.poster) is.actor c.number-in-Replica-Replica-Plain.ensures.same c.index.ensures in
    rw (i.is-0, i.is-1, i.is-2) (if_held _ _ _ (c.as_ref.ensures.value ∙ sym stored) (again_posted _ _ _ fields.1 fields.0.is_run _ _ later is))

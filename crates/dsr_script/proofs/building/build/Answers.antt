use Rattle.std.proofs.Common.{◌≡◌, ◌↔◌, Err, subst}
use Rattle.dsr_names.specs.declared.refusal.Refusal.TheVariants.{Forged}
use Rattle.dsr_script.specs.Held.{IsUnforged}
use Rattle.dsr_script.proofs.building.build.Goals as goal

pub returns-in-Some-clause-forged : goal.returns-in-Some-clause-forged
returns-in-Some-clause-forged c =
    subst (λ envelope. (c.build_plan.result ≡ Err Forged) ↔ (¬ IsUnforged c.args.keys.now c.args.known.now.signatures envelope)) c.in-Some.ensures.same
    c.build_plan.ensures.forged

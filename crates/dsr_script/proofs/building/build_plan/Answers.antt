use Rattle.std.proofs.Common.{◌≡◌, true, false, refl, sym, subst}
use Rattle.std.specs.Prelude.{IsOkUnless}
use Rattle.std.proofs.lemmas.Result.{IfOk-weaker}
use Rattle.dsr_names.specs.declared.refusal.Refusal.TheVariants.{Forged, NoMemory}
use Rattle.dsr_script.specs.Held.{IsUnforged}
use Rattle.dsr_script.specs.Support.Described.{described}
use Rattle.dsr_script.specs.Support.Carried.{IsHeldEnvelope}
use Rattle.dsr_script.proofs.HeldLemmas.{held_is}
use Rattle.dsr_script.proofs.building.build_plan.Goals as goal

pub returns-then-is_unforged-clause-unforged : goal.returns-then-is_unforged-clause-unforged
returns-then-is_unforged-clause-unforged c =
    let keys = c.args.keys.now in
    let known = c.args.known.now.signatures in
    let held = c.is_unforged.ensures.0 c.if-is_unforged.true in
    IfOk-weaker c.envelope_of.result (λ envelope. envelope ≡ described c.args.plan.now) (IsUnforged keys known)
    (λ envelope same. (held_is keys known envelope).0 (subst (IsHeldEnvelope keys known) (sym same) held))
    c.envelope_of.ensures.same

pub returns-then-is_unforged-clause-forged : goal.returns-then-is_unforged-clause-forged
returns-then-is_unforged-clause-forged c =
    let keys = c.args.keys.now in
    let known = c.args.known.now.signatures in
    let held = c.is_unforged.ensures.0 c.if-is_unforged.true in (
      λ e unforged. let no : Forged ≡ NoMemory = subst (λ r. IsOkUnless r NoMemory) e c.envelope_of.ensures.refusal in absurd cc,
      λ not. absurd (not ((held_is keys known (described c.args.plan.now)).0 held)),
    )

pub returns-else-is_unforged-clause-forged : goal.returns-else-is_unforged-clause-forged
returns-else-is_unforged-clause-forged c =
    let keys = c.args.keys.now in
    let known = c.args.known.now.signatures in (
      λ e unforged.
          let yes : c.is_unforged.result ≡ true =
          c.is_unforged.ensures.1 ((held_is keys known (described c.args.plan.now)).1 unforged) in
          let no : c.is_unforged.result ≡ false = c.if-is_unforged.false in
          absurd cc,
      λ not. refl,
    )

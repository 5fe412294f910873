use Rattle.std.proofs.Common.{◌≡◌, ◌<◌, ◌∙◌, Some, None, length, sym, subst, arith}
use Rattle.std.specs.Prelude.{IfSome, slice_index_or}
use Rattle.std.proofs.lemmas.List.{get_or_default}
use Rattle.std.proofs.lemmas.Bool.{true≢false}
use Rattle.dsr_names.specs.Places.{place_of}
use Rattle.dsr_names.specs.Shape.{IsLoyal}
use Rattle.dsr_names.proofs.PlaceLemmas.{place_below}
use Rattle.dsr_envelope.specs.declared.entry.Entry.TheVariants.{Post}
use Rattle.dsr_script.specs.Held.{IsUnforged}
use Rattle.dsr_run.specs.Run.{IsNextStep}
use Rattle.dsr_run.specs.Step.{log_of}
use Rattle.dsr_check.specs.Support.Audit.{ForgesNone}
use Rattle.dsr_check.specs.declared.held.Held.{Held}
use Rattle.dsr_check.proofs.Auditing.{on_none, on_some, next_notarized, next_unforged, traitor_forges_none, traitor_where_not_loyal}
use Rattle.dsr_check.proofs.audit.Audit.unforged.Goals as goal

pub returns-then-is_loyal-clause-forged : goal.returns-then-is_loyal-clause-forged
returns-then-is_loyal-clause-forged c run to are =
    let a = c.args.self.now in
    let x = c.args.draft.now in
    on_none c.in_ok-made.made (¬ IsUnforged c.as_slice.result.now c.new.result.signatures x)
    (¬ IsNextStep a.shape (log_of run) (c.args.from.now, Post to x))
    (λ bad next. bad (subst (λ ks. IsUnforged ks c.new.result.signatures x) (sym c.as_slice.ensures.value)
    (next_notarized a.shape run a.parties.items a.boxes a.notary.items a.keys.items a.known.signatures a.firsts.items are c.args.from.now to x c.new.result.signatures next)))
    c.in_ok-made.ensures.forged

pub returns-clause-unforged : goal.returns-clause-unforged
returns-clause-unforged c run are =
    let a = c.args.self.now in
    let x = c.args.draft.now in
    on_some c.in_ok-made-2.made (IsUnforged c.as_slice-2.result.now a.known.signatures x) (ForgesNone a.shape (log_of run) c.args.from.now x)
    (λ unforged. traitor_forges_none a.shape run a.parties.items a.boxes a.notary.items a.keys.items a.known.signatures a.firsts.items are c.args.from.now x
    (subst (λ ks. IsUnforged ks a.known.signatures x) c.as_slice-2.ensures.value unforged)) c.in_ok-made-2.ensures.unforged

pub returns-clause-forged : goal.returns-clause-forged
returns-clause-forged c run to are =
    let a = c.args.self.now in
    let x = c.args.draft.now in
    let bad : ¬ IsLoyal a.shape c.args.from.now = λ loyal. true≢false (sym (c.is_loyal.ensures.1 loyal) ∙ c.if-is_loyal.false) in
    let traitor = traitor_where_not_loyal a.shape c.args.from.now c.requires.from bad in
    on_none c.in_ok-made-2.made (¬ IsUnforged c.as_slice-2.result.now a.known.signatures x) (¬ IsNextStep a.shape (log_of run) (c.args.from.now, Post to x))
    (λ forged next. forged (subst (λ ks. IsUnforged ks a.known.signatures x) (sym c.as_slice-2.ensures.value)
    (next_unforged a.shape run a.parties.items a.boxes a.notary.items a.keys.items a.known.signatures a.firsts.items are c.args.from.now to x traitor next)))
    c.in_ok-made-2.ensures.forged

pub returns-in-Some-clause-same : goal.returns-in-Some-clause-same
returns-in-Some-clause-same c =
    let a = c.args.self.now in
    let from = c.args.from.now in
    let x = c.args.draft.now in
    let are = c.requires.stands.1 in
    let found = subst (λ o. IfSome o (λ envelope. (first : Held) × (c.index.result.now ≡ Some first) × (first.draft.now ≡ x) × (envelope ≡ first.envelope))) c.in-Some.is
    c.in_ok-envelope.ensures.copy in
    let first = found.0 in
    let long : place_of a.shape from < length a.firsts.items = let count = are.kept.count in let below = place_below a.shape from c.requires.from in omega (arith, count, below) in
    let kept : slice_index_or a.firsts.items (place_of a.shape from) None ≡ Some first =
    sym (get_or_default a.firsts.items (place_of a.shape from) c.index.result.now None long)
    ∙ (sym (subst (λ k. c.index.result.now ≡ slice_index_or a.firsts.items k c.index.result.now) c.place.ensures c.index.ensures) ∙ found.1) in
    found.3 ∙ (sym (are.kept.last from c.requires.from first kept).0 ∙ found.2)

use Rattle.std.proofs.Common.{◌≡◌, ◌-◌, ◌∙◌, Some, arith, length, subst}
use Rattle.std.specs.Prelude.{slice_get}
use Rattle.std.proofs.lemmas.Option.{get_or_from_slice_get}
use Rattle.dsr_transcripts.proofs.StepLemmas.{step_placed}
use Rattle.dsr_transcripts.proofs.account.step_at.Goals as goal

pub returns : goal.returns
returns c before later step parts counted =
    let items = c.entries.result.now in
    let found = c.index-entries-line.result in
    let placed = step_placed items c.args.recorded.now.run before later step c.entries.ensures parts in
    let place : length before ≡ c.args.line - 2 = omega (arith, counted) in
    c.index-entries-line.is ∙ get_or_from_slice_get items (c.args.line - 2) step found (subst (λ n. slice_get items n ≡ Some step) place placed)

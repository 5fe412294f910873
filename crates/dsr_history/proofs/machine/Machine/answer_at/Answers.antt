use Rattle.std.proofs.Common.{Some, sym, ◌∙◌, ap, arith}
use Rattle.std.proofs.lemmas.Option.{slice_get-get_or, slice_get_past}
use Rattle.dsr_history.specs.History.{answer_at}
use Rattle.dsr_history.proofs.MachineLemmas.{answer_kept_at}
use Rattle.dsr_history.proofs.machine.Machine.answer_at.Goals as goal

pub returns-then-place-len : goal.returns-then-place-len
returns-then-place-len c =
    ap Some c.index.ensures
    ∙ (sym (slice_get-get_or c.self.inside.answers.items c.args.place c.index.result.now (omega arith))
    ∙ (answer_kept_at c.self.inside.answers.items _ c.args.place c.self.invariant.answers
    ∙ ap (λ m. answer_at m.history c.args.place) c.self.view_is))

pub returns-else-place-len : goal.returns-else-place-len
returns-else-place-len c =
    sym (slice_get_past c.self.inside.answers.items c.args.place (omega arith))
    ∙ (answer_kept_at c.self.inside.answers.items _ c.args.place c.self.invariant.answers
    ∙ ap (λ m. answer_at m.history c.args.place) c.self.view_is)

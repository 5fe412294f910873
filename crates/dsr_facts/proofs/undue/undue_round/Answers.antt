use Rattle.std.proofs.Common.{sym, ◌∙◌}
use Rattle.dsr_facts.proofs.UndueLemmas.{is_due_post}
use Rattle.dsr_facts.proofs.undue.undue_round.Goals as goal

pub undue_choice-requires-clause-round : goal.undue_choice-requires-clause-round
undue_choice-requires-clause-round c log stands =
    let is = is_due_post c.due.result c.args.to (sym c.is_due.ensures ∙ c.if-not-is_due.false) in
    c.due.ensures.round log stands ∙ c.requires.round (sym c.due.ensures.same ∙ is)

use Rattle.dsr_facts.proofs.CauseLemmas.{traitor_at}
use Rattle.dsr_facts.proofs.cause.forged_by.Goals as goal

pub returns-clause-forged : goal.returns-clause-forged
returns-clause-forged c =
    let is = traitor_at c.args.stage.now.shape c.args.from.now c.requires.inside c.requires.traitor in
    c.forged_in.ensures.forged is.0 is.1

pub returns-clause-none : goal.returns-clause-none
returns-clause-none c =
    let is = traitor_at c.args.stage.now.shape c.args.from.now c.requires.inside c.requires.traitor in
    c.forged_in.ensures.none is.0 is.1

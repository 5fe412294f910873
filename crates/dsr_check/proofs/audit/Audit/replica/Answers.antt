use Rattle.std.proofs.Common.{◌∙◌, inl, inr, sym, subst}
use Rattle.dsr_names.specs.declared.actor.Actor.TheVariants.{Replica}
use Rattle.dsr_run.specs.Step.{log_of}
use Rattle.dsr_check.specs.Support.Party.{Plays}
use Rattle.dsr_check.proofs.audit.Audit.replica.Goals as goal

pub returns-in-Loyal-clause-loyal : goal.returns-in-Loyal-clause-loyal
returns-in-Loyal-clause-loyal c run are =
    let a = c.args.self.now in
    subst (Plays a.shape (Replica c.args.number) (log_of run (Replica c.args.number))) (sym c.index.ensures ∙ c.in-Loyal.is)
    (are.played.each (Replica c.args.number) c.requires.inside c.index.result.now)

pub returns-in-Traitor-clause-traitor : goal.returns-in-Traitor-clause-traitor
returns-in-Traitor-clause-traitor c run are =
    let a = c.args.self.now in
    let plays = subst (Plays a.shape (Replica c.args.number) (log_of run (Replica c.args.number))) (sym c.index.ensures)
    (are.played.each (Replica c.args.number) c.requires.inside c.index.result.now) in
    elim c.in-Traitor.is [
      | inl traitor ↦ subst (Plays a.shape (Replica c.args.number) (log_of run (Replica c.args.number))) traitor plays
      | inr client ↦ elim (subst (Plays a.shape (Replica c.args.number) (log_of run (Replica c.args.number))) client.1 plays) [ ]
    ]

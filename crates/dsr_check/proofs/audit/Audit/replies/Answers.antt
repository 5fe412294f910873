use Rattle.std.proofs.Common.{◌∙◌, inl, inr, ap, sym, subst}
use Rattle.std.specs.Prelude.{slice_index_or}
use Rattle.dsr_names.specs.declared.actor.Actor.TheVariants.{Client}
use Rattle.dsr_run.specs.Step.{log_of}
use Rattle.dsr_check.specs.Support.Party.{Plays}
use Rattle.dsr_check.proofs.audit.Audit.replies.Goals as goal

pub returns-in-Client : goal.returns-in-Client
returns-in-Client c run are =
    let a = c.args.self.now in
    let plays = subst (Plays a.shape (Client c.args.client) (log_of run (Client c.args.client)))
    (sym (c.index.ensures ∙ ap (λ k. slice_index_or a.parties.items k c.index.result.now) c.place.ensures) ∙ c.in-Client.is)
    (are.played.each (Client c.args.client) c.requires.inside c.index.result.now) in
    c.as_slice.ensures.value ∙ plays.noted

pub returns-in-Loyal : goal.returns-in-Loyal
returns-in-Loyal c run are =
    let a = c.args.self.now in
    let plays = subst (Plays a.shape (Client c.args.client) (log_of run (Client c.args.client)))
    (sym (c.index.ensures ∙ ap (λ k. slice_index_or a.parties.items k c.index.result.now) c.place.ensures))
    (are.played.each (Client c.args.client) c.requires.inside c.index.result.now) in
    elim c.in-Loyal.is [
      | inl loyal ↦ elim (subst (Plays a.shape (Client c.args.client) (log_of run (Client c.args.client))) loyal.1 plays) [ ]
      | inr traitor ↦ elim (subst (Plays a.shape (Client c.args.client) (log_of run (Client c.args.client))) traitor plays) [ ]
    ]

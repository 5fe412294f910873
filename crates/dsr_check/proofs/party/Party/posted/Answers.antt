use Rattle.std.proofs.Common.{subst}
use Rattle.dsr_names.specs.declared.actor.Actor.TheVariants.{Replica}
use Rattle.dsr_check.specs.Support.Party.{CanPost, Plays}
use Rattle.dsr_check.proofs.Playing.{replica_posts}
use Rattle.dsr_check.proofs.party.Party.posted.Goals as goal

pub returns : goal.returns
returns c = record {
  posts = λ shape p log x plays good only.
      let is = subst (Plays shape (Replica p) log) c.in-Loyal.is plays in
      let can = subst (λ party. CanPost party c.args.to c.args.pick) c.in-Loyal.is c.requires in
      replica_posts shape p log c.in-Loyal.replica c.posted.new.self c.args.to c.args.pick x is can good c.posted.ensures.me c.posted.ensures.shape
      (λ y e. c.posted.ensures.stands log y is.stands e) only;
}

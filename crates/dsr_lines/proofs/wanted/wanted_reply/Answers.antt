use Rattle.std.proofs.Common.{◌≡◌, ◌∙◌, sym, subst}
use Rattle.dsr_names.specs.declared.actor.Actor.TheVariants.{Replica, Client}
use Rattle.dsr_node.specs.Conduct.{post_of}
use Rattle.dsr_run.specs.Step.{log_of}
use Rattle.dsr_lines.proofs.WantedLemmas.{given_there}
use Rattle.dsr_lines.proofs.wanted.wanted_reply.Goals as goal

pub unreachable-requires : goal.unreachable-requires
unreachable-requires c =
    let w = c.args.stage.now in
    let log = log_of w.run (Replica c.args.from) in
    let is = c.loyal_of.ensures in
    let same = subst (λ s. c.reply_by.result ≡ post_of s log (Replica c.args.from) (Client c.args.to) c.args.pick.now) is.shape_is
    (c.reply_by.ensures log c.args.from is.stands) in
    given_there w.shape (log_of w.run) (Replica c.args.from) (Client c.args.to) c.args.pick.now c.requires (sym same ∙ c.in-None.is)

pub returns : goal.returns
returns c =
    let w = c.args.stage.now in
    let log = log_of w.run (Replica c.args.from) in
    let is = c.loyal_of.ensures in
    let same = subst (λ s. c.reply_by.result ≡ post_of s log (Replica c.args.from) (Client c.args.to) c.args.pick.now) is.shape_is
    (c.reply_by.ensures log c.args.from is.stands) in
    sym same ∙ c.in-Some.is

use Rattle.std.proofs.Common.{◌∙◌}
use Rattle.dsr_envelope.specs.declared.pick.Pick.TheVariants.{Plain}
use Rattle.dsr_rounds.proofs.Proposing.{later_pick}
use Rattle.dsr_rounds.proofs.Rounds.{plain_post}
use Rattle.dsr_rounds.proofs.replica.choice.Goals as goal

pub returns-clause-given : goal.returns-clause-given
returns-clause-given c =
    plain_post c.args.seat.now c.replica-replica.result c.args.to c.replica-replica.ensures.same c.replica-replica.ensures.loyal c.due-due.ensures.conduct
    c.requires.due

pub returns-clause-eager : goal.returns-clause-eager
returns-clause-eager c = later_pick c.args.seat.now c.args.to Plain (λ zero. c.if-number-eq0.false (c.number.ensures.same ∙ zero))

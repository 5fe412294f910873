use Rattle.std.proofs.Common.{◌<◌, sym, subst}
use Rattle.std.specs.Prelude.{IfSome, IfNone, IsSome}
use Rattle.dsr_names.specs.declared.actor.Actor.TheVariants.{Replica}
use Rattle.dsr_replica.specs.Conduct.{envelope_to}
use Rattle.dsr_run.specs.Step.{log_of}
use Rattle.dsr_facts.specs.Undue.{IsUndueRound}
use Rattle.dsr_facts.proofs.UndueLemmas.{posts_are_rounds}
use Rattle.dsr_facts.proofs.cause.undue_at.Goals as goal

pub undue_round-requires-clause-round : goal.undue_round-requires-clause-round
undue_round-requires-clause-round c next =
    let is = c.loyal_of-loyal.ensures in
    let log = log_of c.args.stage.now.run (Replica c.args.poster) in
    posts_are_rounds c.loyal_of-loyal.result.now log c.args.to c.posts-round.result is.stands (subst (λ s. c.args.to < s.n) (sym is.shape_is) c.requires.to) next
    c.posts-round.ensures

pub returns-clause-some : goal.returns-clause-some
returns-clause-some c =
    let shape = c.args.stage.now.shape in
    let pick = c.args.pick.now in
    let q = c.args.to in
    let o = c.undue_round.result in
    let is = c.loyal_of-loyal.ensures in
    let log = log_of c.args.stage.now.run (Replica c.args.poster) in
    subst (λ m. IfSome o (IsUndueRound shape m log q pick)) is.me
    (subst (λ s. IfSome o (IsUndueRound s c.loyal_of-loyal.result.now.me log q pick)) is.shape_is (c.undue_round.ensures.some log is.stands))

pub returns-clause-none : goal.returns-clause-none
returns-clause-none c =
    let shape = c.args.stage.now.shape in
    let pick = c.args.pick.now in
    let q = c.args.to in
    let o = c.undue_round.result in
    let is = c.loyal_of-loyal.ensures in
    let log = log_of c.args.stage.now.run (Replica c.args.poster) in
    subst (λ m. IfNone o (IsSome (envelope_to shape m log q pick))) is.me
    (subst (λ s. IfNone o (IsSome (envelope_to s c.loyal_of-loyal.result.now.me log q pick))) is.shape_is (c.undue_round.ensures.none log is.stands))

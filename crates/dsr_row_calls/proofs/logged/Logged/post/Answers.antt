use Rattle.std.proofs.Common.{refl, sym, subst}
use Rattle.dsr_row_calls.specs.LoyalLogs.{HasLog}
use Rattle.dsr_row_calls.proofs.LoyalLogLemmas.{one_post}
use Rattle.dsr_row_calls.proofs.logged.Logged.post.Goals as goal

pub invariant_of-self : goal.invariant_of-self
invariant_of-self c =
    let given = c.in_ok-envelope.ensures in
    let posted = c.posted.ensures in
    subst (HasLog c.posted.new.self) (sym c.in_ok-entries.ensures)
    (one_post c.self.inside.replica c.posted.new.self c.self.inside.entries c.args.to c.args.pick.now c.args.pick.now c.in_ok-envelope.envelope
    c.self.invariant given.pick refl given.given posted.stands posted.me posted.shape)

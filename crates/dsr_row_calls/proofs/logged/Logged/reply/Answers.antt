use Rattle.std.proofs.Common.{◌∙◌, ◌<◌, sym, ap, subst, arith}
use Rattle.dsr_names.specs.Shape.{Shape}
use Rattle.dsr_row_calls.specs.LoyalLogs.{HasLog}
use Rattle.dsr_row_calls.proofs.LoyalLogLemmas.{one_reply}
use Rattle.dsr_row_calls.proofs.logged.Logged.reply.Goals as goal

pub invariant_of-self : goal.invariant_of-self
invariant_of-self c =
    let r = c.self.inside.replica in
    let client = c.args.client in
    let number = c.number.ensures.same in
    let clients = c.m.ensures.same ∙ ap (λ (s : Shape). s.m) c.shape.ensures in
    let below = c.if-number-m.false in
    let within : client < r.shape.m = omega (arith, number, clients, below) in
    let is = c.in-Some.is in
    subst (HasLog r) (sym c.in_ok-entries.ensures)
    (one_reply r c.self.inside.entries client c.in-Some.envelope c.self.invariant within
    (λ log stands. sym is ∙ c.reply_for.ensures.stands log stands)
    (λ log stands. c.reply_for.ensures.posted log c.in-Some.envelope stands is))

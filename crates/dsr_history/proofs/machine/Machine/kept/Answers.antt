use Rattle.std.proofs.Common.{◌≡◌, ◌∙◌, ap}
use Rattle.dsr_history.specs.History.{reply_in}
use Rattle.dsr_history.specs.Support.Machine.{history_of}
use Rattle.dsr_history.proofs.Standing.{reply_if, answered_if}
use Rattle.dsr_history.proofs.machine.Machine.kept.Goals as goal

pub returns-clause-stands : goal.returns-clause-stands
returns-clause-stands c =
    let is : c.kept.result ≡ reply_in c.args.self.now.history c.args.client =
    c.kept.ensures (history_of c.self.inside) c.self.invariant.service ∙ ap (λ m. reply_in m.history c.args.client) c.self.view_is in
    reply_if c.args.self.now.history c.args.client c.kept.result is

pub returns-clause-answer : goal.returns-clause-answer
returns-clause-answer c =
    let is : c.kept.result ≡ reply_in c.args.self.now.history c.args.client =
    c.kept.ensures (history_of c.self.inside) c.self.invariant.service ∙ ap (λ m. reply_in m.history c.args.client) c.self.view_is in
    answered_if c.args.self.now.history c.args.client c.kept.result is

use Rattle.std.proofs.Common.{◌≡◌}
use Rattle.dsr_run.specs.Step.{log_of}
use Rattle.dsr_mail.proofs.Responding.{answers, responds}
use Rattle.dsr_mail.proofs.client_seat.ClientSeat.moment.Goals.{After-moment}
use Rattle.dsr_mail.proofs.client_seat.ClientSeat.moment.Goals as goal

own : (c : After-moment) → log_of c.moment.result.run c.args.self.now.actor ≡ c.args.self.now.log
own c = rw c.self.view_is at c.moment.ensures.own

pub returns-clause-answered : goal.returns-clause-answered
returns-clause-answered c =
    let client = c.client-client.ensures in
    answers c.args.self.now.shape (log_of c.moment.result.run) _ _ (own (goal.at.returns-clause-answered c).After-moment) _ client.same client.conduct

pub returns-clause-responses : goal.returns-clause-responses
returns-clause-responses c =
    responds c.args.self.now.shape (log_of c.moment.result.run) _ _ (own (goal.at.returns-clause-responses c).After-moment)

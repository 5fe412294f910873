use Rattle.std.proofs.Common.{sym, ◌∙◌}
use Rattle.dsr_replica.proofs.Standing.{reads_nothing, none_for, none_of_other}
use Rattle.dsr_replica.proofs.replica.read_envelope.Goals as goal

pub returns-in-Round-clause-read : goal.returns-in-Round-clause-read
returns-in-Round-clause-read c =
    let flights = c.args.flights.now in
    reads_nothing flights c.args.envelope
    (none_of_other flights.round c.in-Round.round c.in-Round.chains c.args.envelope c.in-Round.is (λ e. c.if-round-current.false (e ∙ sym c.round-current.ensures.same)))

pub returns-clause-read : goal.returns-clause-read
returns-clause-read c =
    reads_nothing c.args.flights.now c.args.envelope (none_for c.args.flights.now.round c.args.envelope c.in_default.not-Round)

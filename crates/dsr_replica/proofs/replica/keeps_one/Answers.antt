use Rattle.std.proofs.Common.{map, sym, ap, ◌∙◌}
use Rattle.dsr_replica.specs.Support.Flights.{with_chains}
use Rattle.dsr_replica.proofs.InFlight.{all_none}
use Rattle.dsr_replica.proofs.Standing.{none_for, none_of_other}
use Rattle.dsr_replica.proofs.replica.keeps_one.Goals as goal

pub returns-in_default-clause-nothing : goal.returns-in_default-clause-nothing
returns-in_default-clause-nothing c = λ e.
    let flights = c.args.flights.now in
    ap (λ chains. map (with_chains chains) flights.slots) (none_for flights.round c.args.envelope.now c.in_default.not-Round) ∙ all_none flights.slots

pub returns-else-round-current-clause-nothing : goal.returns-else-round-current-clause-nothing
returns-else-round-current-clause-nothing c = λ e.
    let flights = c.args.flights.now in
    ap (λ chains. map (with_chains chains) flights.slots)
    (none_of_other flights.round c.in-Round.round c.in-Round.chains c.args.envelope.now c.in-Round.is
    (λ same. c.if-round-current.false (same ∙ sym c.round-current.ensures.same))) ∙ all_none flights.slots

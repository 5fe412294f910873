use Rattle.std.proofs.Common.{◌≡◌, ◌∙◌, false, nat_lt, length, arith}
use Rattle.std.proofs.lemmas.Bool.Decides.{nat_tests}
use Rattle.dsr_request.specs.Support.RequestEquality.{request_eq-Decides}
use Rattle.dsr_notes.proofs.ClosingLemmas.{acts_if_next, acts_not_past}
use Rattle.dsr_notes.proofs.closing.is_next.Goals as goal

pub returns-then-place-history-clause-acted : goal.returns-then-place-history-clause-acted
returns-then-place-history-clause-acted c newer older place_is history_is =
    let found = c.index-history-place.result in
    acts_if_next c.args.request.now c.args.history.now newer older c.args.place place_is history_is found c.if-place-history.true c.index-history-place.is
    c.eq.result (rw c.eq.ensures (request_eq-Decides found c.args.request.now))

pub returns-else-place-history-clause-acted : goal.returns-else-place-history-clause-acted
returns-else-place-history-clause-acted c newer older place_is history_is =
    let past : nat_lt c.args.place (length c.args.history.now) ≡ false = grind (arith, nat_tests, c.if-place-history.false) in
    past ∙ acts_not_past c.args.request.now c.args.history.now newer older c.args.place place_is history_is c.if-place-history.false

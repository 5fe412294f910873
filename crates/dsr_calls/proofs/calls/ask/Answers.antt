use Rattle.std.proofs.Common.{Some, refl}
use Rattle.dsr_calls.proofs.Turns.{waits_first, adds_none}
use Rattle.dsr_calls.proofs.calls.ask.Goals as goal

pub returns-then-is_some-clause-awaited : goal.returns-then-is_some-clause-awaited
returns-then-is_some-clause-awaited c =
    let client = c.client-client.ensures in
    waits_first c.args.seat.now c.client-client.result (Some c.args.op) client.same client.conduct

pub returns-then-is_some-clause-turns : goal.returns-then-is_some-clause-turns
returns-then-is_some-clause-turns c = adds_none (Some c.args.op) c.args.seat.now c.args.seat.now refl

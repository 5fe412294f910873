use Rattle.dsr_rounds.proofs.Rounds.{take_keeps}
use Rattle.dsr_rounds.proofs.host.Host.take_from_client.Goals as goal

pub returns-clause-kept : goal.returns-clause-kept
returns-clause-kept g c =
    take_keeps c.args.client c.args.seat.now c.try_take.new.seat c.in_ok-try_take.field-0 c.in_ok-try_take.ensures.tried

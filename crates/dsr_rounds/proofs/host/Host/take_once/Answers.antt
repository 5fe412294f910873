use Rattle.dsr_rounds.proofs.Scripts.{take_keeps}
use Rattle.dsr_rounds.proofs.host.Host.take_once.Goals as goal

pub returns-clause-kept : goal.returns-clause-kept
returns-clause-kept g c =
    take_keeps c.args.client c.args.seat.now c.try_take_of.new.seat c.in_ok-_taken._taken c.in_ok-_taken.ensures.tried

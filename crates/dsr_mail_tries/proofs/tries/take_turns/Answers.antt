use Rattle.dsr_mail_tries.proofs.SameLemmas.{same_at_first, of_mail_on, same_at}
use Rattle.dsr_mail_tries.proofs.tries.take_turns.Goals as goal

pub loop-init : goal.loop-init
loop-init g c = same_at_first g.P.Player.pass c.args.seats.now

pub try_once-requires : goal.try_once-requires
try_once-requires g c =
    of_mail_on g.P.Player.pass c.args.mail.now c.args.seats.now c.loop.seats c.loop.invariant c.requires
    c.below-place.result c.index-seats-place.result c.below-place.ensures

pub loop-preserved : goal.loop-preserved
loop-preserved g c =
    same_at g.P.Player.pass c.args.seats.now c.loop.seats c.below-place.result c.index-seats-place.result c.try_once.new.self
    c.loop.invariant c.below-place.ensures c.try_once.ensures

pub returns : goal.returns
returns g c = c.loop.invariant

use Rattle.std.proofs.Common.{sym, subst}
use Rattle.dsr_script.specs.Support.Carried.{IsHeldRequest}
use Rattle.dsr_script.proofs.building.value_of.Goals as goal

pub request_of-requires : goal.request_of-requires
request_of-requires c =
    subst (IsHeldRequest c.args.keys.now c.args.known.now.signatures) (sym c.ask-item.is)
    (c.requires.held c.loop-ask.ask-index c.ask-item.result c.loop-ask-test.true)

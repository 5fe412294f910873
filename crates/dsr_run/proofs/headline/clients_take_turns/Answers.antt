use Rattle.std.proofs.Common.{[], refl}
use Rattle.dsr_run.proofs.Turns.{turns}
use Rattle.dsr_run.proofs.headline.clients_take_turns.Goals as goal

pub returns : goal.returns
returns c shape run is first second invoked invoked_too same less = turns shape run is first second invoked same less run is ([], refl) invoked_too

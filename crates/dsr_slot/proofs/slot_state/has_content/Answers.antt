use Rattle.dsr_slot.proofs.KeepLemmas.{kept_alone}
use Rattle.dsr_slot.proofs.slot_state.has_content.Goals as goal

pub returns-in-Some : goal.returns-in-Some
returns-in-Some c = rw (c.in-Some.is) (kept_alone c.in-Some.kept c.args.chain.now c.same_content.result c.same_content.ensures)

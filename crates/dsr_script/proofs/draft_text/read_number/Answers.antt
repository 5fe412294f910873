use Rattle.dsr_script.proofs.EnvelopeLemmas.{reads_number}
use Rattle.dsr_script.proofs.draft_text.read_number.Goals as goal

pub returns-in-Some : goal.returns-in-Some
returns-in-Some c = reads_number c.args.bytes.now c.in-Some.number c.if-number-gt0.true c.in-Some.ensures

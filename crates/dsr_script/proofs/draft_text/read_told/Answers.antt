use Rattle.std.proofs.Common.{Some}
use Rattle.dsr_script.proofs.EnvelopeLemmas.{reads_told}
use Rattle.dsr_script.proofs.draft_text.read_told.Goals as goal

pub returns-in-Some : goal.returns-in-Some
returns-in-Some c = reads_told c.args.bytes.now (Some c.in-Some.reply) c.in-Some.ensures

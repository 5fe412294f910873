use Rattle.std.proofs.Common.{Some}
use Rattle.dsr_script.proofs.EnvelopeLemmas.{reads_seen}
use Rattle.dsr_script.proofs.draft_text.read_seen.Goals as goal

pub returns-in-Some : goal.returns-in-Some
returns-in-Some c = reads_seen c.args.bytes.now (Some c.in-Some.front) c.in-Some.ensures

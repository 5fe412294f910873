use Rattle.dsr_cli.proofs.StatusLemmas.{status_for}
use Rattle.dsr_cli.proofs.run.Goals as goal

pub returns-clause-status : goal.returns-clause-status
returns-clause-status g c =
    let read = c.read_words-reading.ensures in
    let did = c.obey.ensures in
    status_for _ c.read_words-reading.result _ _ read.task read.version read.help read.usage read.stated read.shown read.told
    did.task did.version did.help did.usage did.no_memory

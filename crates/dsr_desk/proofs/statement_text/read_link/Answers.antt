use Rattle.dsr_desk.proofs.StatementLemmas.{reads_link}
use Rattle.dsr_desk.proofs.statement_text.read_link.Goals as goal

pub returns : goal.returns
returns c =
    reads_link c.args.slot.now c.args.content.now c.args.before.now c.in_ok-slot.slot c.in_ok-value.value c.in_ok-before.before c.in_ok-slot.ensures
    c.in_ok-value.ensures c.in_ok-before.ensures

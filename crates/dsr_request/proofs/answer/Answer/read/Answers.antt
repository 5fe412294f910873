use Rattle.dsr_request.proofs.AnswerLemmas.{reads_held, reads_kept}
use Rattle.dsr_request.proofs.answer.Answer.read.Goals as goal

pub returns-in-Some : goal.returns-in-Some
returns-in-Some c = reads_held c.args.bytes.now c.in-Some.old c.in-Some.ensures

pub returns-in-Some-old_after : goal.returns-in-Some-old_after
returns-in-Some-old_after c = reads_kept c.args.bytes.now c.in-Some-old_after.old c.in-Some-old_after.ensures

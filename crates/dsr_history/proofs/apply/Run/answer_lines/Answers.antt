use Rattle.std.proofs.Common.{◌<◌, ◌∙◌, length, arith}
use Rattle.dsr_history.proofs.RunLemmas.{one_more, shorter}
use Rattle.dsr_history.proofs.apply.Run.answer_lines.Goals as goal

pub loop-rest-preserved : goal.loop-rest-preserved
loop-rest-preserved c =
    let less : length c.in-Some.line.after.now < length c.loop-rest.rest.now =
    shorter c.loop-rest.rest.now c.in-Some.line.after.now c.in-Some.line.request c.in-Some.ensures.found in (
      one_more c.args.text.now c.loop-rest.rest.now c.in-Some.line.after.now c.loop-rest.count c.loop-rest.self.service c.answer.new.self.service
          c.loop-rest.self.answers.items c.answer.new.self.answers.items c.in-Some.line.request c.loop-rest.invariant.0 c.in-Some.ensures.request
          c.in-Some.ensures.found c.in_ok-answer.ensures.done,
      c.in_ok-answer.ensures.clients ∙ c.loop-rest.invariant.1,
      omega (arith, less, c.in_ok-answer.ensures.count, c.loop-rest.invariant.2),
      omega (arith, less, c.loop-rest.invariant.3),
    )

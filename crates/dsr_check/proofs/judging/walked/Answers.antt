use Rattle.std.proofs.Common.{sym, ◌∙◌, ap, subst, reverse, take, ◌∷◌}
use Rattle.std.proofs.lemmas.List.{length-set}
use Rattle.dsr_register.specs.Table.{StandsFor}
use Rattle.dsr_register.specs.Values.{answer_after}
use Rattle.dsr_history.specs.History.{operations}
use Rattle.dsr_check.proofs.Walking.{turned_step, walked_step}
use Rattle.dsr_check.proofs.judging.walked.Goals as goal

pub loop-place-preserved : goal.loop-place-preserved
loop-place-preserved c =
    let history = c.args.history.now in
    let older = reverse (take c.loop-place.place history) in
    record {
      size = length-set c.loop-place.moved c.number-client.result c.passed.result ∙ c.loop-place.invariant.size;
      stands = subst (λ requests. StandsFor c.apply-answer.new.self (operations requests))
          (sym (turned_step history c.loop-place.place c.index-history-place.result c.loop-place-test.true c.index-history-place.is))
          (subst (λ op. StandsFor c.apply-answer.new.self (op ∷ operations older)) c.op.ensures.same
          (c.apply-answer.ensures.change (operations older) c.loop-place.invariant.stands));
      walked = walked_step history c.loop-place.place c.index-history-place.result c.loop-place-test.true c.index-history-place.is
          c.args.accepted.now c.args.heads.now c.loop-place.moved c.number-client.result c.number.result c.passed.result c.apply-answer.result
          c.loop-place.invariant.size (c.number-client.ensures.same ∙ c.client.ensures) c.number-client.ensures.small c.number.ensures.same
          (c.apply-answer.ensures.answer (operations older) c.loop-place.invariant.stands ∙ ap (answer_after (operations older)) c.op.ensures.same)
          c.loop-place.invariant.walked c.passed.ensures;
    }

use Rattle.std.proofs.Common.{◌+◌, ◌∙◌, slice_set, refl, sym, subst, reverse, take, drop}
use Rattle.dsr_check.proofs.Legality.{IsNoted, noted_none, noted_more, not_legal, no_numbers}
use Rattle.dsr_check.proofs.Walking.{turned_step, turned_at}
use Rattle.dsr_check.proofs.judging.is_legal.Goals as goal

pub loop-request-init : goal.loop-request-init
loop-request-init c = noted_none _ refl (no_numbers 32)

pub returns-then-number-last : goal.returns-then-number-last
returns-then-number-last c = (
  λ no. cc,
  λ legal. absurd (not_legal (reverse c.args.history.now) (reverse (drop (c.loop-request.request-index + 1) c.args.history.now))
      (reverse (take c.loop-request.request-index c.args.history.now)) c.loop-request.last c.request-item.result c.number-client.result c.number-number.result
      (turned_at c.args.history.now c.loop-request.request-index c.request-item.result c.loop-request-test.true c.request-item.is)
      (c.number-client.ensures.same ∙ c.client.ensures) c.number-number.ensures.same c.number-number.ensures.some c.if-number-last.true c.loop-request.invariant legal),
)

pub loop-request-preserved : goal.loop-request-preserved
loop-request-preserved c =
    subst (λ requests. IsNoted requests (slice_set c.loop-request.last c.number-client.result c.number-number.result))
    (sym (turned_step c.args.history.now c.loop-request.request-index c.request-item.result c.loop-request-test.true c.request-item.is))
    (noted_more (reverse (take c.loop-request.request-index c.args.history.now)) c.loop-request.last c.request-item.result c.number-client.result c.number-number.result
    (c.number-client.ensures.same ∙ c.client.ensures) c.number-client.ensures.small c.number-number.ensures.same c.if-number-last.false c.loop-request.invariant)

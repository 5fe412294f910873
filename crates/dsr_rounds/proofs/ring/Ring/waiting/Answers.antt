use Rattle.std.proofs.Common.{◌≡◌, ◌<◌, ◌≤◌, ◌+◌, ◌-◌, ◌++◌, ◌⊎◌, ℕ, List, [], length, ap, sym, ◌∙◌, subst, arith}
use Rattle.std.specs.Prelude.{filter, take}
use Rattle.dsr_envelope.specs.Pick.{IsClients}
use Rattle.dsr_run.specs.Eager.{is_waiting, last_proposed, in_turn, next_proposed}
use Rattle.dsr_rounds.specs.Eagerness.{with_waiting}
use Rattle.dsr_rounds.proofs.Proposing.{gathered_first, gathered_on, gathered_all, next_good}
use Rattle.dsr_rounds.proofs.ring.Ring.waiting.Goals as goal

pub loop-passed-init : goal.loop-passed-init
loop-passed-init c =
    let seat = c.args.seat.now in
    record {
      inside = c.first-number.ensures.inside;
      few = subst (λ (w : List ℕ). length w ≤ 8) (sym c.none-waiting.ensures) (omega arith);
      next = gathered_first (is_waiting seat.shape seat.log) c.args.self.now seat.shape.m c.first-number.result (last_proposed seat.shape seat.log)
          c.none-waiting.result c.requires.ring c.none-waiting.ensures c.first-number.ensures.first;
    }

pub loop-passed-preserved : goal.loop-passed-preserved
loop-passed-preserved c =
    let seat = c.args.seat.now in
    let m = c.args.self.now in
    let waits = is_waiting seat.shape seat.log in
    let was = c.loop-passed in
    let added = c.add_if_held.ensures.added ∙ ap (λ client. with_waiting seat.shape seat.log client was.waiting) c.of.ensures in
    record {
      inside = c.after-number.ensures.inside;
      few = c.add_if_held.ensures.few;
      next = subst (λ (w : List ℕ). take 8 (w ++ filter waits (in_turn m (m - (was.passed + 1)) c.after-number.result)) ≡ next_proposed seat.shape seat.log)
          (sym added)
          (gathered_on waits m was.passed c.after-number.result was.number (next_proposed seat.shape seat.log) was.waiting
          (subst (λ k. was.passed < k) c.self.view_is c.loop-passed-test.true) c.after-number.ensures.next was.invariant.next);
    }

pub returns-clause-next : goal.returns-clause-next
returns-clause-next c =
    let seat = c.args.seat.now in
    let was = c.loop-passed in
    gathered_all (is_waiting seat.shape seat.log) c.args.self.now was.passed was.number (next_proposed seat.shape seat.log) was.waiting
    (subst (λ k. k ≤ was.passed) c.self.view_is c.loop-passed-test.false) was.invariant.few was.invariant.next

pub returns-clause-good : goal.returns-clause-good
returns-clause-good c =
    let seat = c.args.seat.now in
    let was = c.loop-passed in
    let all = gathered_all (is_waiting seat.shape seat.log) c.args.self.now was.passed was.number (next_proposed seat.shape seat.log) was.waiting
    (subst (λ k. k ≤ was.passed) c.self.view_is c.loop-passed-test.false) was.invariant.few was.invariant.next in
    subst (λ (w : List ℕ). (w ≡ []) ⊎ IsClients w) (sym all)
    (next_good seat.shape seat.log (subst (λ k. 0 < k) (c.self.view_is ∙ c.requires.ring) c.self.invariant.0))

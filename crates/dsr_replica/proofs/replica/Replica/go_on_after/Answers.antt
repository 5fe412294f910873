use Rattle.std.proofs.Common.{◌≡◌, ◌+◌, suc, true, false, ◌==◌, ap, sym, ◌∙◌, add-one, arith}
use Rattle.std.proofs.lemmas.Bool.{false≢true}
use Rattle.dsr_names.specs.Shape.{Shape}
use Rattle.dsr_envelope.specs.declared.due.Due.TheVariants.{Take as TakeFrom}
use Rattle.dsr_replica.specs.Replica.{Replica}
use Rattle.dsr_replica.proofs.Standing.{is_more, is_last}
use Rattle.dsr_replica.proofs.replica.Replica.go_on_after.Goals as goal

pub returns-then-next-n-clause-after : goal.returns-then-next-n-clause-after
returns-then-next-n-clause-after c =
    let before = c.args.self.now in
    let from = c.args.from in
    let next : c.number-next.result + 1 ≡ suc from = add-one c.number-next.result ∙ ap suc c.number-next.ensures.same in
    let size : c.n.result ≡ before.shape.n = c.n.ensures.same ∙ (ap (λ (s : Shape). s.n) c.shape.ensures ∙ ap (λ (r : Replica). r.shape.n) c.self.view_is) in
    let below = c.if-next-n.true in
    let more : (suc from == before.shape.n) ≡ false = is_more from before.shape.n (c.number-next.result + 1) (omega (arith, next)) (omega (arith, below, size)) in
    record {
      more = λ e. c.take_next_from.ensures ∙ ap (λ k. record before { next = TakeFrom k }) next;
      last = λ e. absurd (false≢true (sym more ∙ e));
    }

pub returns-else-next-n-clause-after : goal.returns-else-next-n-clause-after
returns-else-next-n-clause-after c =
    let a = c.self.inside in
    let before = c.args.self.now in
    let from = c.args.from in
    let next : c.number-next.result + 1 ≡ suc from = add-one c.number-next.result ∙ ap suc c.number-next.ensures.same in
    let size : c.n.result ≡ a.flights.shape.n = c.n.ensures.same ∙ ap (λ (s : Shape). s.n) c.shape.ensures in
    let most = c.if-next-n.false in
    let due = ap (λ (r : Replica). r.next) c.self.view_is ∙ c.requires.due in
    let here : (suc from == a.flights.shape.n) ≡ true =
    is_last a.due from a.flights.shape.n (c.number-next.result + 1) due c.self.invariant.inside (omega (arith, next)) (omega (arith, most, size)) in
    let last : (suc from == before.shape.n) ≡ true = ap (λ (r : Replica). suc from == r.shape.n) (sym c.self.view_is) ∙ here in
    record {
      more = λ e. absurd (false≢true (sym e ∙ last));
      last = λ e. c.close.ensures;
    }

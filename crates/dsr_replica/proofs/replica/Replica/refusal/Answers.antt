use Rattle.std.proofs.Common.{◌≤◌, ◌^◌, ◌∙◌, refl, ap, sym, subst, arith}
use Rattle.std.specs.Prelude.{IsSome}
use Rattle.std.proofs.lemmas.Bool.{false≢true}
use Rattle.std.proofs.lemmas.Option.{none-some}
use Rattle.dsr_replica.specs.Conduct.{envelope_with}
use Rattle.dsr_replica.specs.Replica.{Replica, value_for}
use Rattle.dsr_replica.proofs.Choosing.{none_given, some_given, due_of, round_within, is_some, is_none}
use Rattle.dsr_replica.proofs.Standing.{rounds_are}
use Rattle.dsr_replica.proofs.replica.Replica.refusal.Goals as goal

pub returns-then-not-has_value-clause-not_due : goal.returns-then-not-has_value-clause-not_due
returns-then-not-has_value-clause-not_due c = λ log stands.
    let none = is_none (value_for c.args.self.now c.args.to c.args.pick) (λ some. absurd (false≢true (sym c.if-not-has_value.true ∙ c.has_value.ensures.1 some))) in
    (λ e. none_given c.args.self.now log c.args.to c.args.pick stands none, λ e. refl)

pub returns-then-not-has_value-clause-exhausted : goal.returns-then-not-has_value-clause-exhausted
returns-then-not-has_value-clause-exhausted c = λ log stands.
    let none = is_none (value_for c.args.self.now c.args.to c.args.pick) (λ some. absurd (false≢true (sym c.if-not-has_value.true ∙ c.has_value.ensures.1 some))) in
    let given = none_given c.args.self.now log c.args.to c.args.pick stands none in
    (λ e. absurd cc, λ both. absurd (false≢true (subst IsSome given both.0)))

pub returns-then-round-ge-ROUND_END-clause-not_due : goal.returns-then-round-ge-ROUND_END-clause-not_due
returns-then-round-ge-ROUND_END-clause-not_due c = λ log stands.
    let r = c.args.self.now in
    let value = is_some (value_for r c.args.to c.args.pick) (c.has_value.ensures.0 c.if-not-has_value.false) in
    let some = some_given r log c.args.to c.args.pick value.0 stands value.1 in
    (λ e. absurd cc, λ e. absurd (none-some (envelope_with r.shape r.me log value.0) (sym e ∙ some)))

pub returns-then-round-ge-ROUND_END-clause-exhausted : goal.returns-then-round-ge-ROUND_END-clause-exhausted
returns-then-round-ge-ROUND_END-clause-exhausted c = λ log stands.
    let r = c.args.self.now in
    let value = is_some (value_for r c.args.to c.args.pick) (c.has_value.ensures.0 c.if-not-has_value.false) in
    let some = some_given r log c.args.to c.args.pick value.0 stands value.1 in
    let next = ap (λ (x : Replica). x.next) c.self.view_is ∙ (due_of r c.args.to c.args.pick value.0 value.1).0 in
    let within : c.self.inside.flights.round ≤ 2 ^ 36 = round_within c.self.inside.due c.args.to c.self.inside.flights.round next c.self.invariant.within in
    let here = ap (λ (x : Replica). x.round) c.self.view_is in
    let counted = c.round.ensures.same in
    let past = c.if-round-ge-ROUND_END.true in
    let same = rounds_are r.shape log r.round stands.counts in
    (λ e. (subst IsSome (sym some) refl, omega (arith, within, here, counted, past, same)), λ both. refl)

pub returns-clause-not_due : goal.returns-clause-not_due
returns-clause-not_due c = λ log stands.
    let r = c.args.self.now in
    let value = is_some (value_for r c.args.to c.args.pick) (c.has_value.ensures.0 c.if-not-has_value.false) in
    let some = some_given r log c.args.to c.args.pick value.0 stands value.1 in
    (λ e. absurd cc, λ e. absurd (none-some (envelope_with r.shape r.me log value.0) (sym e ∙ some)))

use Rattle.std.proofs.Common.{◌≡◌, ◌∙◌, Some, refl, ap, sym, subst}
use Rattle.std.specs.Prelude.{IsSome}
use Rattle.std.proofs.lemmas.Bool.{true≢false}
use Rattle.std.proofs.lemmas.Option.{same_Some}
use Rattle.dsr_envelope.specs.Pick.{IsPick}
use Rattle.dsr_replica.specs.Conduct.{envelope_to}
use Rattle.dsr_replica.specs.Shown.{shown_choice}
use Rattle.dsr_check.specs.Support.Party.{choice_by}
use Rattle.dsr_check.proofs.party.sends.Goals as goal
use Rattle.dsr_check.proofs.Showing.{ours_gives}

pub returns-then-not-allows-clause-not : goal.returns-then-not-allows-clause-not
returns-then-not-allows-clause-not c log me stands next =
    let r = c.args.replica.now in
    let x = c.args.envelope.now in
    let shown = subst (λ s. IsPick (shown_choice s c.args.me.now c.args.to x)
    → choice_by c.in_ok-clients.clients ≡ shown_choice s c.args.me.now c.args.to x) c.shape-shape.ensures c.in_ok-clients.ensures.shown in
    let gives = ours_gives r.shape c.args.me.now log c.args.to x (choice_by c.in_ok-clients.clients) shown next.0.0 next.0.1 next.0.2 in
    let ours : envelope_to r.shape r.me log c.args.to c.pick_of.result ≡ Some x =
    subst (λ p. envelope_to r.shape r.me log c.args.to p ≡ Some x) (sym c.pick_of.ensures)
    (subst (λ m. envelope_to r.shape m log c.args.to (choice_by c.in_ok-clients.clients) ≡ Some x) (sym me) gives) in
    let allowed = (c.allows.ensures.stands log stands).1 (subst IsSome (sym ours) refl, next.1) in
    true≢false (sym allowed ∙ c.if-not-allows.true)

pub returns-then-not-same-clause-not : goal.returns-then-not-same-clause-not
returns-then-not-same-clause-not c log me stands next =
    let r = c.args.replica.now in
    let x = c.args.envelope.now in
    let shown = subst (λ s. IsPick (shown_choice s c.args.me.now c.args.to x)
    → choice_by c.in_ok-clients.clients ≡ shown_choice s c.args.me.now c.args.to x) c.shape-shape.ensures c.in_ok-clients.ensures.shown in
    let gives = ours_gives r.shape c.args.me.now log c.args.to x (choice_by c.in_ok-clients.clients) shown next.0.0 next.0.1 next.0.2 in
    let ours : envelope_to r.shape r.me log c.args.to c.pick_of-2.result ≡ Some x =
    subst (λ p. envelope_to r.shape r.me log c.args.to p ≡ Some x) (sym c.pick_of-2.ensures)
    (subst (λ m. envelope_to r.shape m log c.args.to (choice_by c.in_ok-clients.clients) ≡ Some x) (sym me) gives) in
    let same = same_Some c.in-Ok.ours x (sym (c.in-Ok.ensures.given log stands) ∙ ours) in
    true≢false (sym (c.same.ensures.1 same) ∙ c.if-not-same.true)

pub returns-clause-sends : goal.returns-clause-sends
returns-clause-sends c log me stands =
    let r = c.args.replica.now in
    let x = c.args.envelope.now in
    let same = c.same.ensures.0 c.if-not-same.false in
    let given = c.in-Ok.ensures.given log stands ∙ ap Some same in
    let below = ((c.allows.ensures.stands log stands).0 c.if-not-allows.false).1 in
    let picks = c.pick_of-2.ensures ∙ sym c.pick_of-3.ensures in
    let posted = c.posted.ensures.stands log x stands (subst (λ p. envelope_to r.shape r.me log c.args.to p ≡ Some x) picks given) in (
      (c.pick_of-2.result, c.in-Ok.ensures.pick, subst (λ m. envelope_to r.shape m log c.args.to c.pick_of-2.result ≡ Some x) me given),
      below,
      posted,
    )

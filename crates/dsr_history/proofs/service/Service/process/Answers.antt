use Rattle.std.proofs.Common.{◌≡◌, ◌<◌, ◌∷◌, true, false, length, refl, sym, ◌∙◌, ap, subst, arith, rules}
use Rattle.dsr_register.specs.Values.{answer_after}
use Rattle.dsr_register.specs.Table.{StandsFor}
use Rattle.dsr_history.specs.History.{rises_above, acting}
use Rattle.dsr_history.specs.Support.Service.{IsAfter}
use Rattle.dsr_history.specs.contracts.service.Service.{the_view}
use Rattle.dsr_history.proofs.ServiceLemmas.{service_rises, service_falls, service_after, stays_after, comes_after}
use Rattle.dsr_history.proofs.service.Service.process.Goals as goal

pub returns-then-not-acts-clause-when : goal.returns-then-not-acts-clause-when
returns-then-not-acts-clause-when c older m =
    let idle : c.acts.result ≡ false = c.if-not-acts.true in
    let falls : rises_above c.args.request.now older ≡ false =
    service_falls c.args.self.now c.args.request.now older c.client-client.result c.number-number.result c.client-client.ensures c.number-number.ensures.same
    c.number-number.ensures.some (λ acts. let does : c.acts.result ≡ true = c.acts.ensures.1 (search (rules, acts)) in cc) m in
    (λ some. cc, λ rises. cc)

pub returns-then-not-acts-clause-processed : goal.returns-then-not-acts-clause-processed
returns-then-not-acts-clause-processed c older m =
    let idle : c.acts.result ≡ false = c.if-not-acts.true in
    stays_after c.args.self.now c.args.request.now older m
    (service_falls c.args.self.now c.args.request.now older c.client-client.result c.number-number.result c.client-client.ensures c.number-number.ensures.same
    c.number-number.ensures.some (λ acts. let does : c.acts.result ≡ true = c.acts.ensures.1 (search (rules, acts)) in cc) m)

pub returns-clause-when : goal.returns-clause-when
returns-clause-when c older m =
    let rises : rises_above c.args.request.now older ≡ true =
    service_rises (the_view c.self.inside) c.args.request.now older c.client-client.result c.number-number.result c.client-client.ensures c.number-number.ensures.same
    (c.acts.ensures.0 c.if-not-acts.false) (subst (λ s. IsAfter s (acting older)) (sym c.self.view_is) m) in
    (λ some. rises, λ is. refl)

pub returns-clause-processed : goal.returns-clause-processed
returns-clause-processed c older m =
    let before : IsAfter (the_view c.self.inside) (acting older) = subst (λ s. IsAfter s (acting older)) (sym c.self.view_is) m in
    let within : c.args.request.now.client < length c.self.inside.ledger = omega (arith, c.requires.client, ap (λ s. length s.replies) c.self.view_is) in
    comes_after _ c.args.request.now older
    (service_after (the_view c.self.inside) _ (acting older) c.args.request.now c.apply-answer.result c.number-number.result c.self.inside.count c.client-client.result
    before c.number-number.ensures.same c.client-client.ensures within refl
    (λ ops stands. c.apply-answer.ensures.answer ops stands ∙ ap (answer_after ops) c.op.ensures.same)
    (λ ops stands. subst (λ op. StandsFor c.apply-answer.new.self (op ∷ ops)) c.op.ensures.same (c.apply-answer.ensures.change ops stands))
    c.note.ensures
    refl)
    (service_rises (the_view c.self.inside) c.args.request.now older c.client-client.result c.number-number.result c.client-client.ensures c.number-number.ensures.same
    (c.acts.ensures.0 c.if-not-acts.false) before)

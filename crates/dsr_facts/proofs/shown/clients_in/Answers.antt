use Rattle.std.proofs.Common.{◌≡◌, ◌∙◌, List, ap, map}
use Rattle.std.proofs.lemmas.List.{take_all}
use Rattle.std.proofs.lemmas.Result.{IfOk-from_err}
use Rattle.dsr_request.specs.declared.request.Request.{Request}
use Rattle.dsr_chain.specs.declared.signed_request.SignedRequest.{SignedRequest}
use Rattle.dsr_facts.proofs.Showing.{choice_made, none_made}
use Rattle.dsr_facts.proofs.shown.clients_in.Goals.{After-drop-clients-2}
use Rattle.dsr_facts.proofs.shown.clients_in.Goals as goal

pub returns-in_err-clients-clause-shown : goal.returns-in_err-clients-clause-shown
returns-in_err-clients-clause-shown c _ = IfOk-from_err c.from_residual.result _ c.from_residual.ensures.0

pub returns-in_err-clients-clause-plain : goal.returns-in_err-clients-clause-plain
returns-in_err-clients-clause-plain c _ = IfOk-from_err c.from_residual.result _ c.from_residual.ensures.0

pub returns-in_err-push-clause-shown : goal.returns-in_err-push-clause-shown
returns-in_err-push-clause-shown c _ = IfOk-from_err c.from_residual-in_err-push.result _ c.from_residual-in_err-push.ensures.0

pub returns-in_err-push-clause-plain : goal.returns-in_err-push-clause-plain
returns-in_err-push-clause-plain c _ = IfOk-from_err c.from_residual-in_err-push.result _ c.from_residual-in_err-push.ensures.0

-- the list holds the clients of all requests
all_clients : (c : After-drop-clients-2)
    → c.as_slice.result.now ≡ map (λ (r : Request). r.client) (map (λ (ask : SignedRequest). ask.request) c.args.asks.now)
all_clients c =
    c.as_slice.ensures.value ∙ c.loop-ask.invariant
    ∙ ap (λ (asks : List SignedRequest). map (λ (r : Request). r.client) (map (λ (ask : SignedRequest). ask.request) asks))
    (take_all c.loop-ask.ask-index c.args.asks.now c.loop-ask-test.false)

pub returns-clause-shown : goal.returns-clause-shown
returns-clause-shown c = choice_made _ c.as_slice.result.now c.of.result (all_clients c) c.of.ensures.some c.of.ensures.when

pub returns-clause-plain : goal.returns-clause-plain
returns-clause-plain c = none_made _ c.as_slice.result.now c.of.result (all_clients c) c.of.ensures.when

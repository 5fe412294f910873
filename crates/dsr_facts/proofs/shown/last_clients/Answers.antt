use Rattle.std.proofs.Common.{◌≡◌, map, sym, ap, ◌∙◌, subst}
use Rattle.std.specs.Prelude.{IfOk}
use Rattle.dsr_request.specs.Request.{Request}
use Rattle.dsr_chain.specs.declared.signed_request.SignedRequest.{SignedRequest}
use Rattle.dsr_chain.specs.Content.{signed_in}
use Rattle.dsr_chain.specs.declared.slot_value.SlotValue.TheVariants.{Idle}
use Rattle.dsr_envelope.specs.Pick.{IsPick}
use Rattle.dsr_envelope.specs.declared.pick.Pick.TheVariants.{Plain}
use Rattle.dsr_replica.specs.Shown.{choice_of}
use Rattle.dsr_facts.specs.Fault.{choice_by}
use Rattle.dsr_facts.proofs.Showing.{last_is}
use Rattle.dsr_facts.proofs.shown.last_clients.Goals as goal

pub returns-in-len1-up-clause-shown : goal.returns-in-len1-up-clause-shown
returns-in-len1-up-clause-shown c =
    let value = last_is Idle c.args.chains.now c.last-item.result c.in-len1-up.len_at_least c.last-item.is in
    let asks = c.signed.ensures.same in
    subst (λ v. IsPick (choice_of (map (λ (r : Request). r.client) (map (λ (a : SignedRequest). a.request) v)))
    → IfOk c.clients_in.result (λ clients. choice_by clients ≡ choice_of (map (λ (r : Request). r.client) (map (λ (a : SignedRequest). a.request) v))))
    (asks ∙ ap signed_in (sym value)) c.clients_in.ensures.shown

pub returns-in-len1-up-clause-plain : goal.returns-in-len1-up-clause-plain
returns-in-len1-up-clause-plain c =
    let value = last_is Idle c.args.chains.now c.last-item.result c.in-len1-up.len_at_least c.last-item.is in
    let asks = c.signed.ensures.same in
    subst (λ v. (IsPick (choice_of (map (λ (r : Request). r.client) (map (λ (a : SignedRequest). a.request) v))) → ⊥)
    → IfOk c.clients_in.result (λ clients. choice_by clients ≡ Plain)) (asks ∙ ap signed_in (sym value)) c.clients_in.ensures.plain

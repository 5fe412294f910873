use Rattle.std.proofs.Common.{◌≡◌, ◌-◌, List, length, refl, sym, subst, take, drop}
use Rattle.std.specs.Prelude.{IfSome, IfNone}
use Rattle.dsr_base.specs.Member.{here, there}
use Rattle.dsr_desk.specs.Signature.{Signature, signed}
use Rattle.dsr_chain.specs.Chain.{Chain}
use Rattle.dsr_envelope.specs.Envelope.{IsOn}
use Rattle.dsr_script.specs.Held.{IsHeldOrKnown}
use Rattle.dsr_script.specs.Support.Carried.{IsOnOne}
use Rattle.dsr_script.proofs.ForgedLemmas.{parts, some_weaker, none_weaker, where_none, on_more}
use Rattle.dsr_script.proofs.forged.+forged_in_chains.Goals as goal

pub returns-in-Some-clause-carried : goal.returns-in-Some-clause-carried
returns-in-Some-clause-carried t c =
    let f = c.in-Some.forged in
    let is = parts c.args.chains.now c.first-item.result c.in-len1-up.len_at_least c.first-item.is in
    subst (λ (l : List Chain). IsOnOne l (signed f.signer f.statement)) (sym is) (c.first-item.result, here refl, c.in-Some.ensures.carried)

pub returns-in_default-clause-carried : goal.returns-in_default-clause-carried
returns-in_default-clause-carried t c =
    let chains = c.args.chains.now in
    let rest = take (length chains - 1) (drop 1 chains) in
    let is = parts chains c.first-item.result c.in-len1-up.len_at_least c.first-item.is in
    subst (λ (l : List Chain). IfSome c.forged_in_chains.result (λ f. IsOnOne l (signed f.signer f.statement))) (sym is)
    (some_weaker c.forged_in_chains.result (λ f. IsOnOne rest (signed f.signer f.statement)) _ (λ f on. (on.0, there on.1, on.2))
    c.forged_in_chains.ensures.carried)

pub returns-in_default-clause-none : goal.returns-in_default-clause-none
returns-in_default-clause-none t c =
    let chains = c.args.chains.now in
    let P = IsHeldOrKnown c.args.keys.now c.args.known.now.signatures in
    let rest = take (length chains - 1) (drop 1 chains) in
    let is = parts chains c.first-item.result c.in-len1-up.len_at_least c.first-item.is in
    let first = where_none c.forged_in_chain.result ((s : Signature) → IsOn s c.first-item.result → P s) c.in_default.is c.forged_in_chain.ensures.none in
    subst (λ (l : List Chain). IfNone c.forged_in_chains.result ((s : Signature) → IsOnOne l s → P s)) (sym is)
    (none_weaker c.forged_in_chains.result ((s : Signature) → IsOnOne rest s → P s) _
    (λ others. on_more P c.first-item.result rest first others) c.forged_in_chains.ensures.none)

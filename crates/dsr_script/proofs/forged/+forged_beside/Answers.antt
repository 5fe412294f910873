use Rattle.std.proofs.Common.{◌≡◌, ◌-◌, List, length, map, sym, subst, take, drop}
use Rattle.std.specs.Prelude.{IfSome, IfNone}
use Rattle.dsr_base.specs.Member.{In, here, there}
use Rattle.dsr_desk.specs.Signature.{Signature, signed}
use Rattle.dsr_script.specs.Held.{IsHeldOrKnown}
use Rattle.dsr_script.specs.declared.said.SaidRequest.{SaidRequest}
use Rattle.dsr_script.proofs.ForgedLemmas.{parts, some_weaker, none_weaker, where_none, each_more}
use Rattle.dsr_script.proofs.forged.+forged_beside.Goals as goal

pub returns-in-Some-clause-carried : goal.returns-in-Some-clause-carried
returns-in-Some-clause-carried t c =
    let f = c.in-Some.forged in
    let is = parts c.args.asks.now c.first-item.result c.in-len1-up.len_at_least c.first-item.is in
    subst (λ (l : List SaidRequest). In (signed f.signer f.statement) (map (λ r. r.signature) l)) (sym is) (here c.in-Some.ensures.carried)

pub returns-in_default-clause-carried : goal.returns-in_default-clause-carried
returns-in_default-clause-carried t c =
    let asks = c.args.asks.now in
    let rest = take (length asks - 1) (drop 1 asks) in
    let is = parts asks c.first-item.result c.in-len1-up.len_at_least c.first-item.is in
    subst (λ (l : List SaidRequest). IfSome c.forged_beside.result (λ f. In (signed f.signer f.statement) (map (λ r. r.signature) l))) (sym is)
    (some_weaker c.forged_beside.result (λ f. In (signed f.signer f.statement) (map (λ r. r.signature) rest)) _ (λ f inside. there inside)
    c.forged_beside.ensures.carried)

pub returns-in_default-clause-none : goal.returns-in_default-clause-none
returns-in_default-clause-none t c =
    let asks = c.args.asks.now in
    let P = IsHeldOrKnown c.args.keys.now c.args.known.now.signatures in
    let rest = take (length asks - 1) (drop 1 asks) in
    let is = parts asks c.first-item.result c.in-len1-up.len_at_least c.first-item.is in
    let first = where_none c.forged_request.result (P c.first-item.result.signature) c.in_default.is c.forged_request.ensures.none in
    subst (λ (l : List SaidRequest). IfNone c.forged_beside.result ((s : Signature) → In s (map (λ r. r.signature) l) → P s)) (sym is)
    (none_weaker c.forged_beside.result ((s : Signature) → In s (map (λ r. r.signature) rest) → P s) _
    (λ others. each_more P c.first-item.result.signature (map (λ r. r.signature) rest) first others) c.forged_beside.ensures.none)

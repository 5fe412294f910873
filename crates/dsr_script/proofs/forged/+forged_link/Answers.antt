use Rattle.std.proofs.Common.{◌≡◌, ◌-◌, true, List, [], ◌∷◌, ◌++◌, length, ap, sym, ◌∙◌, subst, take, drop}
use Rattle.std.specs.Prelude.{IfSome, IfNone}
use Rattle.dsr_base.specs.Member.{In, here, there}
use Rattle.dsr_desk.specs.Signature.{Signature, signed}
use Rattle.dsr_desk.specs.declared.statement.Statement.TheVariants.{Link}
use Rattle.dsr_script.specs.Held.{IsHeldOrKnown}
use Rattle.dsr_script.specs.SignatureText.{Spelled}
use Rattle.dsr_script.specs.Support.Links.{said_in, said_by}
use Rattle.dsr_script.proofs.ForgedLemmas.{parts, some_weaker, none_weaker, each_more}
use Rattle.dsr_script.proofs.forged.+forged_link.Goals as goal

pub returns-then-not-is_link_held-clause-carried : goal.returns-then-not-is_link_held-clause-carried
returns-then-not-is_link_held-clause-carried t c =
    let f = c.forged_of.result in
    let x = c.link-item.result in
    let said = c.said_in.ensures ∙ ap (λ fitting. said_in fitting x) c.link_at-fitting.ensures in
    let is = parts c.args.links.now x c.in-len1-up.len_at_least c.link-item.is in
    subst (λ (l : List Spelled). In (signed f.signer f.statement) (said_by c.args.slot c.args.content.now c.args.before.now l)) (sym is)
    (here (sym said ∙ sym c.forged_of.ensures))

pub returns-then-not-is_link_held-clause-forged : goal.returns-then-not-is_link_held-clause-forged
returns-then-not-is_link_held-clause-forged t c held =
    let x = c.link-item.result in
    let P = IsHeldOrKnown c.args.keys.now c.args.known.now.signatures in
    let said = c.said_in.ensures ∙ ap (λ fitting. said_in fitting x) c.link_at-fitting.ensures in
    let yes : c.is_link_held.result ≡ true = c.is_link_held.ensures.1 (subst P (c.forged_of.ensures ∙ said) held) in
    let no = c.if-not-is_link_held.true in
    absurd cc

pub returns-else-not-is_link_held-clause-carried : goal.returns-else-not-is_link_held-clause-carried
returns-else-not-is_link_held-clause-carried t c =
    let links = c.args.links.now in
    let x = c.link-item.result in
    let rest = take (length links - 1) (drop 1 links) in
    let is = parts links x c.in-len1-up.len_at_least c.link-item.is in
    let after : c.push.new.self ≡ c.args.before.now ++ x.signer ∷ [] = c.push.ensures ∙ ap (λ a. c.args.before.now ++ a ∷ []) c.signer.ensures in
    subst (λ (l : List Spelled). IfSome c.forged_link.result (λ f. In (signed f.signer f.statement) (said_by c.args.slot c.args.content.now c.args.before.now l))) (sym is)
    (some_weaker c.forged_link.result (λ f. In (signed f.signer f.statement) (said_by c.args.slot c.args.content.now (c.args.before.now ++ x.signer ∷ []) rest)) _
    (λ f inside. there inside)
    (subst (λ b. IfSome c.forged_link.result (λ f. In (signed f.signer f.statement) (said_by c.args.slot c.args.content.now b rest))) after c.forged_link.ensures.carried))

pub returns-else-not-is_link_held-clause-none : goal.returns-else-not-is_link_held-clause-none
returns-else-not-is_link_held-clause-none t c =
    let links = c.args.links.now in
    let x = c.link-item.result in
    let P = IsHeldOrKnown c.args.keys.now c.args.known.now.signatures in
    let rest = take (length links - 1) (drop 1 links) in
    let is = parts links x c.in-len1-up.len_at_least c.link-item.is in
    let after : c.push.new.self ≡ c.args.before.now ++ x.signer ∷ [] = c.push.ensures ∙ ap (λ a. c.args.before.now ++ a ∷ []) c.signer.ensures in
    let first = c.is_link_held.ensures.0 c.if-not-is_link_held.false in
    subst (λ (l : List Spelled). IfNone c.forged_link.result ((s : Signature) → In s (said_by c.args.slot c.args.content.now c.args.before.now l) → P s)) (sym is)
    (none_weaker c.forged_link.result ((s : Signature) → In s (said_by c.args.slot c.args.content.now (c.args.before.now ++ x.signer ∷ []) rest) → P s) _
    (λ others. each_more P (said_in (Link c.args.slot c.args.content.now c.args.before.now) x)
    (said_by c.args.slot c.args.content.now (c.args.before.now ++ x.signer ∷ []) rest) first others)
    (subst (λ b. IfNone c.forged_link.result ((s : Signature) → In s (said_by c.args.slot c.args.content.now b rest) → P s)) after c.forged_link.ensures.none))

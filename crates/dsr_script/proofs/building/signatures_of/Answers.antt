use Rattle.std.proofs.Common.{◌≡◌, ◌+◌, [], ◌∷◌, ◌++◌, ap, sym, ◌∙◌, subst, drop, rules, arith, length-append, append_assoc}
use Rattle.std.proofs.lemmas.List.{drop_more}
use Rattle.dsr_desk.specs.declared.statement.Statement.TheVariants.{Link}
use Rattle.dsr_script.specs.Held.{IsHeldOrKnown}
use Rattle.dsr_script.specs.Support.Links.{said_in, said_by}
use Rattle.dsr_script.specs.Support.Said.{said_of}
use Rattle.dsr_script.proofs.BriefLemmas.{HeldOn, held_on, first_held}
use Rattle.dsr_script.proofs.building.signatures_of.Goals as goal

pub signature_of-requires : goal.signature_of-requires
signature_of-requires c =
    let P = IsHeldOrKnown c.args.keys.now c.args.known.now.signatures in
    let i = c.loop-link.link-index in
    let links = c.args.links.now in
    let x = c.link-item.result in
    let left : drop i links ≡ x ∷ drop (i + 1) links = drop_more links i x c.loop-link-test.true ∙ ap (λ y. y ∷ drop (i + 1) links) (sym c.link-item.is) in
    let held = subst (HeldOn c.args.slot c.args.content.now P links c.loop-link.before) left c.loop-link.invariant.held in
    let said : said_of c.said_in.result ≡ said_in (Link c.args.slot c.args.content.now c.loop-link.before) x =
    c.said_in.ensures ∙ ap (λ fitting. said_in fitting x) c.link_at-fitting.ensures in
    subst P (sym said) (first_held c.args.slot c.args.content.now P links c.loop-link.before x (drop (i + 1) links) held c.requires.held)

pub loop-link-preserved : goal.loop-link-preserved
loop-link-preserved c =
    let P = IsHeldOrKnown c.args.keys.now c.args.known.now.signatures in
    let slot = c.args.slot in
    let content = c.args.content.now in
    let i = c.loop-link.link-index in
    let links = c.args.links.now in
    let before = c.loop-link.before in
    let done = c.loop-link.signatures.items in
    let x = c.link-item.result in
    let one = said_in (Link slot content before) x in
    let left : drop i links ≡ x ∷ drop (i + 1) links = drop_more links i x c.loop-link-test.true ∙ ap (λ y. y ∷ drop (i + 1) links) (sym c.link-item.is) in
    let held = subst (HeldOn slot content P links before) left c.loop-link.invariant.held in
    let said : said_of c.said_in.result ≡ one = c.said_in.ensures ∙ ap (λ fitting. said_in fitting x) c.link_at-fitting.ensures in
    let pushed_result : c.push.new.self.items ≡ done ++ c.signature_of.result ∷ [] = search rules in
    let pushed : c.push.new.self.items ≡ done ++ one ∷ [] = pushed_result ∙ ap (λ s. done ++ s ∷ []) (c.signature_of.ensures ∙ said) in
    let signed : c.push-in-loop-link.new.self ≡ before ++ x.signer ∷ [] = c.push-in-loop-link.ensures ∙ ap (λ a. before ++ a ∷ []) c.signer.ensures in
    record {
      made = rw (pushed, signed)
          (append_assoc done (one ∷ []) (said_by slot content (before ++ x.signer ∷ []) (drop (i + 1) links))
          ∙ (ap (λ rest. done ++ said_by slot content before rest) (sym left) ∙ c.loop-link.invariant.made));
      held = rw signed
          (held_on slot content P links before x (drop (i + 1) links) held
          (first_held slot content P links before x (drop (i + 1) links) held c.requires.held));
      signatures = rw pushed (simp length-append (omega (arith, c.loop-link.invariant.signatures)));
      signers = rw signed (simp length-append (omega (arith, c.loop-link.invariant.signers)));
    }

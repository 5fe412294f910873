use Rattle.std.proofs.Common.{◌≡◌, ◌+◌, [], ◌∷◌, ◌++◌, true, ap, sym, ◌∙◌, subst, drop, arith, length-append}
use Rattle.std.proofs.lemmas.List.{drop_more}
use Rattle.dsr_script.specs.Held.{IsHeldOrKnown}
use Rattle.dsr_script.proofs.BriefLemmas.{HeldOn, held_on, first_held}
use Rattle.dsr_script.proofs.building.are_links_held_in.Goals as goal

pub returns-then-not-is_link_held : goal.returns-then-not-is_link_held
returns-then-not-is_link_held c =
    let P = IsHeldOrKnown c.args.keys.now c.args.known.now.signatures in
    let i = c.loop-link.link-index in
    let links = c.args.links.now in
    let x = c.link-item.result in
    let left : drop i links ≡ x ∷ drop (i + 1) links = drop_more links i x c.loop-link-test.true ∙ ap (λ y. y ∷ drop (i + 1) links) (sym c.link-item.is) in
    let held = subst (HeldOn c.args.slot c.args.content.now P links c.loop-link.before) left c.loop-link.invariant.held in (
      λ h. absurd cc,
      λ all.
          let yes : c.is_link_held.result ≡ true =
          c.is_link_held.ensures.1 (first_held c.args.slot c.args.content.now P links c.loop-link.before x (drop (i + 1) links) held all) in
          let no = c.if-not-is_link_held.true in
          absurd cc,
    )

pub loop-link-preserved : goal.loop-link-preserved
loop-link-preserved c =
    let P = IsHeldOrKnown c.args.keys.now c.args.known.now.signatures in
    let i = c.loop-link.link-index in
    let links = c.args.links.now in
    let x = c.link-item.result in
    let left : drop i links ≡ x ∷ drop (i + 1) links = drop_more links i x c.loop-link-test.true ∙ ap (λ y. y ∷ drop (i + 1) links) (sym c.link-item.is) in
    let held = subst (HeldOn c.args.slot c.args.content.now P links c.loop-link.before) left c.loop-link.invariant.held in
    let signed : c.push.new.self ≡ c.loop-link.before ++ x.signer ∷ [] = c.push.ensures ∙ ap (λ a. c.loop-link.before ++ a ∷ []) c.signer.ensures in
    record {
      held = rw signed
          (held_on c.args.slot c.args.content.now P links c.loop-link.before x (drop (i + 1) links) held
          (c.is_link_held.ensures.0 c.if-not-is_link_held.false));
      signers = rw signed (simp length-append (omega (arith, c.loop-link.invariant.signers)));
    }

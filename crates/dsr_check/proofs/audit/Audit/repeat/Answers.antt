use Rattle.std.proofs.Common.{◌≡◌, ◌<◌, ◌∷◌, ◌∙◌, Some, None, length, ap₂, sym, subst, arith}
use Rattle.std.specs.Prelude.{IfSome, slice_index_or, slice_set}
use Rattle.std.proofs.lemmas.List.{get_or_default}
use Rattle.dsr_base.specs.Boxes.{box_at, with_box, with_item}
use Rattle.dsr_names.specs.declared.actor.Actor.TheVariants.{Replica}
use Rattle.dsr_envelope.specs.declared.entry.Entry.TheVariants.{Post}
use Rattle.dsr_envelope.specs.declared.pick.Pick.TheVariants.{Plain}
use Rattle.dsr_run.specs.Step.{log_of}
use Rattle.dsr_check.specs.Support.Audit.{AreParts}
use Rattle.dsr_check.specs.declared.held.Held.{Held}
use Rattle.dsr_check.proofs.Auditing.{parts_again, plays_at}
use Rattle.dsr_check.proofs.Playing.{can_post_loyal}
use Rattle.dsr_check.proofs.audit.Audit.repeat.Goals as goal

pub returns-clause-next : goal.returns-clause-next
returns-clause-next c run are =
    let a = c.args.self.now in
    let p = c.args.from in
    let q = c.args.to in
    let x = c.args.draft.now in
    let made = c.in-Some.envelope in
    let held : Held = record { envelope = made; draft = c.args.draft } in
    let found = subst (λ o. IfSome o (λ envelope. (first : Held) × (c.index.result.now ≡ Some first) × (first.draft.now ≡ x) × (envelope ≡ first.envelope))) c.in-Some.is
    c.in_ok-envelope.ensures.copy in
    let first = found.0 in
    let long : p < length a.firsts.items = let count = are.kept.count in let inside = c.requires.from in omega (arith, count, inside) in
    let kept : slice_index_or a.firsts.items p None ≡ Some first =
    sym (get_or_default a.firsts.items p c.index.result.now None long)
    ∙ (sym (subst (λ k. c.index.result.now ≡ slice_index_or a.firsts.items k c.index.result.now) c.number.ensures.same c.index.ensures) ∙ found.1) in
    let recorded : x ≡ made = sym found.2 ∙ ((are.kept.last (Replica p) c.requires.from first kept).0 ∙ sym found.3) in
    let plays = plays_at a.shape run a.parties.items a.boxes a.notary.items a.keys.items a.known.signatures a.firsts.items are (Replica p) c.index_mut.result.now
    c.number.result c.number.ensures.same c.requires.from c.index_mut.ensures.value in
    let before = plays_at a.shape run a.parties.items a.boxes a.notary.items a.keys.items a.known.signatures a.firsts.items are (Replica p) c.index-2.result.now
    c.number.result c.number.ensures.same c.requires.from c.index-2.ensures in
    let honest = can_post_loyal a.shape p q Plain (log_of run (Replica p)) c.index-2.result.now before (c.can_repeat.ensures.0 c.if-not-can_repeat.false) in
    let rows_are : c.put.new.self ≡ with_box a.boxes p q (with_item (box_at a.boxes p q) held) =
    c.put.ensures ∙ ap₂ (λ k l. with_box a.boxes k l (with_item (box_at a.boxes k l) held)) c.number.ensures.same c.number-2.ensures.same in
    let parts = parts_again a.shape run a.parties.items a.boxes a.notary.items a.keys.items a.known.signatures a.firsts.items are p q held first c.posted.new.self
    c.put.new.self honest c.requires.from c.requires.to c.requires.later c.requires.open kept recorded found.3 rows_are
    (λ only. c.posted.ensures.posts a.shape p (log_of run (Replica p)) made plays tt only) in
    subst (λ e. AreParts a.shape ((Replica p, Post (Replica q) e) ∷ run) (slice_set a.parties.items c.number.result c.posted.new.self) c.put.new.self a.notary.items
    a.keys.items a.known.signatures a.firsts.items) (sym recorded)
    (subst (λ k. AreParts a.shape ((Replica p, Post (Replica q) made) ∷ run) (slice_set a.parties.items k c.posted.new.self) c.put.new.self a.notary.items
    a.keys.items a.known.signatures a.firsts.items) (sym c.number.ensures.same) parts)

use Rattle.std.proofs.Common.{◌≡◌, ◌↔◌, ◌⊎◌, ◌∷◌, sym, subst, ap, ◌∙◌}
use Rattle.std.specs.Prelude.{Any, slice_set}
use Rattle.dsr_base.specs.Member.{In}
use Rattle.dsr_envelope.specs.Envelope.{Carries}
use Rattle.dsr_envelope.specs.declared.entry.Entry.TheVariants.{Post}
use Rattle.dsr_run.specs.Step.{log_of}
use Rattle.dsr_check.specs.Support.Audit.{AreFirsts, AreParts, with_first}
use Rattle.dsr_check.proofs.Auditing.{knows_after, parts_posted_at}
use Rattle.dsr_check.proofs.Repeating.{firsts_posted}
use Rattle.dsr_check.proofs.audit.Audit.deliver.Goals as goal

pub returns-clause-next : goal.returns-clause-next
returns-clause-next c run parties h =
    let a = c.args.self.now in
    let from = c.args.from.now in
    let to = c.args.to.now in
    let held = c.args.held in
    let knows = knows_after a.shape run parties a.boxes a.notary.items a.keys.items a.known.signatures a.firsts.items h.before from to held.envelope c.learn.new.known.signatures
    h.actor h.keeps
    (λ loyal first holder is s. subst (λ e. In s c.learn.new.known.signatures ↔ (In s a.known.signatures ⊎ Carries e s)) c.envelope.ensures
    (c.in_ok-learn.ensures.learned loyal first holder (subst (Any (λ h. h ≡ holder)) (sym c.as_slice.ensures.value) is) s))
    (λ same. c.in_ok-learn.ensures.stays same) in
    let kept = subst (AreFirsts a.shape (log_of ((from, Post to held.envelope) ∷ run)))
    (ap (λ k. with_first a.firsts.items k c.in_ok-first.first) (sym c.place-poster.ensures) ∙ sym c.keep_first.ensures)
    (firsts_posted a.shape run a.firsts.items h.before.kept from to held c.in_ok-first.first h.recorded h.actor c.in_ok-first.ensures.first) in
    let parts = parts_posted_at a.shape run parties a.boxes a.notary.items a.keys.items a.known.signatures a.firsts.items h.before from to held h.party
    c.learn.new.known.signatures c.keep_first.new.firsts.items c.place-poster.result c.place-taker.result c.put.new.self c.place-poster.ensures c.place-taker.ensures h.actor h.other
    h.opened h.recorded h.within h.unforged c.put.ensures (h.keeps, h.plays) knows kept in
    subst (λ ps. AreParts a.shape ((from, Post to held.envelope) ∷ run) ps c.put.new.self a.notary.items a.keys.items c.learn.new.known.signatures c.keep_first.new.firsts.items)
    (ap (λ k. slice_set parties k h.party) c.place-poster.ensures ∙ sym h.after) parts

use Rattle.std.proofs.Common.{◌∷◌, ap, sym, ◌∙◌, subst}
use Rattle.dsr_names.specs.Places.{place_of}
use Rattle.dsr_names.specs.Shape.{IsActor}
use Rattle.dsr_base.specs.Boxes.{box_at, with_box, without_item}
use Rattle.dsr_envelope.specs.Log.{posted_to, taken_from}
use Rattle.dsr_envelope.specs.declared.entry.Entry.TheVariants.{Take}
use Rattle.dsr_run.specs.Run.{KeepsBox, other_of}
use Rattle.dsr_run.specs.Step.{log_of}
use Rattle.dsr_record.specs.Support.Merging.{AreBoxes}
use Rattle.dsr_record.proofs.MergeBoxes.{boxes_taken, box_holds}
use Rattle.dsr_record.proofs.mailboxes.move_envelope.Goals as goal

pub returns-in-Take : goal.returns-in-Take
returns-in-Take c run boxes keeps =
    let shape = c.args.shape.now in
    let rows = c.args.boxes.now in
    let a = c.args.actor.now in
    let from = c.in-Take.from in
    let held = c.take-held.result in
    let places = c.place-in-Take.ensures in
    let own = c.place-in-Take-2.ensures in
    let taken = subst (KeepsBox (log_of run) a) c.in-Take.is keeps in
    let other = subst (λ e. IsActor shape (other_of e)) c.in-Take.is c.requires.other in
    let full = sym (λ i. (box_at rows (places i) (own i)).item) ∙ c.take-held.ensures.item in
    let rest = c.take-held.ensures.rest ∙ (λ i. with_box rows (places i) (own i) (without_item (box_at rows (places i) (own i)))) in
    let same = box_holds (box_at rows (place_of shape from) (place_of shape a)) held c.in-Take.envelope (posted_to a (log_of run from)) (taken_from from (log_of run a))
    full (boxes.each from a other c.requires.is_actor) taken in
    let after = boxes_taken shape run rows a from held boxes c.requires.is_actor other full in
    subst (AreBoxes shape (log_of ((a, c.args.entry.now) ∷ run))) (sym rest)
    (subst (λ e. AreBoxes shape (log_of ((a, e) ∷ run)) (with_box rows (place_of shape from) (place_of shape a) (without_item (box_at rows (place_of shape from) (place_of shape a)))))
    (ap (Take from) same ∙ sym c.in-Take.is) after)

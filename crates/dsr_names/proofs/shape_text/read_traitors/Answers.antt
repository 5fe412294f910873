use Rattle.std.proofs.Common.{◌∙◌, ap, sym, subst}
use Rattle.std.proofs.lemmas.Bool.{false≢true}
use Rattle.dsr_names.specs.Support.ReplicaSets.{bits_with}
use Rattle.dsr_names.specs.ShapeText.{replicas_of}
use Rattle.dsr_names.proofs.ReplicaSets.{ReadsSet, no_list, its_list, another_list}
use Rattle.dsr_names.proofs.shape_text.read_traitors.Goals as goal

pub returns-in_err-spelled : goal.returns-in_err-spelled
returns-in_err-spelled c = subst (ReadsSet c.args.bytes.now) (sym c.from_residual.ensures) (no_list c.args.bytes.now c.in_err-spelled.ensures)

pub returns-then-same : goal.returns-then-same
returns-then-same c =
    its_list c.args.bytes.now c.in_ok-spelled.spelled c.bits_of-bits.result c.bits_of-bits.ensures.fits c.in_ok-spelled.ensures
    (c.bits_of-bits.ensures.set ∙ ap (bits_with 0) c.as_slice.ensures.same) (sym c.replicas_in.ensures ∙ c.same.ensures.0 c.if-same.true)

-- the list of the set is another
pub returns-else-same : goal.returns-else-same
returns-else-same c =
    let set = c.bits_of-bits.ensures.set ∙ ap (bits_with 0) c.as_slice.ensures.same in
    another_list c.args.bytes.now c.in_ok-spelled.spelled c.in_ok-spelled.ensures
    (λ same. false≢true (sym c.if-same.false ∙ c.same.ensures.1 (c.replicas_in.ensures ∙ ap replicas_of set ∙ same)))

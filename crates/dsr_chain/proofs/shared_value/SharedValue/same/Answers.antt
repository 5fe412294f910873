use Rattle.std.proofs.Common.{ap, ◌∙◌}
use Rattle.dsr_chain.specs.Support.SignedLists.{value_of}
use Rattle.dsr_chain.proofs.Sameness.{same_value-Decides}
use Rattle.dsr_chain.proofs.shared_value.SharedValue.same.Goals as goal

pub returns : goal.returns
returns c =
    rw c.eq.ensures
    (same_value-Decides c.as_slice.result.now c.as_slice-2.result.now c.args.self.now c.args.other.now
    (ap value_of (c.as_slice.ensures.value ∙ ap (λ v. v.items) c.deref.ensures) ∙ c.self.view_is)
    (ap value_of (c.as_slice-2.ensures.value ∙ ap (λ v. v.items) c.deref-2.ensures) ∙ c.other.view_is))

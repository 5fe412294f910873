use Rattle.std.proofs.Common.{subst, ◌↔◌}
use Rattle.std.specs.Prelude.{All, IsTrue}
use Rattle.dsr_record.specs.RecordText.{Fits, IsStepOf}
use Rattle.dsr_record.proofs.FitLemmas.{fits}
use Rattle.dsr_record.proofs.record.Record.fits.Goals as goal

pub returns : goal.returns
returns c =
    let all = subst (λ steps. IsTrue c.are_steps_of.result ↔ All (IsStepOf c.self.inside.version) steps) c.as_slice.ensures.value c.are_steps_of.ensures in
    let same = fits c.self.inside.version c.self.inside.shape c.self.inside.entries.items in
    subst (λ r. IsTrue c.are_steps_of.result ↔ Fits r) c.self.view_is (λ h. same.0 (all.0 h), λ h. all.1 (same.1 h))

use Rattle.std.proofs.Common.{refl, sym}
use Rattle.dsr_script.proofs.SpelledLemmas.{fits_said, other_decides}
use Rattle.dsr_script.proofs.brief.Brief.is_said.Goals as goal

-- a text writes another statement if it does not fit
pub returns-in-Some : goal.returns-in-Some
returns-in-Some c = other_decides c.args.fitting.now c.args.self.now c.in-Some.other.now (sym c.in-Some.ensures) c.same.result c.same.ensures

-- and always writes a description without another statement
pub returns-in-None : goal.returns-in-None
returns-in-None c = (λ t. fits_said c.args.fitting.now c.args.self.now (sym c.in-None.ensures), λ e. refl)

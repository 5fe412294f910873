use Rattle.std.proofs.Common.{append_assoc, refl}
use Rattle.dsr_explain.proofs.chain_lines.write_shown_words.Goals as goal

pub returns : goal.returns
returns c = simp (append_assoc, c.put_signers.ensures, c.as_slice.ensures.same, c.signers.ensures, c.put.ensures) refl

use Rattle.std.proofs.Common.{append_assoc, refl}
use Rattle.dsr_explain.proofs.chain_lines.write_words.Goals as goal

pub returns : goal.returns
returns c = simp (append_assoc, c.put.ensures, c.write_end.ensures, c.put_shown.ensures, c.put_numbered.ensures) refl

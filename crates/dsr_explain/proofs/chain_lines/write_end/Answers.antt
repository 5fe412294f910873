use Rattle.std.proofs.Common.{append_assoc, refl}
use Rattle.dsr_explain.proofs.chain_lines.write_end.Goals as goal

pub returns-in-Read : goal.returns-in-Read
returns-in-Read c = simp (append_assoc, c.in-Read.is, c.write_fate_detail.ensures, c.put-in-Read-2.ensures, c.fate_text.ensures, c.put-in-Read.ensures, c.put_numbered.ensures, c.write_fate_content.ensures) refl

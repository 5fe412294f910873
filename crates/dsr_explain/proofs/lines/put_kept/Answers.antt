use Rattle.std.proofs.Common.{append_assoc, refl}
use Rattle.dsr_explain.proofs.lines.put_kept.Goals as goal

pub returns-else-as_data : goal.returns-else-as_data
returns-else-as_data c = simp (append_assoc, c.if-as_data.false, c.write_shown_words.ensures, c.put_numbered-else-as_data.ensures, c.put_content.ensures, c.put.ensures) refl

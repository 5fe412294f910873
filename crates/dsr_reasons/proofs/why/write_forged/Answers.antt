use Rattle.std.proofs.Common.{append_assoc, refl}
use Rattle.dsr_reasons.proofs.why.write_forged.Goals as goal

pub returns-else-as_data : goal.returns-else-as_data
returns-else-as_data c =
    simp (append_assoc, c.if-as_data.false, c.put-else-as_data-4.ensures, c.put_name-else-as_data-2.ensures, c.put-else-as_data-3.ensures, c.put_statement-else-as_data.ensures, c.put-else-as_data-2.ensures, c.put_name-else-as_data.ensures, c.put-else-as_data.ensures) refl

use Rattle.std.proofs.Common.{append_assoc, refl}
use Rattle.dsr_reasons.proofs.why.write_sender.Goals as goal

pub returns-else-as_data : goal.returns-else-as_data
returns-else-as_data c =
    simp (append_assoc, c.if-as_data.false, c.put_name-else-as_data.ensures, c.put-else-as_data-2.ensures, c.put_number-else-as_data.ensures, c.put-else-as_data.ensures) refl

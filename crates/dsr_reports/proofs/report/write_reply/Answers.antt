use Rattle.std.proofs.Common.{append_assoc, refl}
use Rattle.dsr_reports.proofs.report.write_reply.Goals as goal

pub returns : goal.returns
returns c =
    simp (append_assoc, c.put-5.ensures, c.put_answer.ensures, c.put-4.ensures, c.put_number-2.ensures, c.put-3.ensures, c.put_number.ensures, c.put-2.ensures, c.put_name.ensures, c.put.ensures) refl

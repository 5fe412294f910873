use Rattle.std.proofs.Common.{refl}
use Rattle.std.specs.Prelude.{string_bytes}
use Rattle.dsr_explain.proofs.HeadLemmas.{line_of_parts}
use Rattle.dsr_explain.proofs.heads.write_done.Goals as goal

pub returns : goal.returns
returns c =
    line_of_parts c.args.as_data c.args.line _ c.args.number c.args.event.now (string_bytes c.args.shown.now) _ _ _ _ _ _ refl c.ranges.number.fits
    (rw c.then_some.ensures at c.put.ensures) c.put_last.ensures (rw (c.then_some-2.ensures, c.of.ensures, c.actor_of.ensures) at c.put-2.ensures)
    (rw c.other_of.ensures at c.put-3.ensures) c.put_text.ensures

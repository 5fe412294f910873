use Rattle.std.proofs.Common.{◌≡◌, ◌≢◌, ◌∙◌, ap, sym, false, get_or, take}
use Rattle.std.proofs.lemmas.Bool.{true≢false}
use Rattle.dsr_base.specs.Split.{is_inside_with, is_inside_after}
use Rattle.dsr_base.proofs.Outside.{free_more, inside_more}
use Rattle.dsr_base.proofs.split.split_outside.Goals as goal
use Rattle.dsr_base.proofs.split.split_outside.Goals.{else-not-inside-via-then-not-inside+else-bytes-i, else-not-inside-via-else-not-inside}

pub loop-i-preserved : goal.loop-i-preserved
loop-i-preserved c =
    let bytes = c.args.bytes.now in
    let i = c.loop-i.i in
    let other : is_inside_after false (take i bytes) ≡ false → get_or bytes i 0 ≢ c.args.mark =
    λ outside. elim c.else-not-inside.branch [
      | else-not-inside-via-then-not-inside+else-bytes-i w ↦ w.if-bytes-i.false
      | else-not-inside-via-else-not-inside w ↦ absurd (true≢false (sym w.if-not-inside.false ∙ c.loop-i.invariant.inside ∙ outside))
    ] in
    record {
      free = free_more c.args.mark bytes i c.loop-i-test.true c.loop-i.invariant.free other;
      inside = c.inside_with-inside.ensures ∙ ap (λ b. is_inside_with b (get_or bytes i 0)) c.loop-i.invariant.inside ∙ sym (inside_more bytes i c.loop-i-test.true);
    }

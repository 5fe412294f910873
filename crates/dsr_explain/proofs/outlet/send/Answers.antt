use Rattle.std.proofs.Common.{◌≡◌, ◌+◌, ◌-◌, length, take, drop, arith, ◌++◌, ◌∙◌, sym, subst, ap, length-drop}
use Rattle.std.proofs.KnownBytes.{Appends-trans}
use Rattle.std.proofs.Math.Seq.{take-add}
use Rattle.std.proofs.lemmas.List.{take_all}
use Rattle.std.specs.Io.KnownBytes.{Appends}
use Rattle.dsr_explain.proofs.outlet.send.Goals as goal

pub loop-preserved : goal.loop-preserved
loop-preserved g c =
    let bytes = c.args.bytes.now in
    let sent = c.loop.sent in
    let count = c.in-Ok.count in
    let whole : take (length bytes - sent) (drop sent bytes) ≡ drop sent bytes =
    take_all (length bytes - sent) (drop sent bytes) (simp length-drop (omega arith)) in
    let joined : take sent bytes ++ take count (take (length bytes - sent) (drop sent bytes)) ≡ take (sent + count) bytes =
    ap (λ xs. take sent bytes ++ take count xs) whole ∙ sym (take-add sent count bytes) in (
      omega (arith, c.in-Ok.ensures.bound),
      subst (Appends (g.S.Sink.output c.args.sink.now).contents (g.S.Sink.output c.take.new.self).contents) joined
          (Appends-trans _ _ _ _ _ c.loop.invariant.1 c.in-Ok.ensures.appends),
      omega arith,
      omega (arith, c.loop.invariant.3, c.in-Ok.ensures.counted),
    )

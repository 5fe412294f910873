use Rattle.std.proofs.Common.{◌≡◌, ◌+◌, ◌-◌, length, take, drop, arith, ◌++◌, ◌∙◌, sym, subst, ap, length-take, length-drop}
use Rattle.std.proofs.KnownBytes.{Appends-trans}
use Rattle.std.proofs.Math.Seq.{take-add}
use Rattle.std.specs.Io.KnownBytes.{Appends}
use Rattle.std.proofs.lemmas.List.{take_all}
use Rattle.dsr_names.proofs.Sending.{sends_all}
use Rattle.dsr_names.proofs.output.write_output.Goals as goal

pub loop-preserved : goal.loop-preserved
loop-preserved g c =
    let bytes = c.args.bytes.now in
    let sent = c.loop.sent in
    let count = c.in-Ok.count in
    let rest : length (take (length bytes - sent) (drop sent bytes)) ≡ length bytes - sent =
    simp (length-take, length-drop) (omega arith) in
    let whole : take (length bytes - sent) (drop sent bytes) ≡ drop sent bytes =
    take_all (length bytes - sent) (drop sent bytes) (simp length-drop (omega arith)) in
    let joined : take sent bytes ++ take count (take (length bytes - sent) (drop sent bytes)) ≡ take (sent + count) bytes =
    ap (λ xs. take sent bytes ++ take count xs) whole ∙ sym (take-add sent count bytes) in (
      omega (arith, c.in-Ok.ensures.bound),
      subst (Appends (g.S.Sink.output c.args.sink.now).contents (g.S.Sink.output c.take.new.self).contents) joined
          (Appends-trans _ _ _ _ _ c.loop.invariant.1 c.in-Ok.ensures.appends),
      omega arith,
      (λ none. absurd (omega arith)),
      sends_all _ (g.S.Sink.output c.args.sink.now).room (g.S.Sink.output c.loop.sink).room sent count (length bytes) _
          c.loop.invariant.4 c.if-sent-bytes.false rest (λ none. ap (λ s. (g.S.Sink.output s).room) (c.loop.invariant.3 none)) c.in-Ok.ensures.sure,
      (λ steady. c.in-Ok.ensures.stays (c.loop.invariant.5 steady)),
      omega (arith, c.loop.invariant.6, c.in-Ok.ensures.counted),
    )

use Rattle.std.proofs.Common.{arith, inl, refl}
use Rattle.dsr_explain.proofs.PartLemmas.{none_gone, nothing_sent}
use Rattle.dsr_explain.proofs.outlet.Outflow.pass_part.Goals as goal

-- memory ran out
pub returns-in_default : goal.returns-in_default
returns-in_default g c = record {
  sent = tt;
  prefix = nothing_sent c.args.text.now (g.K.Sink.output c.args.sink.now);
  whole = tt;
  at_once = λ none. (refl, refl);
  parts = refl;
  refusal = inl (refl, refl);
  calls = omega arith;
}

-- there is no part to send yet
pub returns-then-not-self : goal.returns-then-not-self
returns-then-not-self g c =
    let sink = g.K.Sink.output c.args.sink.now in
    record {
      sent = none_gone c.args.self.now.in_parts c.args.text.now sink;
      prefix = nothing_sent c.args.text.now sink;
      whole = inl refl;
      at_once = λ none. (tt, refl);
      parts = refl;
      refusal = tt;
      calls = omega arith;
    }

use Rattle.std.proofs.Common.{◌∙◌, ℕ, List, ap, arith, subst, sym}
use Rattle.std.specs.Prelude.{IfErr, IsTrue, OnOk}
use Rattle.dsr_names.specs.Streams.{SentAll}
use Rattle.dsr_explain.specs.Told.{LeftOfExplanation, TellsPlay, first_line}
use Rattle.dsr_explain.proofs.telling.tell_play.Goals as goal

pub tell_play-told-requires : goal.tell_play-told-requires
tell_play-told-requires g c = record {
  shape = c.in-Ok.ensures.shape ∙ c.shape.ensures;
  empty = c.in-Ok.ensures.empty;
  begun = c.in-Ok.ensures.out
      ∙ (ap (first_line c.args.wanted.now.data) c.shape.ensures ∙ ap (λ w. first_line w.data c.args.play.now.shape) (sym c.in-Ok.ensures.wanted));
  unsure = λ yes. c.to-outflow.ensures.parts (subst (λ f. IsTrue f.in_parts) c.in-Ok.ensures.outflow yes);
}

-- the filter of the story is the one that is wanted
pub returns : goal.returns
returns g c =
    let play = c.args.play.now in
    let s0 = g.K.Sink.output c.args.sink.now in
    let s1 = g.K.Sink.output c.tell_play-told.new.sink in
    record {
      told = subst (λ w. OnOk c.tell_play-told.result ((told : List ℕ) × TellsPlay w play told × SentAll told s0 s1)) c.in-Ok.ensures.wanted
          c.tell_play-told.ensures.told;
      refused = subst (λ w. IfErr c.tell_play-told.result (λ refusal. LeftOfExplanation w play refusal s0 s1)) c.in-Ok.ensures.wanted
          c.tell_play-told.ensures.refused;
      calls = omega (arith, c.tell_play-told.ensures.calls, ap (λ f. f.calls) c.in-Ok.ensures.outflow, c.to-outflow.ensures.calls);
    }

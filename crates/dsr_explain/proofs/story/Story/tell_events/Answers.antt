use Rattle.std.proofs.Common.{◌≡◌, ◌⊎◌, ◌++◌, ◌∙◌, ℕ, List, [], ap, arith, inl, inr, refl, subst, sym}
use Rattle.std.proofs.lemmas.List.{take_all}
use Rattle.dsr_names.specs.declared.refusal.Refusal.TheVariants.{NoMemory}
use Rattle.dsr_explain.specs.Outlet.{HasGoneOut}
use Rattle.dsr_explain.specs.Told.{HasBrokenOff, TellsEvents}
use Rattle.dsr_explain.proofs.BreakLemmas.{for_start, one_more, prefix_some, still_some}
use Rattle.dsr_explain.proofs.story.Story.tell_events.Goals as goal

pub loop-place-preserved : goal.loop-place-preserved
loop-place-preserved g c =
    let start = c.args.self.now in
    let before = c.loop-place.self in
    let after = c.tell.new.self in
    let kept = c.loop-place.invariant in
    let event = c.index-events-place.result in
    let s0 = g.K.Sink.output c.args.sink.now in
    let s1 = g.K.Sink.output c.loop-place.sink in
    let s2 = g.K.Sink.output c.pass_part.new.sink in
    let passed = c.in-Ok-pass_part.ensures in
    let one = for_start start.wanted before.wanted start.stage.shape before.stage.shape c.loop-place.place after.stage.run before.stage.run event before.out after.out
    kept.3 kept.4 c.in-Ok-tell.ensures.told in
    let parts = ap (λ flow. flow.in_parts) c.in-Ok-tell.ensures.outflow ∙ kept.5 in
    let gone = subst (λ b. HasGoneOut b after.out c.pass_part.new.text s1 s2) parts passed.sent in
    let whole : (s2 ≡ s1) ⊎ (c.pass_part.new.text ≡ []) = elim passed.whole [
      | inl same ↦ inl (ap (g.K.Sink.output) same)
      | inr none ↦ inr none
    ] in (
      one_more start.wanted start.stage.shape after.stage.run before.stage.run start.stage.run c.args.events.now c.loop-place.place event start.outflow.in_parts
          start.out before.out after.out s0 s1 c.loop-place-test.true c.index-events-place.is kept.0 one
          c.pass_part.new.text s2 gone,
      still_some start.wanted start.stage.shape after.stage.run before.stage.run start.stage.run c.args.events.now c.loop-place.place event start.outflow.in_parts
          start.out before.out after.out s0 s1 c.loop-place-test.true c.index-events-place.is kept.0 one
          c.pass_part.new.text s2 gone whole kept.1,
      (λ none. (passed.at_once (parts ∙ none)).1 ∙ kept.2 none),
      c.in-Ok-tell.ensures.wanted ∙ kept.3,
      c.in-Ok-tell.ensures.shape ∙ kept.4,
      passed.parts ∙ parts,
      omega (arith, passed.calls, kept.6, ap (λ flow. flow.calls) c.in-Ok-tell.ensures.outflow),
    )

-- memory runs out before the next event happens, or while it is explained
pub returns-in_default : goal.returns-in_default
returns-in_default g c =
    let kept = c.loop-place.invariant in
    record {
      told = tt;
      so_far = tt;
      broke_off = kept.1;
      at_once = λ none. (refl, kept.2 none);
      wanted = kept.3;
      shape = kept.4;
      parts = kept.5;
      calls = kept.6;
    }

pub returns-in_default-tell : goal.returns-in_default-tell
returns-in_default-tell g c =
    let kept = c.loop-place.invariant in
    let told = c.tell.ensures in
    record {
      told = tt;
      so_far = tt;
      broke_off = kept.1;
      at_once = λ none. (refl, kept.2 none);
      wanted = told.wanted ∙ kept.3;
      shape = told.shape ∙ kept.4;
      parts = ap (λ flow. flow.in_parts) told.outflow ∙ kept.5;
      calls = omega (arith, kept.6, ap (λ flow. flow.calls) told.outflow);
    }

-- writing failed, or memory had run out while the text was written
pub returns-in-Err : goal.returns-in-Err
returns-in-Err g c =
    let start = c.args.self.now in
    let before = c.loop-place.self in
    let after = c.tell.new.self in
    let kept = c.loop-place.invariant in
    let told = c.in-Ok-tell.ensures in
    let event = c.index-events-place.result in
    let s0 = g.K.Sink.output c.args.sink.now in
    let s1 = g.K.Sink.output c.loop-place.sink in
    let s2 = g.K.Sink.output c.pass_part.new.sink in
    let one = for_start start.wanted before.wanted start.stage.shape before.stage.shape c.loop-place.place after.stage.run before.stage.run event before.out after.out
    kept.3 kept.4 told.told in
    let left = c.in-Err.ensures in
    let parts = ap (λ flow. flow.in_parts) told.outflow ∙ kept.5 in
    record {
      told = tt;
      so_far = tt;
      broke_off = elim left.refusal [
        | inl starved ↦ subst (λ refusal. HasBrokenOff start.wanted start.stage.shape start.stage.run c.args.events.now start.out refusal s0 s2) (sym starved.0)
            (subst (λ s. HasBrokenOff start.wanted start.stage.shape start.stage.run c.args.events.now start.out NoMemory s0 s)
            (sym (ap (g.K.Sink.output) starved.1)) kept.1)
        | inr failed ↦ subst (λ refusal. HasBrokenOff start.wanted start.stage.shape start.stage.run c.args.events.now start.out refusal s0 s2) (sym failed)
            (prefix_some start.wanted start.stage.shape after.stage.run before.stage.run start.stage.run c.args.events.now c.loop-place.place event start.outflow.in_parts
            start.out before.out after.out s0 s1 c.loop-place-test.true c.index-events-place.is kept.0 one s2 left.prefix)
      ];
      at_once = λ none. ((left.at_once (parts ∙ none)).0, (left.at_once (parts ∙ none)).1 ∙ kept.2 none);
      wanted = told.wanted ∙ kept.3;
      shape = told.shape ∙ kept.4;
      parts = left.parts ∙ parts;
      calls = omega (arith, left.calls, kept.6, ap (λ flow. flow.calls) told.outflow);
    }

pub returns : goal.returns
returns g c =
    let start = c.args.self.now in
    let events = c.args.events.now in
    let kept = c.loop-place.invariant in
    record {
      told = subst (λ es. (told : List ℕ) × TellsEvents start.wanted 0 start.stage.shape c.loop-place.self.stage.run start.stage.run es told
          × HasGoneOut start.outflow.in_parts (start.out ++ told) c.loop-place.self.out (g.K.Sink.output c.args.sink.now) (g.K.Sink.output c.loop-place.sink))
          (take_all c.loop-place.place events c.loop-place-test.false) kept.0;
      so_far = kept.1;
      broke_off = tt;
      at_once = λ none. (tt, kept.2 none);
      wanted = kept.3;
      shape = kept.4;
      parts = kept.5;
      calls = kept.6;
    }

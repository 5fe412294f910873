use Rattle.std.proofs.Common.{◌≡◌, ◌++◌, ◌∙◌, ℕ, List, ap, arith, refl, subst, sym}
use Rattle.std.specs.Prelude.{OnErr, false, length}
use Rattle.dsr_names.specs.Streams.{CanFailToTake, SentAll}
use Rattle.dsr_names.specs.declared.refusal.Refusal.TheVariants.{NoMemory}
use Rattle.dsr_explain.specs.Outlet.{HasGoneOut}
use Rattle.dsr_explain.specs.Told.{TellsPlay}
use Rattle.dsr_explain.proofs.BreakLemmas.{left_broken, of_play, starved, unsent}
use Rattle.dsr_explain.proofs.PartLemmas.{all_gone, gone_on, none_gone}
use Rattle.dsr_explain.proofs.ToldLemmas.{on_ok, told_whole}
use Rattle.dsr_explain.proofs.story.Story.tell_play.Goals as goal

pub returns : goal.returns
returns g c =
    let play = c.args.play.now in
    let begun = c.args.self.now in
    let wanted = begun.wanted in
    let s0 = g.K.Sink.output c.args.sink.now in
    let s1 = g.K.Sink.output c.tell_events.new.sink in
    let s2 = g.K.Sink.output c.pass_rest.new.sink in
    let mid = c.tell_events.new.self in
    let rest = c.in-Ok-whole.rest.now in
    let told = c.in-Ok.ensures.told in
    let end = c.in-Ok-end.ensures.told in
    let ends = end.0 ++ (end.1 ++ end.2) in
    let first = begun.out ++ told.0 in
    let total = first ++ ends in
    let parts = begun.outflow.in_parts in
    let tells = told_whole wanted wanted mid.wanted play begun.stage.shape mid.stage.shape c.events.result.now mid.stage.run begun.stage.run
    begun.out first total
    refl c.in-Ok.ensures.wanted c.requires.shape c.in-Ok.ensures.shape c.events.ensures.same c.requires.empty c.requires.begun
    (told.0, told.1, refl) (end.0, end.1, end.2, end.3, end.4, refl) in
    let gone = gone_on parts first mid.out ends rest s0 s1 s1 told.2
    (subst (λ t. HasGoneOut parts (mid.out ++ ends) t s1 s1) (sym (c.in-Ok-whole.ensures.whole ∙ end.5)) (none_gone parts (mid.out ++ ends) s1)) in
    let flow = ap (λ f. f.in_parts) c.in-Ok-end.ensures.outflow ∙ c.in-Ok.ensures.parts in
    let failed = subst (λ b. OnErr c.pass_rest.result (b ≡ false → CanFailToTake (length rest) s1)) flow c.pass_rest.ensures.failed in
    record {
      told = on_ok c.pass_rest.result (SentAll rest s1 s2) ((text : List ℕ) × TellsPlay wanted play text × SentAll text s0 s2)
          (λ sent. (total, tells, all_gone parts total rest s0 s1 s2 gone sent)) c.pass_rest.ensures.all;
      refused = unsent c.pass_rest.result wanted play parts total rest s0 s1 s2
          c.requires.unsure
          (λ none. ap (g.K.Sink.output) (c.in-Ok.ensures.at_once none).1) tells gone
          c.pass_rest.ensures.refusal failed c.pass_rest.ensures.prefix;
      calls = omega (
        arith,
        c.pass_rest.ensures.calls,
        ap (λ f. f.calls) c.in-Ok-end.ensures.outflow,
        c.in-Ok.ensures.calls,
      );
    }

-- writing failed while the events were told, or memory ran out
pub returns-in-Err-clause-refused : goal.returns-in-Err-clause-refused
returns-in-Err-clause-refused g c =
    let play = c.args.play.now in
    let begun = c.args.self.now in
    let wanted = begun.wanted in
    let s0 = g.K.Sink.output c.args.sink.now in
    let s1 = g.K.Sink.output c.tell_events.new.sink in
    left_broken wanted play s0 s1 c.in-Err.refusal begun.outflow.in_parts
    c.requires.unsure
    (λ none. (c.in-Err.ensures.at_once none).0)
    (of_play wanted wanted play begun.stage.shape begun.stage.run c.events.result.now begun.out c.in-Err.refusal s0 s1
    refl c.requires.shape c.requires.empty c.events.ensures.same c.requires.begun c.in-Err.ensures.broke_off)

-- memory ran out at the end, or while the events were written
pub returns-in_default-clause-refused : goal.returns-in_default-clause-refused
returns-in_default-clause-refused g c =
    let play = c.args.play.now in
    let begun = c.args.self.now in
    let wanted = begun.wanted in
    let s0 = g.K.Sink.output c.args.sink.now in
    let s1 = g.K.Sink.output c.tell_events.new.sink in
    starved wanted play s0 s1
    (of_play wanted wanted play begun.stage.shape begun.stage.run c.events.result.now begun.out NoMemory s0 s1
    refl c.requires.shape c.requires.empty c.events.ensures.same c.requires.begun c.in-Ok.ensures.so_far)

pub returns-in_default-whole-clause-refused : goal.returns-in_default-whole-clause-refused
returns-in_default-whole-clause-refused g c =
    let play = c.args.play.now in
    let begun = c.args.self.now in
    let wanted = begun.wanted in
    let s0 = g.K.Sink.output c.args.sink.now in
    let s1 = g.K.Sink.output c.tell_events.new.sink in
    starved wanted play s0 s1
    (of_play wanted wanted play begun.stage.shape begun.stage.run c.events.result.now begun.out NoMemory s0 s1
    refl c.requires.shape c.requires.empty c.events.ensures.same c.requires.begun c.in-Ok.ensures.so_far)

use Rattle.std.proofs.Common.{◌≡◌, ◌++◌, ◌∙◌, ℕ, List, ap, refl, rules, subst, sym}
use Rattle.std.specs.Prelude.{◌≢◌, OnOk}
use Rattle.dsr_names.specs.declared.refusal.Refusal.TheVariants.{NoMemory}
use Rattle.dsr_run.specs.Run.{IsRun}
use Rattle.dsr_explain.specs.Letters.{handled}
use Rattle.dsr_explain.specs.Told.{TellsRefusal, last_envelope}
use Rattle.dsr_explain.proofs.LetterLemmas.{letter_is}
use Rattle.dsr_explain.proofs.ToldLemmas.{refused_told}
use Rattle.dsr_explain.proofs.story.Story.tell.Goals as goal

pub tell_done-requires : goal.tell_done-requires
tell_done-requires c =
    let s = c.args.self.now in
    let event = c.args.event.now in
    let later = c.step_noted.new.stage in
    let shape = c.in-Ok.ensures.shape in
    let is = subst (λ shape. IsRun shape later.run) shape c.steps_are_a_run.ensures in
    let letter = letter_is s.stage.shape later.run s.stage.run event c.in-Ok.field-0 is c.in-Ok.ensures.may c.in-Ok.ensures.done in
    subst (λ shape. handled shape later.run event ≡ last_envelope later.run) (sym shape) letter

pub returns-in-Err : goal.returns-in-Err
returns-in-Err c =
    let s = c.args.self.now in
    let new = c.tell_refusal.new.self in
    let fed : c.in-Err.refusal ≢ NoMemory = search rules in
    let refused = c.in-Err.ensures.refused c.in-Err.refusal fed refl in
    let stays = refused.1 in
    let same = c.tell_refusal.ensures.stage ∙ stays in
    record {
      told = refused_told c.tell_refusal.result s.wanted c.args.number s.stage.shape new.stage.run s.stage.run c.args.event.now c.in-Err.refusal
          s.out new.out refused.0 fed (ap (λ w. w.run) same)
          (subst (λ w. OnOk c.tell_refusal.result ((text : List ℕ) × TellsRefusal s.wanted c.args.number w.shape w.run c.args.event.now c.in-Err.refusal text
          × (new.out ≡ s.out ++ text))) stays c.tell_refusal.ensures.told);
      wanted = c.tell_refusal.ensures.wanted;
      outflow = c.tell_refusal.ensures.outflow;
      shape = ap (λ w. w.shape) same;
    }

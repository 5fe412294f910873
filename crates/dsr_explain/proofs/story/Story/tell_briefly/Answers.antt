use Rattle.std.proofs.Common.{◌≡◌, ◌++◌, ◌∙◌, ℕ, List, ap, refl, rules, subst}
use Rattle.std.specs.Prelude.{OnOk}
use Rattle.std.specs.declared.result.Result.TheVariants.{Ok}
use Rattle.dsr_run.specs.Step.{log_of}
use Rattle.dsr_notes.proofs.DoneLemmas.{may_be_done}
use Rattle.dsr_explain.specs.Told.{TellsRefusal}
use Rattle.dsr_explain.proofs.ToldLemmas.{brief_told, refused_told}
use Rattle.dsr_explain.proofs.story.Story.tell_briefly.Goals as goal

pub returns-in-Ok : goal.returns-in-Ok
returns-in-Ok c =
    let s = c.args.self.now in
    record {
      told = brief_told s.wanted c.args.number s.stage.shape c.step.new.self.run s.stage.run c.args.event.now c.in-Ok.field-0 s.out
          c.requires (may_be_done s.stage.shape (log_of s.stage.run) c.args.event.now (Ok c.in-Ok.field-0) c.in-Ok.ensures.refused c.in-Ok.ensures.forged.1)
          c.in-Ok.ensures.done;
      wanted = refl;
      outflow = refl;
      shape = c.in-Ok.ensures.shape;
    }

pub returns-in-Err : goal.returns-in-Err
returns-in-Err c =
    let s = c.args.self.now in
    let new = c.tell_refusal.new.self in
    let stays = c.in-Err.ensures.unchanged in
    let same = c.tell_refusal.ensures.stage ∙ stays in
    record {
      told = refused_told c.tell_refusal.result s.wanted c.args.number s.stage.shape new.stage.run s.stage.run c.args.event.now c.in-Err.refusal
          s.out new.out (c.in-Err.ensures.last c.in-Err.refusal refl) (search rules) (ap (λ w. w.run) same)
          (subst (λ w. OnOk c.tell_refusal.result ((text : List ℕ) × TellsRefusal s.wanted c.args.number w.shape w.run c.args.event.now c.in-Err.refusal text
          × (new.out ≡ s.out ++ text))) stays c.tell_refusal.ensures.told);
      wanted = c.tell_refusal.ensures.wanted;
      outflow = c.tell_refusal.ensures.outflow;
      shape = ap (λ w. w.shape) same;
    }

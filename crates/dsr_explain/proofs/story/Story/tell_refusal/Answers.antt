use Rattle.std.proofs.Common.{◌≡◌, ◌++◌, ◌∙◌, ℕ, List, [], append-nil, refl, sym}
use Rattle.std.proofs.lemmas.Bool.{true≢false}
use Rattle.dsr_run.specs.Step.{log_of}
use Rattle.dsr_reasons.specs.Reason.{TellsCause}
use Rattle.dsr_explain.specs.Told.{TellsRefusal, refused_line}
use Rattle.dsr_explain.proofs.ToldLemmas.{on_ok, refusal_told}
use Rattle.dsr_explain.proofs.story.Story.tell_refusal.Goals as goal

pub returns-then-has_refused : goal.returns-then-has_refused
returns-then-has_refused c =
    let s = c.args.self.now in
    record {
      told = on_ok c.write_refusal.result
          ((shown : List ℕ) × TellsCause s.stage.shape (log_of s.stage.run) c.args.event.now s.wanted.data
          (s.out ++ refused_line s.wanted.data c.args.number c.args.line.now.number c.args.event.now c.args.refusal.now shown) c.write_refusal.new.out)
          ((text : List ℕ) × TellsRefusal s.wanted c.args.number s.stage.shape s.stage.run c.args.event.now c.args.refusal.now text
          × (c.write_refusal.new.out ≡ s.out ++ text))
          (λ cause. refusal_told s.wanted c.args.number c.args.line.now.number s.stage.shape s.stage.run c.args.event.now c.args.refusal.now
          s.out c.write_refusal.new.out (c.has_refused.ensures.0 c.if-has_refused.true) cause)
          c.write_refusal.ensures;
      wanted = refl;
      outflow = refl;
      stage = refl;
    }

pub returns-else-has_refused : goal.returns-else-has_refused
returns-else-has_refused c =
    let s = c.args.self.now in
    record {
      told = (
        [],
        record {
          told = λ wants. absurd (true≢false (sym (c.has_refused.ensures.1 wants) ∙ c.if-has_refused.false));
          other = λ unwanted. refl;
        },
        sym (append-nil s.out),
      );
      wanted = refl;
      outflow = refl;
      stage = refl;
    }

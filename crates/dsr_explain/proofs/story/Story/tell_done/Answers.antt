use Rattle.std.proofs.Common.{ℕ, List, [], ◌++◌, ◌∙◌, ap, append-nil, append_assoc, filter, map, refl, string_bytes, subst, sym}
use Rattle.std.proofs.lemmas.Bool.{false≢true}
use Rattle.dsr_run.specs.Step.{log_of}
use Rattle.dsr_notes.specs.declared.note.Note.{Note}
use Rattle.dsr_reasons.specs.Reason.{actor_of, other_of}
use Rattle.dsr_explain.specs.Lines.{note_lines}
use Rattle.dsr_explain.specs.Told.{done_line, last_chains}
use Rattle.dsr_explain.specs.Wanted.{WantsDone, wants_note}
use Rattle.dsr_explain.proofs.story.Story.tell_done.Goals as goal

pub returns-then-not-has_done : goal.returns-then-not-has_done
returns-then-not-has_done c =
    let wanted = c.args.self.now.wanted in
    let notes = sym c.as_slice-notes.ensures.value in
    record {
      told = (
        [],
        record {
          told = λ wants. absurd (false≢true (c.if-not-has_done.ensures.1 (subst (WantsDone wanted c.args.event.now) notes wants)));
          other = λ unwanted. refl;
        },
        sym (append-nil c.args.self.now.out),
      );
      wanted = refl;
      outflow = refl;
      stage = refl;
    }

pub returns : goal.returns
returns c =
    let me = c.args.self.now in
    let event = c.args.event.now in
    let line = c.args.line.now.number in
    let shown = string_bytes c.in_ok-told.told.now.end in
    let texts = map (λ text. string_bytes text.shown) c.as_slice.result.now in
    let first = done_line me.wanted.data c.args.number line event shown in
    let more : List Note → List ℕ = λ notes. note_lines me.wanted.data me.stage.shape (log_of me.stage.run) (actor_of event) (other_of event)
    (last_chains me.stage.run) texts (filter (wants_note me.wanted) notes) in
    let is = c.as_slice-notes.ensures.value in
    let wants = subst (WantsDone me.wanted event) is (c.if-not-has_done.ensures.0 refl) in
    let written = c.write_wanted.ensures ∙ (ap (λ text. text ++ more c.as_slice-notes.result.now) c.write_done.ensures
    ∙ (append_assoc me.out first (more c.as_slice-notes.result.now) ∙ ap (λ notes. me.out ++ (first ++ more notes)) is)) in
    record {
      told = (
        first ++ more me.notes.items,
        record {
          told = λ _. record { line = line; shown = shown; texts = texts; told = refl };
          other = λ unwanted. absurd (unwanted wants);
        },
        written,
      );
      wanted = refl;
      outflow = refl;
      stage = refl;
    }

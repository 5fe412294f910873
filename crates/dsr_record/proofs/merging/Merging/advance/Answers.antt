use Rattle.std.proofs.Common.{◌∷◌, ◌++◌, [], refl, ap, sym, ◌∙◌, subst, reverse}
use Rattle.std.specs.Prelude.{All, slice_set}
use Rattle.std.proofs.lemmas.List.{nil_from_length, reverse-append}
use Rattle.dsr_names.specs.Places.{place_of}
use Rattle.dsr_run.specs.Step.{Step, log_of}
use Rattle.dsr_mail.specs.Logs.{logs_of}
use Rattle.dsr_record.specs.RecordText.{IsSpelledStep}
use Rattle.dsr_record.specs.Support.Merging.{AreBoxes, CanMove, IsMerging, merged_of}
use Rattle.dsr_record.proofs.MergeLemmas.{left_at, goes_first, none_goes, next_of, next_other, next_within, next_limits, merging_on, all_more}
use Rattle.dsr_record.specs.declared.merging.Rest.{Rest}
use Rattle.dsr_record.proofs.merging.Merging.advance.Goals as goal

pub unreachable-requires : goal.unreachable-requires
unreachable-requires c =
    let m = c.args.self.now in
    let shape = m.logs.now.shape in
    let logs = logs_of m.logs.now in
    let merged = merged_of m in
    let a = c.args.actor.now in
    let merging = c.requires.stands.merging in
    let at = c.place-place.ensures ∙ ap (λ s. place_of s a) c.shape-shape.ensures.same in
    let rest = c.index.result.now in
    let left = left_at shape logs (log_of merged) m.rests.items merging.left a c.requires.turn.is_actor c.place-place.result at rest c.index.ensures in
    none_goes logs merged a rest.entries.now left (nil_from_length rest.entries.now c.in_default.ensures.cases) c.requires.turn.can

pub noted-requires : goal.noted-requires
noted-requires c =
    let m = c.args.self.now in
    let shape = m.logs.now.shape in
    let logs = logs_of m.logs.now in
    let merged = merged_of m in
    let a = c.args.actor.now in
    let merging = c.requires.stands.merging in
    let at = c.place-place.ensures ∙ ap (λ s. place_of s a) c.shape-shape.ensures.same in
    let rest = c.index.result.now in
    let left = left_at shape logs (log_of merged) m.rests.items merging.left a c.requires.turn.is_actor c.place-place.result at rest c.index.ensures in
    let entry = c.in-Some.entry.now in
    let first = c.in-Some.ensures.cases.0 in
    let next = next_of logs merged a rest.entries.now left entry c.in-Some.rest.now first in
    next_within shape logs merging.are a merged entry next

pub move_envelope-requires : goal.move_envelope-requires
move_envelope-requires c =
    let m = c.args.self.now in
    let shape = m.logs.now.shape in
    let logs = logs_of m.logs.now in
    let merged = merged_of m in
    let a = c.args.actor.now in
    let merging = c.requires.stands.merging in
    let at = c.place-place.ensures ∙ ap (λ s. place_of s a) c.shape-shape.ensures.same in
    let rest = c.index.result.now in
    let left = left_at shape logs (log_of merged) m.rests.items merging.left a c.requires.turn.is_actor c.place-place.result at rest c.index.ensures in
    let entry = c.in-Some.entry.now in
    let first = c.in-Some.ensures.cases.0 in
    let next = next_of logs merged a rest.entries.now left entry c.in-Some.rest.now first in
    subst (λ s. CanMove s m.boxes a entry) (sym c.shape-shape.ensures.same)
    (record {
      run = merged;
      boxes = merging.boxes;
      is_actor = c.requires.turn.is_actor;
      other = next_other shape logs merging.are a merged entry next;
      box = goes_first logs merged a rest.entries.now left entry c.in-Some.rest.now first c.requires.turn.can;
      limits = next_limits shape logs merging.are merged a entry (λ b. c.counters_are_kept.ensures.posts shape logs merging.are a b) next;
    })

pub returns-clause-stands : goal.returns-clause-stands
returns-clause-stands c =
    let m = c.args.self.now in
    let shape = m.logs.now.shape in
    let logs = logs_of m.logs.now in
    let merged = merged_of m in
    let a = c.args.actor.now in
    let merging = c.requires.stands.merging in
    let at = c.place-place.ensures ∙ ap (λ s. place_of s a) c.shape-shape.ensures.same in
    let rest = c.index.result.now in
    let left = left_at shape logs (log_of merged) m.rests.items merging.left a c.requires.turn.is_actor c.place-place.result at rest c.index.ensures in
    let entry = c.in-Some.entry.now in
    let first = c.in-Some.ensures.cases.0 in
    let next = next_of logs merged a rest.entries.now left entry c.in-Some.rest.now first in
    let step : Step = (a, entry) in
    let note = c.new-step.ensures ∙ ap (λ e. (a, e)) c.in_ok-noted.ensures.same in
    let pushed = ap reverse c.in_ok-push.ensures.items ∙ (reverse-append m.steps.items (c.new-step.result ∷ []) ∙ ap (λ s. s ∷ merged) note) in
    let boxes = c.move_envelope.ensures merged (subst (λ s. AreBoxes s (log_of merged) m.boxes) (sym c.shape-shape.ensures.same) merging.boxes)
    (goes_first logs merged a rest.entries.now left entry c.in-Some.rest.now first c.requires.turn.can) in
    let later = subst (λ s. AreBoxes s (log_of (step ∷ merged)) c.move_envelope.new.boxes) c.shape-shape.ensures.same boxes in
    let more : Rest = record { entries = c.in-Some.rest } in
    let on = merging_on shape logs merged m.rests.items m.boxes c.move_envelope.new.boxes a entry c.in-Some.rest.now more merging c.requires.turn refl
    (left ∙ ap (λ l. reverse l ++ log_of merged a) first) later in
    record {
      merging = subst (λ run. IsMerging shape logs run (slice_set m.rests.items c.place-place.result more) c.move_envelope.new.boxes) (sym pushed)
          (subst (λ i. IsMerging shape logs (step ∷ merged) (slice_set m.rests.items i more) c.move_envelope.new.boxes) (sym at) on);
      spelled = subst (All IsSpelledStep) (sym c.in_ok-push.ensures.items)
          (all_more IsSpelledStep m.steps.items c.new-step.result c.requires.stands.spelled c.each_step_has_a_line.ensures);
    }

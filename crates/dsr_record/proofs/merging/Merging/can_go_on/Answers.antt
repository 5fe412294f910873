use Rattle.std.proofs.Common.{ap, sym, ◌∙◌, subst}
use Rattle.std.proofs.lemmas.Bool.{false≢true}
use Rattle.dsr_names.specs.Places.{place_of}
use Rattle.dsr_names.specs.Shape.{IsActor}
use Rattle.dsr_run.specs.Run.{other_of}
use Rattle.dsr_run.specs.Step.{log_of}
use Rattle.dsr_mail.specs.Logs.{logs_of}
use Rattle.dsr_record.specs.Support.Merging.{AreBoxes, merged_of}
use Rattle.dsr_record.proofs.MergeLemmas.{first_is, none_is, left_at, first_goes, goes_first, none_goes, next_of, next_other}
use Rattle.dsr_record.proofs.merging.Merging.can_go_on.Goals as goal

pub can_move-requires-clause-other : goal.can_move-requires-clause-other
can_move-requires-clause-other c =
    let m = c.args.self.now in
    let shape = m.logs.now.shape in
    let logs = logs_of m.logs.now in
    let merged = merged_of m in
    let a = c.args.actor.now in
    let merging = c.requires.stands.merging in
    let at = c.place.ensures ∙ ap (λ s. place_of s a) c.shape-shape.ensures.same in
    let rest = c.index.result.now in
    let left = left_at shape logs (log_of merged) m.rests.items merging.left a c.requires.actor c.place.result at rest c.index.ensures in
    let entry = c.in-Some.entry.now in
    let first = first_is rest.entries.now entry (sym c.in-Some.ensures.value) in
    subst (λ s. IsActor s (other_of entry)) (sym c.shape-shape.ensures.same)
    (next_other shape logs merging.are a merged entry (next_of logs merged a rest.entries.now left entry first.0 first.1))

pub returns-in-Some : goal.returns-in-Some
returns-in-Some c =
    let m = c.args.self.now in
    let shape = m.logs.now.shape in
    let logs = logs_of m.logs.now in
    let merged = merged_of m in
    let a = c.args.actor.now in
    let merging = c.requires.stands.merging in
    let at = c.place.ensures ∙ ap (λ s. place_of s a) c.shape-shape.ensures.same in
    let rest = c.index.result.now in
    let left = left_at shape logs (log_of merged) m.rests.items merging.left a c.requires.actor c.place.result at rest c.index.ensures in
    let entry = c.in-Some.entry.now in
    let first = first_is rest.entries.now entry (sym c.in-Some.ensures.value) in
    let can = c.can_move.ensures merged (subst (λ s. AreBoxes s (log_of merged) m.boxes) (sym c.shape-shape.ensures.same) merging.boxes) in (
      λ yes. first_goes logs merged a rest.entries.now left entry first.0 first.1 (can.0 yes),
      λ goes. can.1 (goes_first logs merged a rest.entries.now left entry first.0 first.1 goes),
    )

pub returns-in-None : goal.returns-in-None
returns-in-None c =
    let m = c.args.self.now in
    let shape = m.logs.now.shape in
    let logs = logs_of m.logs.now in
    let merged = merged_of m in
    let a = c.args.actor.now in
    let merging = c.requires.stands.merging in
    let at = c.place.ensures ∙ ap (λ s. place_of s a) c.shape-shape.ensures.same in
    let rest = c.index.result.now in
    let left = left_at shape logs (log_of merged) m.rests.items merging.left a c.requires.actor c.place.result at rest c.index.ensures in
    let empty = none_is rest.entries.now (sym c.in-None.ensures.value) in
    (λ yes. absurd (false≢true yes), λ goes. absurd (none_goes logs merged a rest.entries.now left empty goes))

use Rattle.std.proofs.Common.{◌∙◌, ap, length, refl, sym}
use Rattle.std.proofs.lemmas.Bool.{ltb-false, ltb-true}
use Rattle.std.proofs.lemmas.Option.{slice_get_read}
use Rattle.dsr_run.specs.Step.{log_of}
use Rattle.dsr_explain.specs.Lines.{decided_content}
use Rattle.dsr_explain.proofs.DecidedLemmas.{in_list, not_in_list}
use Rattle.dsr_explain.proofs.standing.decision_of.Goals as goal

pub returns-in-Some-clause-some : goal.returns-in-Some-clause-some
returns-in-Some-clause-some c =
    let loyal = c.in-Ok.ensures.when.0 refl in
    let stage = c.args.stage.now in
    let list = c.in-Ok.decided.now in
    let slot = c.args.slot in
    let decision = c.in-Some.decision.now in
    let inside = ltb-true slot (length list) (sym c.in-Some.ensures.lookup.0) in
    let there = slice_get_read list (length list) slot decision refl inside c.in-Some.ensures.lookup.1 in
    in_list stage.shape (log_of stage.run) c.in-Replica.replica slot loyal.0 loyal.1 list c.in-Ok.ensures.same decision there
    ∙ ap (λ a. decided_content stage.shape (log_of stage.run) a slot) (sym c.in-Replica.is)

pub returns-in-None-clause-none : goal.returns-in-None-clause-none
returns-in-None-clause-none c =
    let loyal = c.in-Ok.ensures.when.0 refl in
    let stage = c.args.stage.now in
    let list = c.in-Ok.decided.now in
    let past = ltb-false c.args.slot (length list) (sym c.in-None.ensures.lookup.0) in
    not_in_list stage.shape (log_of stage.run) c.in-Replica.replica c.args.slot loyal.0 loyal.1 list c.in-Ok.ensures.same past
    ∙ ap (λ a. decided_content stage.shape (log_of stage.run) a c.args.slot) (sym c.in-Replica.is)

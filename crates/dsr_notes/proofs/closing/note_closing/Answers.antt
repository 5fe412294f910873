use Rattle.std.proofs.Common.{◌≡◌}
use Rattle.dsr_names.specs.declared.actor.Actor.TheVariants.{Replica}
use Rattle.dsr_replica.specs.Decided.{decided_values}
use Rattle.dsr_run.specs.Step.{log_of}
use Rattle.dsr_notes.proofs.ClosingLemmas.{values_by, decision_noted, none_noted}
use Rattle.dsr_notes.proofs.closing.note_closing.Goals as goal

pub returns-in-Some : goal.returns-in-Some
returns-in-Some c =
    let shape = c.args.stage.now.shape in
    let closing = c.args.closing.now in
    let log = log_of c.args.stage.now.run (Replica closing.replica) in
    let loyal = c.in-Ok.loyal.now in
    let plays = c.in-Ok.ensures.plays in
    let all : loyal.values ≡ decided_values shape log = values_by shape loyal.shape plays.shape_is log loyal.values plays.stands.values_are in
    decision_noted shape log closing c.requires.round loyal.values all c.decided.result.now c.decided.ensures.same
    c.args.notes.now c.add.new.self c.add.ensures
    c.in-Some.decision.now c.in-Some.ensures.value c.requires.acted c.note_decision.new.notes c.note_decision.ensures

pub returns-in_default-last : goal.returns-in_default-last
returns-in_default-last c =
    let shape = c.args.stage.now.shape in
    let closing = c.args.closing.now in
    let log = log_of c.args.stage.now.run (Replica closing.replica) in
    let loyal = c.in-Ok.loyal.now in
    let plays = c.in-Ok.ensures.plays in
    let all : loyal.values ≡ decided_values shape log = values_by shape loyal.shape plays.shape_is log loyal.values plays.stands.values_are in
    none_noted shape log closing c.requires.round loyal.values all c.decided.result.now c.decided.ensures.same
    c.args.notes.now c.add.new.self c.add.ensures c.in_default-last.ensures.value

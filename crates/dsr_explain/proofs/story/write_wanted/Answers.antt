use Rattle.std.proofs.Common.{map}
use Rattle.std.specs.Prelude.{string_bytes}
use Rattle.dsr_run.specs.Step.{log_of}
use Rattle.dsr_reasons.specs.Reason.{actor_of, other_of}
use Rattle.dsr_explain.specs.Told.{last_chains}
use Rattle.dsr_explain.specs.Wanted.{wants_note}
use Rattle.dsr_explain.specs.declared.chain_texts.ChainText.{ChainText}
use Rattle.dsr_explain.proofs.ToldLemmas.{wanted_more}
use Rattle.dsr_explain.proofs.story.write_wanted.Goals as goal

pub loop-note-preserved : goal.loop-note-preserved
loop-note-preserved c =
    let stage = c.args.stage.now in
    let event = c.args.event.now in
    let texts = map (λ (text : ChainText). string_bytes text.shown) c.args.texts.now in
    wanted_more c.args.wanted.now.data stage.shape (log_of stage.run) (actor_of event) (other_of event) (last_chains stage.run) texts (wants_note c.args.wanted.now)
    c.args.out.now c.loop-note.out c.write_if_wanted.new.out c.args.notes.now c.loop-note.note-index
    c.note-item.result c.loop-note-test.true c.note-item.is c.loop-note.invariant c.write_if_wanted.ensures.wanted c.write_if_wanted.ensures.unwanted

use Rattle.std.proofs.Common.{◌≡◌, ◌++◌, map, take}
use Rattle.std.specs.Prelude.{filter, string_bytes}
use Rattle.dsr_run.specs.Step.{log_of}
use Rattle.dsr_reasons.specs.Reason.{actor_of, other_of}
use Rattle.dsr_explain.specs.Lines.{note_lines}
use Rattle.dsr_explain.specs.Told.{last_chains}
use Rattle.dsr_explain.specs.Wanted.{wants_note}
use Rattle.dsr_explain.specs.declared.chain_texts.ChainText.{ChainText}
use Rattle.dsr_explain.proofs.story.write_wanted.Given as goal

-- the lines of the wanted notes before this one are written
abbrev pub invariant-loop-note : goal.invariant-loop-note
invariant-loop-note l =
    l.out
    ≡ l.initial.out
    ++ note_lines l.wanted.data l.stage.shape (log_of l.stage.run) (actor_of l.event) (other_of l.event) (last_chains l.stage.run)
    (map (λ (text : ChainText). string_bytes text.shown) l.texts) (filter (wants_note l.wanted) (take l.note-index l.notes))

use Rattle.std.proofs.Common.{rules}
use Rattle.dsr_notes.proofs.DoneLemmas.{IsNotable, not_notable}
use Rattle.dsr_notes.proofs.done.note_before.Goals as goal
use Rattle.dsr_notes.proofs.done.note_before.Goals.{in_default-via-in-Take+in-Client+in_default, in_default-via-in-Post+in-Replica+in_default, in_default-via-in-Post+in_default, in_default-via-in_default}

other : (c : goal.In_default) → ¬ IsNotable c.args.event.now
other c = elim c.in_default.branch [
  | in_default-via-in-Take+in-Client+in_default w ↦ search rules
  | in_default-via-in-Post+in-Replica+in_default w ↦ search rules
  | in_default-via-in-Post+in_default w ↦ search rules
  | in_default-via-in_default w ↦ search rules
]

pub returns-in_default : goal.returns-in_default
returns-in_default c = not_notable c.args.stage.now.shape c.args.stage.now.run c.args.event.now c.args.notes.now c.requires (other c)

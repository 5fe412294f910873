use Rattle.std.proofs.Common.{◌≡◌, take}
use Rattle.std.specs.Prelude.{All}
use Rattle.dsr_record.specs.RecordText.{IsSpelledStep}
use Rattle.dsr_record.proofs.record.Record.of_world.Given as goal

-- the steps that were recorded are the first of the world's, and texts can write them
abbrev pub invariant-loop-actor : goal.invariant-loop-actor
invariant-loop-actor l = (l.steps.items ≡ take l.actor-index l.actor-items) × All IsSpelledStep l.steps.items

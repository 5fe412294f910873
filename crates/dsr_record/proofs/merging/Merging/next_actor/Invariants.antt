use Rattle.std.proofs.Common.{◌≡◌, ◌<◌, length}
use Rattle.dsr_names.specs.Places.{place_of}
use Rattle.dsr_names.specs.Shape.{IsActor}
use Rattle.dsr_names.specs.declared.actor.Actor.{Actor}
use Rattle.dsr_mail.specs.Logs.{logs_of}
use Rattle.dsr_record.specs.Merge.{CanGoOn}
use Rattle.dsr_record.specs.Support.Merging.{merged_of}
use Rattle.dsr_record.proofs.merging.Merging.next_actor.Given as goal

-- nobody at a lower place can go on
abbrev pub invariant-loop-place : goal.invariant-loop-place
invariant-loop-place l =
    ((lower : Actor) → IsActor l.self.logs.now.shape lower → place_of l.self.logs.now.shape lower < l.place
    → ¬ CanGoOn (logs_of l.self.logs.now) (merged_of l.self) lower) × (l.place-end ≡ length l.self.rests.items)

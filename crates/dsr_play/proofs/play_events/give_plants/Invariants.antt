use Rattle.std.proofs.Common.{◌≡◌, [], ◌∷◌}
use Rattle.dsr_names.specs.declared.actor.Actor.TheVariants.{Replica}
use Rattle.dsr_play.specs.declared.event.Event.TheVariants.{Plant}
use Rattle.dsr_play.specs.PlayText.{with_each}
use Rattle.dsr_play.specs.TakenEvents.{TakesMore}
use Rattle.dsr_play.proofs.play_events.give_plants.Given as goal

-- the events of the replicas before this one are taken
abbrev pub invariant-loop-number : goal.invariant-loop-number
invariant-loop-number g l =
    TakesMore g.T.TakesEvents.took l.fn.taker l.taker (with_each l.number (λ q. Plant l.from (Replica q) l.draft ∷ []))
    × (g.T.TakesEvents.shape l.taker ≡ g.T.TakesEvents.shape l.fn.taker)

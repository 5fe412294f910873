use Rattle.std.proofs.Common.{◌≡◌, []}
use Rattle.std.specs.Prelude.{if◌then◌else◌}
use Rattle.dsr_names.specs.Shape.{is_traitor}
use Rattle.dsr_names.specs.declared.actor.Actor.TheVariants.{Replica}
use Rattle.dsr_envelope.specs.declared.pick.Pick.TheVariants.{Plain}
use Rattle.dsr_play.specs.PlayText.{with_each, posts_by}
use Rattle.dsr_play.specs.TakenEvents.{TakesMore}
use Rattle.dsr_play.proofs.play_events.give_all_posts.Given as goal

-- the events of the replicas before this one are taken
abbrev pub invariant-loop-number : goal.invariant-loop-number
invariant-loop-number g l =
    TakesMore g.T.TakesEvents.took l.fn.taker l.taker (with_each l.number (λ p. if is_traitor l.shape p then [] else posts_by l.shape (Replica p) Plain))
    × (g.T.TakesEvents.shape l.taker ≡ g.T.TakesEvents.shape l.fn.taker)

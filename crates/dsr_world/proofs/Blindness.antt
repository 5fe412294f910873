-- An event is the same step, and is refused alike, whoever else is a traitor.
use Rattle.std.proofs.Common.{◌≡◌, refl}
use Rattle.dsr_names.specs.Shape.{Shape, AgreeButForTraitors}
use Rattle.dsr_names.specs.declared.actor.Actor.TheVariants.{Replica, Client}
use Rattle.dsr_client.proofs.Lemmas.{seen_blind}
use Rattle.dsr_node.specs.Conduct.{is_traitor_of}
use Rattle.dsr_node.proofs.Lemmas.{post_blind, is_actor_blind, exhausted_blind, undue_blind}
use Rattle.dsr_play.specs.Event.{actor_of}
use Rattle.dsr_play.specs.declared.event.Event.{Event}
use Rattle.dsr_play.specs.declared.event.Event.TheVariants.{Post, Plant, Take, Tell}
use Rattle.dsr_run.specs.Step.{Logs}
use Rattle.dsr_world.specs.Event.{step_of, refusal_of}

module _ (shape other : Shape) (agree : AgreeButForTraitors shape other) where
  pub event_blind : (logs : Logs) (event : Event) → step_of shape logs event ≡ step_of other logs event
  event_blind logs (Post from to pick) = simp (post_blind shape other agree)
  event_blind logs (Plant from to draft) = refl
  event_blind logs (Take at from) = refl
  event_blind logs (Tell (Client c) to) = simp (seen_blind shape other agree)
  event_blind logs (Tell (Replica p) to) = refl

  -- its tests are the same if its actor's role is
  pub refused_blind : (logs : Logs) (event : Event) → is_traitor_of shape (actor_of event) ≡ is_traitor_of other (actor_of event)
      → refusal_of shape logs event ≡ refusal_of other logs event
  refused_blind logs (Post from to pick) role =
      simp (is_actor_blind shape other agree, role, post_blind shape other agree, exhausted_blind shape other agree)
  refused_blind logs (Plant from to draft) role = simp (is_actor_blind shape other agree, role)
  refused_blind logs (Take at from) role = simp (is_actor_blind shape other agree, undue_blind shape other agree (logs at) at from role)
  refused_blind logs (Tell from to) role = simp (is_actor_blind shape other agree)

-- What an actor posts and takes does not depend on who else is a traitor.
use Rattle.std.proofs.Common.{◌≡◌, List, arith, ℕ}
use Rattle.dsr_names.specs.Shape.{Shape, AgreeButForTraitors}
use Rattle.dsr_names.specs.declared.actor.Actor.{Actor}
use Rattle.dsr_envelope.specs.declared.entry.Entry.{Entry}
use Rattle.dsr_envelope.specs.declared.pick.Pick.{Pick}
use Rattle.dsr_replica.proofs.Lemmas.{due_blind, rounds_blind, envelope_to_blind, reply_to_blind}
use Rattle.dsr_client.proofs.Lemmas.{state_blind, ask_blind}
use Rattle.dsr_node.specs.Conduct.{post_of, is_exhausted, is_undue, is_actor, is_traitor_of}

module _ (shape other : Shape) (agree : AgreeButForTraitors shape other) where
  pub post_blind : (log : List Entry) (from to : Actor) (pick : Pick) → post_of shape log from to pick ≡ post_of other log from to pick
  post_blind log from to pick =
      grind (
        arith,
        λ (p : Actor) (q : ℕ). envelope_to_blind shape other agree p log q pick,
        reply_to_blind shape other agree log,
        λ (c : ℕ). ask_blind shape other agree c log pick,
      )

  pub is_actor_blind : (a : Actor) → is_actor shape a ≡ is_actor other a
  is_actor_blind a = grind arith

  pub exhausted_blind : (log : List Entry) (from to : Actor) (pick : Pick) → is_exhausted shape log from to pick ≡ is_exhausted other log from to pick
  exhausted_blind log from to pick = grind (arith, rounds_blind shape other agree log, state_blind shape other agree log)

  pub undue_blind : (log : List Entry) (at from : Actor) → is_traitor_of shape at ≡ is_traitor_of other at → is_undue shape log at from ≡ is_undue other log at from
  undue_blind log at from role = grind (arith, due_blind shape other agree log)

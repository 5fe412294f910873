-- What nothing refuses is a step that may be next.
use Rattle.std.proofs.Common.{◌≡◌, ℕ, ◌<◌, false, List, [], ◌∷◌, ◌++◌, Some, refl, sym, arith}
use Rattle.std.proofs.lemmas.Bool.Decides.{nat_tests}
use Rattle.dsr_names.specs.Shape.{Shape, IsActor, IsAllowed}
use Rattle.dsr_names.specs.declared.actor.Actor.{Actor}
use Rattle.dsr_names.specs.declared.actor.Actor.TheVariants.{Replica, Client}
use Rattle.dsr_envelope.specs.declared.envelope.Envelope.{Envelope}
use Rattle.dsr_envelope.specs.declared.entry.Entry.TheVariants.{Post, Take}
use Rattle.dsr_envelope.specs.declared.pick.Pick.{Pick}
use Rattle.dsr_envelope.specs.Log.{posted_to, taken_from}
use Rattle.dsr_envelope.specs.Pick.{IsPick}
use Rattle.dsr_node.specs.Conduct.{post_of, is_exhausted, is_traitor_of, is_undue, HasSpelledOp}
use Rattle.dsr_node.proofs.Lemmas.{replica_next, round_below, client_next, new_request_within, take_next as replica_take_next}
use Rattle.dsr_run.specs.OwnStep.{KeepsOwn, FitsWhereFree, HasPostsLeft}
use Rattle.dsr_run.specs.Run.{KeepsRounds, KeepsConduct, IsNextStep, IsRun}
use Rattle.dsr_run.specs.Step.{Step, Logs, log_of}
use Rattle.dsr_run.proofs.Lemmas.{post_next, take_next}
use Rattle.dsr_world.specs.Event.{is_used_up}

pub posts_left : (logs : Logs) (from to : Actor) → is_used_up logs from to ≡ false → HasPostsLeft (logs from) to
posts_left logs from to used = grind (arith, nat_tests)

module _ (shape : Shape) (allowed : IsAllowed shape) (older : List Step) (is : IsRun shape older) where
  -- ---- posts

  rounds_of : (p : ℕ) (to : Actor) (pick : Pick) (x : Envelope) → is_exhausted shape (log_of older (Replica p)) (Replica p) to pick ≡ false
      → KeepsRounds shape (log_of older (Replica p)) (Post to x)
  rounds_of p (Replica q) pick x more = round_below shape (log_of older (Replica p)) p q pick more
  rounds_of p (Client c) pick x more = tt

  post_allowed : (from to : Actor) (pick : Pick) (x : Envelope) → IsActor shape from → IsActor shape to → IsPick pick → HasSpelledOp pick
      → is_traitor_of shape from ≡ false → post_of shape (log_of older from) from to pick ≡ Some x
      → is_exhausted shape (log_of older from) from to pick ≡ false
      → KeepsConduct shape (log_of older) from (Post to x) × FitsWhereFree shape from (log_of older from) to x
  post_allowed (Replica p) to pick x actor other good spelled honest e more =
      let keeps = replica_next shape (log_of older (Replica p)) p to pick x other good e in
      ((λ loyal. (keeps, rounds_of p to pick x more), λ traitor. absurd cc), λ traitor. absurd cc)
  post_allowed (Client c) (Client d) pick x actor other good spelled honest e more = absurd cc
  post_allowed (Client c) (Replica q) pick x actor other good spelled honest e more =
      let log = log_of older (Client c) in
      let client : c < 32 = omega arith in
      (client_next shape log c (Replica q) pick x other e, λ none. new_request_within shape log c (Replica q) pick x client spelled none e more)

  -- a loyal actor's post
  pub posts_next : (from to : Actor) (pick : Pick) (x : Envelope) → IsActor shape from → IsActor shape to → IsPick pick → HasSpelledOp pick
      → is_traitor_of shape from ≡ false → post_of shape (log_of older from) from to pick ≡ Some x
      → is_exhausted shape (log_of older from) from to pick ≡ false → is_used_up (log_of older) from to ≡ false
      → posted_to to (log_of older from) ≡ taken_from from (log_of older to) → IsNextStep shape (log_of older) (from, Post to x)
  posts_next from to pick x actor other good spelled honest e more used empty =
      let is_allowed = post_allowed from to pick x actor other good spelled honest e more in
      post_next shape allowed older is from to x actor other is_allowed.0 is_allowed.1 (posts_left (log_of older) from to used) empty

  -- ---- takes

  take_keeps : (at from : Actor) (x : Envelope) → IsActor shape from → (at ≡ from → (c : ℕ) → at ≡ Client c → ⊥)
      → is_undue shape (log_of older at) at from ≡ false → KeepsOwn shape at (log_of older at) (Take from x)
  take_keeps (Replica p) from x other apart timely =
      λ honest. (replica_take_next shape (log_of older (Replica p)) p from x other honest timely, tt)
  take_keeps (Client c) from x other apart timely = (other, λ e. apart (sym e) c refl)

  -- a take
  pub takes_next : (at from : Actor) (x : Envelope) → IsActor shape at → IsActor shape from → (at ≡ from → (c : ℕ) → at ≡ Client c → ⊥)
      → is_undue shape (log_of older at) at from ≡ false
      → posted_to at (log_of older from) ≡ taken_from from (log_of older at) ++ x ∷ [] → IsNextStep shape (log_of older) (at, Take from x)
  takes_next at from x actor other apart timely full =
      take_next shape allowed older is at from x actor other (take_keeps at from x other apart timely) full

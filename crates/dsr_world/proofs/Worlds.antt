-- How the parts of a world represent its run, event by event.
use Rattle.std.proofs.Common.{◌≡◌, ◌↔◌, ℕ, zero, suc, ◌<◌, ◌^◌, ◌&&◌, not, Bool, true, false, List, [], ◌∷◌, None, Some, length, ◌⊎◌, refl, arith}
use Rattle.std.specs.List.{AllByRecursion}
use Rattle.std.specs.Option.{is_none}
use Rattle.std.specs.Prelude.{Any, slice_set}
use Rattle.std.proofs.lemmas.Bool.{ltb-true, not-false, and_parts, or_parts}
use Rattle.dsr_base.specs.Boxes.{box_at, row_of, with_box, with_item}
use Rattle.dsr_base.specs.Member.{In}
use Rattle.dsr_base.specs.declared.boxes.MailBox.{MailBox}
use Rattle.dsr_base.proofs.MemberLemmas.{In-from_place}
use Rattle.dsr_names.specs.Places.{place_of}
use Rattle.dsr_names.specs.Shape.{Shape, IsActor, IsAllowed, IsLoyal}
use Rattle.dsr_names.specs.declared.actor.Actor.{Actor}
use Rattle.dsr_names.specs.declared.actor.Actor.TheVariants.{Replica, Client}
use Rattle.dsr_names.specs.declared.refusal.Refusal.{Refusal}
use Rattle.dsr_names.proofs.PlaceLemmas.{place_below}
use Rattle.dsr_desk.specs.Signature.{Signature}
use Rattle.dsr_envelope.specs.declared.envelope.Envelope.{Envelope}
use Rattle.dsr_envelope.specs.declared.entry.Entry.TheVariants.{Post as PostEntry}
use Rattle.dsr_envelope.specs.declared.pick.Pick.{Pick}
use Rattle.dsr_envelope.specs.declared.pick.Pick.TheVariants.{Plain, From, Begin}
use Rattle.dsr_envelope.specs.Envelope.{Carries}
use Rattle.dsr_envelope.specs.Log.{posted_to, rounds, taken_from}
use Rattle.dsr_envelope.specs.Pick.{IsPick}
use Rattle.dsr_replica.specs.Conduct.{envelope_to}
use Rattle.dsr_replica.proofs.Lemmas.{chosen_then}
use Rattle.dsr_client.proofs.Lemmas.{post_none}
use Rattle.dsr_node.specs.Conduct.{is_actor, is_traitor_of, are_clients, is_exhausted, post_of, HasSpelledOp}
use Rattle.dsr_node.specs.Node.{CanPost, Plays, post_refusal}
use Rattle.dsr_node.specs.declared.node.Node.{Node}
use Rattle.dsr_node.proofs.Lemmas.{honest_plays}
use Rattle.dsr_play.specs.declared.event.Event.TheVariants.{Post}
use Rattle.dsr_run.specs.Known.{KnowsAll}
use Rattle.dsr_run.specs.Run.{IsNextStep, IsTraitor}
use Rattle.dsr_run.specs.Step.{Step, Logs, log_of}
use Rattle.dsr_run.proofs.Lemmas.{known_posted, posted_entry}
use Rattle.dsr_world.specs.Event.{is_full, is_used_up, refusals, refusal_of, first_of, Answers, HasDone}
use Rattle.dsr_world.specs.Support.StageFields.{ArePlayed, AreParts, is_posted_again}
use Rattle.dsr_world.proofs.NextSteps.{posts_left, posts_next}
use Rattle.dsr_world.proofs.Stepping.{log_own, log_other, played_with, boxes_posted, all_taken}

-- ---- what was not refused

-- if no row refuses, no test holds
pub none_holds : (rows : List (Bool × Refusal)) → first_of rows ≡ None → AllByRecursion (λ row. row.0 ≡ false) rows
none_holds [] e = tt
none_holds ((true, r) ∷ rows) e = absurd cc
none_holds ((false, r) ∷ rows) e = (refl, none_holds rows e)

actor_is : (shape : Shape) (a : Actor) → is_actor shape a ≡ true → IsActor shape a
actor_is shape (Replica p) e = ltb-true p shape.n e
actor_is shape (Client c) e = ltb-true c shape.m e

pub actors_are : (shape : Shape) (a b : Actor) → not (is_actor shape a && is_actor shape b) ≡ false → IsActor shape a × IsActor shape b
actors_are shape a b e =
    let both = and_parts (is_actor shape a) (is_actor shape b) (not-false (is_actor shape a && is_actor shape b) e) in
    (actor_is shape a both.0, actor_is shape b both.1)

pub loyal_is : (shape : Shape) (a : Actor) → IsActor shape a → is_traitor_of shape a ≡ false → IsLoyal shape a
loyal_is shape (Replica q) inside good = (inside, good)
loyal_is shape (Client c) inside good = inside

-- a loyal actor's post that nothing refuses
pub record IsCleared (shape : Shape) (logs : Logs) (from to : Actor) (pick : Pick) : Type 0 where
  pub actor : IsActor shape from
  pub other : IsActor shape to
  pub honest : is_traitor_of shape from ≡ false
  pub given : is_none (post_of shape (logs from) from to pick) ≡ false
  pub more : is_exhausted shape (logs from) from to pick ≡ false
  pub used : is_used_up logs from to ≡ false
  pub room : is_full logs from to ≡ false

pub cleared : (shape : Shape) (logs : Logs) (from to : Actor) (pick : Pick) → refusal_of shape logs (Post from to pick) ≡ None
    → IsCleared shape logs from to pick
cleared shape logs from to pick e =
    let none = none_holds (refusals shape logs (Post from to pick)) e in
    let actors = actors_are shape from to none.0 in
    let roles = or_parts (is_traitor_of shape from) (are_clients from to) none.1.0 in
    let ends = or_parts (is_exhausted shape (logs from) from to pick) (is_used_up logs from to) none.1.1.1.0 in
    record {
      actor = actors.0;
      other = actors.1;
      honest = roles.0;
      given = none.1.1.0;
      more = ends.0;
      used = ends.1;
      room = none.1.1.1.1.0;
    }

-- the actor's protocol does not refuse it either
pub conduct_cleared : (shape : Shape) (logs : Logs) (from to : Actor) (pick : Pick) → IsCleared shape logs from to pick
    → post_refusal shape (logs from) from to pick ≡ None
conduct_cleared shape logs from to pick is = rw (is.given, is.more)

-- so the actor's node may make it
pub can_post : (shape : Shape) (logs : Logs) (from to : Actor) (pick : Pick) (node : Node) → IsCleared shape logs from to pick
    → Plays shape from (logs from) node → CanPost node to pick
can_post shape logs from to pick node is plays = record {
  shape = shape;
  me = from;
  log = logs from;
  plays = plays;
  honest = honest_plays shape from (logs from) node is.honest plays;
  none = conduct_cleared shape logs from to pick is;
}

-- ---- posts

module _ (shape : Shape) (run : List Step) (nodes : List Node) (rows : List (List (MailBox Envelope))) (keys : List Actor) (known : List Signature)
    (are : AreParts shape run nodes rows keys known) where
  -- all that was posted into a box that is not full is taken
  pub room_for : (from to : Actor) → IsActor shape from → IsActor shape to → is_full (log_of run) from to ≡ false
      → posted_to to (log_of run from) ≡ taken_from from (log_of run to)
  room_for from to actor other room =
      all_taken (box_at rows (place_of shape from) (place_of shape to)).item _ _ (are.boxes.each from to actor other).holds room

  -- after a post, with its envelope in the box
  pub parts_posted : (from to : Actor) (x : Envelope) (later : List Node) (new : List Signature) → IsNextStep shape (log_of run) (from, PostEntry to x)
      → ArePlayed shape (log_of ((from, PostEntry to x) ∷ run)) later → KnowsAll shape (log_of ((from, PostEntry to x) ∷ run)) new
      → AreParts shape ((from, PostEntry to x) ∷ run) later
      (with_box rows (place_of shape from) (place_of shape to) (with_item (box_at rows (place_of shape from) (place_of shape to)) x)) keys new
  parts_posted from to x later new next played knows = record {
    is_run = (are.is_run, next);
    played = played;
    boxes = boxes_posted shape run rows are.boxes from to x next;
    held = are.held;
    knows = knows;
  }

  -- what is known after a loyal actor's post
  pub learned_post : (from to : Actor) (x : Envelope) (new : List Signature) → IsLoyal shape from
      → ((holder : Actor) → Any (λ h. h ≡ holder) keys → (s : Signature) → In s new ↔ (In s known ⊎ Carries x s))
      → KnowsAll shape (log_of ((from, PostEntry to x) ∷ run)) new
  learned_post from to x new loyal learned p traitor =
      known_posted shape run known new from to x (are.knows p traitor) loyal (learned (Replica p) ((are.held (Replica p)).1 traitor))

  -- a replica has already posted to replica 0 what it posts to any other replica
  posted_first : (p q : ℕ) (pick : Pick) (x : Envelope) → envelope_to shape (Replica p) (log_of run (Replica p)) (suc q) pick ≡ Some x
      → In x (posted_to (Replica 0) (log_of run (Replica p)))
  posted_first p q Plain x e =
      let given = chosen_then shape (Replica p) (log_of run (Replica p)) (suc q) Plain x e in
      In-from_place x (posted_to (Replica 0) (log_of run (Replica p))) (rounds shape (log_of run (Replica p))) given
  posted_first p q (From clients) x e = let given = chosen_then shape (Replica p) (log_of run (Replica p)) (suc q) (From clients) x e in absurd cc
  posted_first p q (Begin op) x e = let given = chosen_then shape (Replica p) (log_of run (Replica p)) (suc q) (Begin op) x e in absurd cc

  -- so the signatures in it are known
  pub known_again : (from to : Actor) (pick : Pick) (x : Envelope) → is_posted_again from to ≡ true → IsActor shape from → is_traitor_of shape from ≡ false
      → post_of shape (log_of run from) from to pick ≡ Some x → (holder : Actor) → Any (λ h. h ≡ holder) keys → (s : Signature) → Carries x s → In s known
  known_again (Replica p) (Replica zero) pick x again actor honest e holder held s carries = absurd cc
  known_again (Replica p) (Client c) pick x again actor honest e holder held s carries = absurd cc
  known_again (Client c) to pick x again actor honest e holder held s carries = absurd cc
  known_again (Replica p) (Replica (suc q)) pick x again actor honest e holder held s carries = by_holder holder ((are.held holder).0 held)
    where
      by_holder : (h : Actor) → IsTraitor shape h → In s known
      by_holder (Client c) traitor = absurd traitor
      by_holder (Replica t) traitor =
          let posted = posted_entry (Replica 0) (log_of run (Replica p)) x (posted_first p q pick x e) in
          (are.knows t traitor).all s (Replica p) (actor, honest) (record { to = Replica 0; envelope = x; posted = posted; carried = carries })

  -- the row and the box of a pair of actors
  pub row_long : (from to : Actor) → IsActor shape from → IsActor shape to → place_of shape to < length (row_of rows (place_of shape from))
  row_long from to actor other =
      let count = are.boxes.square.each (place_of shape from) (place_below shape from actor) in
      let below = place_below shape to other in
      omega arith

  pub posts_few : (from to : Actor) → IsActor shape from → IsActor shape to → is_used_up (log_of run) from to ≡ false
      → (box_at rows (place_of shape from) (place_of shape to)).posts < 2 ^ 40
  posts_few from to actor other used =
      let count = (are.boxes.each from to actor other).count in
      let left = posts_left (log_of run) from to used in
      omega arith

  -- after a loyal actor's post that nothing refused
  pub parts_after_post : (from to : Actor) (pick : Pick) (x : Envelope) (node : Node) (new : List Signature) → IsAllowed shape → IsPick pick → HasSpelledOp pick
      → IsCleared shape (log_of run) from to pick → post_of shape (log_of run from) from to pick ≡ Some x
      → Plays shape from (PostEntry to x ∷ log_of run from) node
      → ((holder : Actor) → Any (λ h. h ≡ holder) keys → (s : Signature) → In s new ↔ (In s known ⊎ Carries x s))
      → AreParts shape ((from, PostEntry to x) ∷ run) (slice_set nodes (place_of shape from) node)
      (with_box rows (place_of shape from) (place_of shape to) (with_item (box_at rows (place_of shape from) (place_of shape to)) x)) keys new
  parts_after_post from to pick x node new allowed good spelled is e plays learned =
      let step : Step = (from, PostEntry to x) in
      let next = posts_next shape allowed run are.is_run from to pick x is.actor is.other good spelled is.honest e is.more is.used
      (room_for from to is.actor is.other is.room) in
      let played = played_with shape nodes (log_of run) (log_of (step ∷ run)) from are.played is.actor (log_other step run) node (rw (log_own step run) plays) in
      parts_posted from to x (slice_set nodes (place_of shape from) node) new next played
      (learned_post from to x new (loyal_is shape from is.actor is.honest) learned)

module _ (shape : Shape) (run : List Step) where
  -- a post accepts nothing
  pub post_answers : (from to : Actor) (x : Envelope) → Answers shape (log_of ((from, PostEntry to x) ∷ run)) (log_of run) (from, PostEntry to x) None
  post_answers (Replica p) to x = refl
  post_answers (Client c) to x = rw (log_own (Client c, PostEntry to x) run) (post_none shape to x (log_of run (Client c))).same

  -- the post is the event
  pub done_post : (from to : Actor) (pick : Pick) (x : Envelope) → post_of shape (log_of run from) from to pick ≡ Some x
      → HasDone shape ((from, PostEntry to x) ∷ run) run (Post from to pick) None
  done_post from to pick x e = record { step = (from, PostEntry to x); is_event = rw e; went_on = refl; answers = post_answers from to x }

-- What follows for a loyal actor's step if its own log refuses nothing.
use Rattle.std.proofs.Common.{◌≡◌, ◌≢◌, ℕ, ◌<◌, ◌||◌, not, Bool, true, false, List, ◌∷◌, Option, None, Some, if◌then◌else◌, refl, sym, arith}
use Rattle.std.specs.Bool.{Decides}
use Rattle.std.specs.Option.{is_none}
use Rattle.std.proofs.lemmas.Bool.{both_ways, not-true, not-false, or_parts, eqb-false}
use Rattle.std.proofs.lemmas.Bool.Decides.{Decides-ltb}
use Rattle.std.proofs.lemmas.Option.{none-some}
use Rattle.dsr_names.specs.Shape.{Shape, is_traitor, IsActor, IsAllowed}
use Rattle.dsr_names.specs.declared.actor.Actor.{Actor}
use Rattle.dsr_names.specs.declared.actor.Actor.TheVariants.{Replica, Client}
use Rattle.dsr_names.specs.declared.refusal.Refusal.{Refusal}
use Rattle.dsr_names.specs.declared.refusal.Refusal.TheVariants.{NoActor, WrongRole, NotDue, Exhausted}
use Rattle.dsr_envelope.specs.declared.envelope.Envelope.{Envelope}
use Rattle.dsr_envelope.specs.declared.envelope.Envelope.TheVariants.{Seen}
use Rattle.dsr_envelope.specs.declared.entry.Entry.{Entry}
use Rattle.dsr_envelope.specs.declared.entry.Entry.TheVariants.{Post}
use Rattle.dsr_envelope.specs.declared.pick.Pick.{Pick}
use Rattle.dsr_envelope.specs.Pick.{IsPick}
use Rattle.dsr_client.specs.State.{seen}
use Rattle.dsr_node.specs.Conduct.{post_of, is_exhausted, is_actor, is_traitor_of, are_clients, HasSpelledOp}
use Rattle.dsr_node.specs.Node.{Plays}
use Rattle.dsr_node.specs.declared.node.Node.{Node}
use Rattle.dsr_node.specs.declared.node.Node.TheVariants.{Client as ClientNode}
use Rattle.dsr_node.proofs.Lemmas.{replica_next, round_below, client_next, new_request_within}
use Rattle.dsr_run.specs.OwnStep.{FitsWhereFree, MayPost}
use Rattle.dsr_run.specs.Run.{KeepsRounds}
use Rattle.dsr_boxes.specs.Pass.{Pass, with_entry}
use Rattle.dsr_mail.specs.Loyal.{IsLoyalSeat}
use Rattle.dsr_mail.specs.Refusals.{is_spent, post_refused, tell_refused}

-- ---- tests

pub actor_decides : (shape : Shape) (a : Actor) → Decides (is_actor shape a) (IsActor shape a)
actor_decides shape (Replica p) = Decides-ltb p shape.n
actor_decides shape (Client c) = Decides-ltb c shape.m

-- a test that refuses nothing, and then what the other tests refuse
passed : (b : Bool) (r : Refusal) (o : Option Refusal) → (if b then Some r else o) ≡ None → (b ≡ false) × (o ≡ None)
passed true r o e = absurd (none-some r (sym e))
passed false r o e = (refl, e)

-- the own log refuses what the actor's protocol refuses, if no earlier test refuses it
pub refused_by_conduct : (a b n x s : Bool) (r : Refusal) → a ≡ true → b ≡ false → Some r ≡ (if n then Some NotDue else if x then Some Exhausted else None)
    → Some r ≡ (if not a then Some NoActor else if b then Some WrongRole else if n then Some NotDue else if x || s then Some Exhausted else None)
refused_by_conduct a b n x s r e f by = grind arith

-- ---- posts

module _ (shape : Shape) (log : List Entry) (pick : Pick) (x : Envelope) where
  keeps_rounds : (p : ℕ) (to : Actor) → is_exhausted shape log (Replica p) to pick ≡ false → KeepsRounds shape log (Post to x)
  keeps_rounds p (Replica q) more = round_below shape log p q pick more
  keeps_rounds p (Client c) more = tt

  fits_free : (c : ℕ) (to : Actor) → c < 32 → HasSpelledOp pick → is_exhausted shape log (Client c) to pick ≡ false
      → post_of shape log (Client c) to pick ≡ Some x → FitsWhereFree shape (Client c) log to x
  fits_free c (Replica q) small spelled more given = λ none. new_request_within shape log c (Replica q) pick x small spelled none given more
  fits_free c (Client d) small spelled more given = tt

  -- what a loyal actor's own log does not refuse
  cleared : (me to : Actor) → post_refused shape me log to pick ≡ None → IsActor shape to × (is_exhausted shape log me to pick ≡ false)
  cleared me to e =
      let other = passed _ _ _ e in
      let roles = passed (are_clients me to) WrongRole _ other.1 in
      let due = passed (is_none (post_of shape log me to pick)) NotDue _ roles.1 in
      let left = passed (is_exhausted shape log me to pick || is_spent log to) Exhausted None due.1 in
      ((actor_decides shape to).0 (not-false _ other.0), (or_parts (is_exhausted shape log me to pick) (is_spent log to) left.0).0)

  -- that it may post
  pub may_post : (me to : Actor) → IsAllowed shape → IsActor shape me → is_traitor_of shape me ≡ false → IsPick pick → HasSpelledOp pick
      → post_refused shape me log to pick ≡ None → post_of shape log me to pick ≡ Some x → MayPost shape me log to x
  may_post (Replica p) to allowed inside honest good spelled none given =
      let is = cleared (Replica p) to none in
      record {
        keeps = λ loyal. (replica_next shape log p to pick x is.0 good given, keeps_rounds p to is.1);
        fits = λ traitor. absurd (both_ways (is_traitor shape p) honest traitor);
        forges = λ traitor. absurd (both_ways (is_traitor shape p) honest traitor);
      }
  may_post (Client c) to allowed inside honest good spelled none given =
      let is = cleared (Client c) to none in
      record {
        keeps = client_next shape log c to pick x is.0 given;
        fits = let most = allowed.few_clients in fits_free c to (omega (arith, inside, most)) spelled is.1 given;
        forges = tt;
      }

-- ---- telling

-- a telling that the own log does not refuse is one client's to another
told : (shape : Shape) (me : Actor) (log : List Entry) (to : Actor) → tell_refused shape me log to ≡ None
    → (c d : ℕ) × (me ≡ Client c) × (to ≡ Client d) × (d < shape.m) × (d ≢ c)
told shape (Client c) log (Client d) e =
    let actor = passed _ _ _ e in
    let two = passed _ _ _ actor.1 in
    (c, d, refl, refl, (actor_decides shape (Client d)).0 (not-false _ actor.0), λ same. eqb-false c d (not-true _ (not-false _ two.0)) (sym same))
told shape me log to e = absurd (none-some WrongRole (sym (passed _ _ _ e).1))

-- what a client tells another leaves its node as it is
told_plays : (shape : Shape) (c d : ℕ) (log : List Entry) (x : Envelope) (node : Node) → Plays shape (Client c) log node
    → Plays shape (Client c) (Post (Client d) x ∷ log) node
told_plays shape c d log x (ClientNode y) plays = assumption
told_plays shape c d log x other plays = elim plays [ ]

-- the client may post its seen front, and its node plays the client with this post added to the log
pub record Tells (seat : Pass) (node : Node) (to : Actor) (front : ℕ) : Type 0 where
  pub front_is : front ≡ seen seat.shape seat.log
  pub may : MayPost seat.shape seat.actor seat.log to (Seen front)
  pub after : IsLoyalSeat (with_entry seat (Post to (Seen front))) node

pub telling : (seat : Pass) (node : Node) (to : Actor) (front : ℕ) → tell_refused seat.shape seat.actor seat.log to ≡ None → IsLoyalSeat seat node
    → ((shape : Shape) (c : ℕ) (log : List Entry) → Plays shape (Client c) log node → front ≡ seen shape log) → Tells seat node to front
telling seat node to front none loyal tells = by_clients (told seat.shape seat.actor seat.log to none)
  where
    by_clients : (c d : ℕ) × (seat.actor ≡ Client c) × (to ≡ Client d) × (d < seat.shape.m) × (d ≢ c) → Tells seat node to front
    by_clients (c, d, me_is, to_is, inside, apart) =
        let plays = rw me_is at loyal.plays in
        let same = tells seat.shape c seat.log plays in
        record {
          front_is = same;
          may = rw (me_is, to_is, same) (record { keeps = (inside, apart, refl); fits = tt; forges = tt });
          after = record {
            plays = rw (me_is, to_is) (told_plays seat.shape c d seat.log (Seen front) node plays);
            honest = loyal.honest;
            keeps = rw (me_is, to_is, same) (rw me_is at loyal.keeps, (inside, apart, refl));
          };
        }

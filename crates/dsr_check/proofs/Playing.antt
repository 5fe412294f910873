-- A client's step as its party's.
use Rattle.std.proofs.Common.{◌<◌, ◌^◌, Option, None, Some, refl, ◌∙◌, subst, ◌≢◌, ℕ, List, ◌∷◌, ◌≡◌, ap, sym, false}
use Rattle.std.specs.Prelude.{IsSome}
use Rattle.std.proofs.lemmas.Bool.{true≢false}
use Rattle.dsr_names.specs.Shape.{Shape, is_traitor, IsActor}
use Rattle.dsr_names.specs.declared.actor.Actor.{Actor}
use Rattle.dsr_names.specs.declared.actor.Actor.TheVariants.{Replica, Client}
use Rattle.dsr_envelope.specs.declared.entry.Entry.{Entry}
use Rattle.dsr_envelope.specs.declared.entry.Entry.TheVariants.{Post, Take}
use Rattle.dsr_envelope.specs.declared.envelope.Envelope.{Envelope}
use Rattle.dsr_envelope.specs.Pick.{IsPick}
use Rattle.dsr_envelope.specs.declared.pick.Pick.{Pick}
use Rattle.dsr_envelope.specs.Log.{rounds}
use Rattle.dsr_replica.specs.Conduct.{envelope_to}
use Rattle.dsr_replica.specs.Replica.{Allows, Replica as AReplica, StandsFor}
use Rattle.dsr_replica.proofs.Lemmas.{allowed_is}
use Rattle.dsr_run.specs.OwnStep.{KeepsOwn}
use Rattle.dsr_check.specs.Support.Party.{CanPost, Plays, PlaysClient, PlaysReplica}
use Rattle.dsr_check.specs.declared.customer.Customer.{Customer}
use Rattle.dsr_check.specs.declared.party.Party.{Party}
use Rattle.dsr_check.specs.declared.party.Party.TheVariants as party

-- a client takes from another actor
pub client_takes : (shape : Shape) (me : Actor) (log : List Entry) (from : Actor) (x : Envelope) (before after : Customer)
    → Plays shape me log (party.Client before) → IsActor shape from → from ≢ me
    → ((c : ℕ) → PlaysClient shape c log before → PlaysClient shape c (Take from x ∷ log) after)
    → KeepsOwn shape me log (Take from x) × Plays shape me (Take from x ∷ log) (party.Client after)
client_takes shape (Replica p) log from x before after plays inside other taken = elim plays [ ]
client_takes shape (Client c) log from x before after plays inside other taken = ((inside, other), taken c plays)

some_of : (o : Option Envelope) → IsSome o → (y : Envelope) × (o ≡ Some y)
some_of None e = absurd (true≢false (sym e))
some_of (Some y) e = (y, refl)

-- a loyal replica's post by this choice, if that can only be this envelope
pub replica_posts : (shape : Shape) (p : ℕ) (log : List Entry) (r after : AReplica) (q : ℕ) (pick : Pick) (x : Envelope) → PlaysReplica shape p log r
    → Allows r q pick → IsPick pick → after.me ≡ r.me → after.shape ≡ r.shape
    → ((y : Envelope) → envelope_to r.shape r.me log q pick ≡ Some y → StandsFor after (Post (Replica q) y ∷ log))
    → ((y : Envelope) → envelope_to shape (Replica p) log q pick ≡ Some y → x ≡ y)
    → KeepsOwn shape (Replica p) log (Post (Replica q) x) × Plays shape (Replica p) (Post (Replica q) x ∷ log) (party.Loyal after)
replica_posts shape p log r after q pick x plays may good me shape_is stands only =
    let allowed = (allowed_is r log q pick plays.stands).0 may in
    let given = some_of (envelope_to r.shape r.me log q pick) allowed.0 in
    let e : envelope_to shape (Replica p) log q pick ≡ Some given.0 =
    subst (λ m. envelope_to shape m log q pick ≡ Some given.0) plays.me (subst (λ s. envelope_to s r.me log q pick ≡ Some given.0) plays.shape_is given.1) in
    let same = only given.0 e in
    let below : rounds shape log < 2 ^ 36 = subst (λ s. rounds s log < 2 ^ 36) plays.shape_is allowed.1 in (
      λ honest. ((pick, good, e ∙ ap Some (sym same)), below),
      record {
        honest = plays.honest;
        me = me ∙ plays.me;
        shape_is = shape_is ∙ plays.shape_is;
        stands = subst (λ z. StandsFor after (Post (Replica q) z ∷ log)) (sym same) (stands given.0 given.1);
      },
    )

-- an actor that can post so is not a traitor
pub can_post_loyal : (shape : Shape) (p q : ℕ) (pick : Pick) (log : List Entry) (whose : Party) → Plays shape (Replica p) log whose → CanPost whose q pick
    → is_traitor shape p ≡ false
can_post_loyal shape p q pick log (party.Loyal r) plays can = plays.honest
can_post_loyal shape p q pick log party.Traitor plays can = elim can [ ]
can_post_loyal shape p q pick log (party.Client x) plays can = elim can [ ]

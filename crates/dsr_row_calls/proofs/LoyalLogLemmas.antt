-- A replica's loyal log gets one more entry and stays loyal.
use Rattle.std.proofs.Common.{◌≡◌, ℕ, suc, ◌<◌, List, ◌∷◌, Some, refl, ap, sym, subst}
use Rattle.dsr_names.specs.declared.actor.Actor.TheVariants.{Replica as ReplicaNumber, Client as ClientNumber}
use Rattle.dsr_envelope.specs.declared.envelope.Envelope.{Envelope}
use Rattle.dsr_envelope.specs.declared.entry.Entry.{Entry}
use Rattle.dsr_envelope.specs.declared.entry.Entry.TheVariants.{Post}
use Rattle.dsr_envelope.specs.declared.pick.Pick.{Pick}
use Rattle.dsr_replica.specs.Conduct.{IsLoyalLog, IsNext, envelope_to, reply_to}
use Rattle.dsr_envelope.specs.Pick.{IsPick}
use Rattle.dsr_replica.specs.Replica.{Replica, StandsFor}
use Rattle.dsr_row_calls.specs.LoyalLogs.{HasLog}

one_entry : (r after : Replica) (count : ℕ) (h : HasLog r count) (entry : Entry) → IsNext r.shape r.me h.log entry
    → StandsFor after (entry ∷ h.log) → after.me ≡ r.me → after.shape ≡ r.shape → HasLog after (suc count)
one_entry r after count h entry next stands me shape = record {
  log = entry ∷ h.log;
  long = ap suc h.long;
  loyal = subst (λ s. IsLoyalLog s after.me (entry ∷ h.log)) (sym shape)
      (subst (λ m. IsLoyalLog r.shape m (entry ∷ h.log)) (sym me) (h.loyal, next));
  stands = stands;
}

-- after a post to a replica, by the choice that gives this envelope
pub one_post : (r after : Replica) (count to : ℕ) (asked pick : Pick) (envelope : Envelope) → HasLog r count → IsPick pick → asked ≡ pick
    → ((log : List Entry) → StandsFor r log → envelope_to r.shape r.me log to asked ≡ Some envelope)
    → ((log : List Entry) (e : Envelope) → StandsFor r log → envelope_to r.shape r.me log to pick ≡ Some e
    → StandsFor after (Post (ReplicaNumber to) e ∷ log))
    → after.me ≡ r.me → after.shape ≡ r.shape → HasLog after (suc count)
one_post r after count to asked pick envelope h picked same given posted me shape =
    let is : envelope_to r.shape r.me h.log to pick ≡ Some envelope =
    subst (λ p. envelope_to r.shape r.me h.log to p ≡ Some envelope) same (given h.log h.stands) in
    one_entry r after count h (Post (ReplicaNumber to) envelope) (pick, picked, is) (posted h.log envelope h.stands is) me shape

-- after a reply to a client
pub one_reply : (r : Replica) (count client : ℕ) (envelope : Envelope) → HasLog r count → client < r.shape.m
    → ((log : List Entry) → StandsFor r log → Some envelope ≡ reply_to r.shape log client)
    → ((log : List Entry) → StandsFor r log → StandsFor r (Post (ClientNumber client) envelope ∷ log)) → HasLog r (suc count)
one_reply r count client envelope h within given posted =
    one_entry r r count h (Post (ClientNumber client) envelope) (within, sym (given h.log h.stands)) (posted h.log h.stands) refl refl

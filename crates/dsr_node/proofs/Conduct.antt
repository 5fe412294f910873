-- What a choice gives keeps the protocol of its actor.
use Rattle.std.proofs.Common.{◌≡◌, ℕ, ◌<◌, ◌^◌, not, nat_lt, false, List, Option, None, Some, subst, arith}
use Rattle.std.specs.Option.{option_map}
use Rattle.std.proofs.lemmas.Bool.Decides.{nat_tests}
use Rattle.std.proofs.lemmas.Option.{same_Some}
use Rattle.dsr_names.specs.Shape.{Shape, is_traitor, IsActor}
use Rattle.dsr_names.specs.declared.actor.Actor.{Actor}
use Rattle.dsr_names.specs.declared.actor.Actor.TheVariants.{Replica, Client}
use Rattle.dsr_request.specs.RequestText.{IsRequest}
use Rattle.dsr_chain.specs.declared.signed_request.SignedRequest.{SignedRequest}
use Rattle.dsr_envelope.specs.declared.envelope.Envelope.{Envelope}
use Rattle.dsr_envelope.specs.declared.envelope.Envelope.TheVariants.{Ask}
use Rattle.dsr_envelope.specs.declared.entry.Entry.{Entry}
use Rattle.dsr_envelope.specs.declared.entry.Entry.TheVariants.{Post, Take}
use Rattle.dsr_envelope.specs.declared.due.Due.TheVariants.{Take as TakeFrom}
use Rattle.dsr_envelope.specs.declared.pick.Pick.{Pick}
use Rattle.dsr_envelope.specs.declared.pick.Pick.TheVariants.{Plain, Begin}
use Rattle.dsr_envelope.specs.Limits.{IsEnvelope, IsSigned}
use Rattle.dsr_envelope.specs.Log.{due, rounds}
use Rattle.dsr_envelope.specs.Pick.{IsPick}
use Rattle.dsr_replica.specs.Conduct.{IsNext}
use Rattle.dsr_client.specs.Conduct.{ask_of, next_number, chosen_beside, IsNext as IsNextOfClient}
use Rattle.dsr_client.specs.State.{outstanding}
use Rattle.dsr_node.specs.Conduct.{post_of, is_exhausted, is_undue, HasSpelledOp}

below_not : (a b : ℕ) → not (nat_lt a b) ≡ false → a < b
below_not a b e = grind (arith, nat_tests)

module _ (shape : Shape) (log : List Entry) where
  -- ---- posts

  pub replica_next : (p : ℕ) (to : Actor) (pick : Pick) (x : Envelope) → IsActor shape to → IsPick pick
      → post_of shape log (Replica p) to pick ≡ Some x → IsNext shape (Replica p) log (Post to x)
  replica_next p (Replica q) pick x inside good e = (pick, good, e)
  replica_next p (Client c) Plain x inside good e = (inside, e)
  replica_next p (Client c) pick x inside good e = cc

  pub round_below : (p q : ℕ) (pick : Pick) → is_exhausted shape log (Replica p) (Replica q) pick ≡ false → rounds shape log < 2 ^ 36
  round_below p q pick more = below_not (rounds shape log) (2 ^ 36) more

  pub client_next : (c : ℕ) (to : Actor) (pick : Pick) (x : Envelope) → IsActor shape to → post_of shape log (Client c) to pick ≡ Some x
      → IsNextOfClient shape c log (Post to x)
  client_next c (Replica q) pick x inside e = (inside, (pick, e))
  client_next c (Client d) pick x inside e = cc

  -- a new request is within the limits
  new_within : (c : ℕ) → c < 32 → (o : Option SignedRequest) → o ≡ None → (to : Actor) (pick : Pick) → HasSpelledOp pick
      → is_exhausted shape log (Client c) to pick ≡ false → (x : Envelope)
      → option_map Ask (chosen_beside o c (next_number shape log) pick) ≡ Some x → IsEnvelope x
  new_within c inside None none to (Begin op) good more x e =
      let below : next_number shape log < 2 ^ 40 = below_not (next_number shape log) (2 ^ 40) more in
      let request : IsRequest (ask_of c (next_number shape log) op).request =
      record { client_exists = inside; some_number = omega arith; small_number = below; is_op = good } in
      let signed : IsSigned (ask_of c (next_number shape log) op) =
      record { request = request; signature = record { signer = inside; statement = request } } in
      subst IsEnvelope (same_Some (Ask (ask_of c (next_number shape log) op)) x e) signed
  new_within c inside o none to pick good more x e = cc

  pub new_request_within : (c : ℕ) (to : Actor) (pick : Pick) (x : Envelope) → c < 32 → HasSpelledOp pick → outstanding shape log ≡ None
      → post_of shape log (Client c) to pick ≡ Some x → is_exhausted shape log (Client c) to pick ≡ false → IsEnvelope x
  new_request_within c (Client d) pick x inside good none e more = cc
  new_request_within c (Replica q) pick x inside good none e more =
      new_within c inside (outstanding shape log) none (Replica q) pick good more x e

  -- ---- takes

  pub take_due : (p q : ℕ) → is_traitor shape p ≡ false → is_undue shape log (Replica p) (Replica q) ≡ false → due shape log ≡ TakeFrom q
  take_due p q honest timely = grind (arith, nat_tests)

  pub take_next : (p : ℕ) (from : Actor) (x : Envelope) → IsActor shape from → is_traitor shape p ≡ false
      → is_undue shape log (Replica p) from ≡ false → IsNext shape (Replica p) log (Take from x)
  take_next p (Replica q) x inside honest timely = take_due p q honest timely
  take_next p (Client c) x inside honest timely = inside

-- Held asks can be proposed, by the sender and by no one else.
use Rattle.std.proofs.Common.{◌≡◌, ◌≢◌, ℕ, true, false, Bool, List, [], ◌∷◌, Option, None, Some, if◌then◌else◌, refl, ap, ap₂, ◌∙◌, subst}
use Rattle.std.specs.Prelude.{IsSome, map}
use Rattle.std.specs.Option.{option_map}
use Rattle.std.proofs.lemmas.Bool.{false_from_ne_true, false≢true}
use Rattle.std.proofs.lemmas.Option.{none-some, same_Some}
use Rattle.dsr_base.specs.Member.{In, here, there}
use Rattle.dsr_names.specs.Shape.{Shape}
use Rattle.dsr_names.specs.declared.actor.Actor.{Actor}
use Rattle.dsr_names.specs.Support.ActorEquality.{actor_eq, actor_eq-Decides}
use Rattle.dsr_chain.specs.Proper.{sender_of}
use Rattle.dsr_chain.specs.declared.signed_request.SignedRequest.{SignedRequest}
use Rattle.dsr_chain.specs.declared.slot_value.SlotValue.TheVariants.{Act}
use Rattle.dsr_envelope.specs.Log.{due, rounds}
use Rattle.dsr_envelope.specs.declared.envelope.Envelope.{Envelope}
use Rattle.dsr_envelope.specs.declared.entry.Entry.{Entry}
use Rattle.dsr_envelope.specs.declared.due.Due.TheVariants.{Post as PostTo}
use Rattle.dsr_envelope.specs.declared.pick.Pick.TheVariants.{From}
use Rattle.dsr_replica.specs.Conduct.{chosen, envelope_with, is_due, envelope_to}
use Rattle.dsr_replica.specs.Held.{held, put_before, all_held}
use Rattle.dsr_replica.specs.Shown.{IsOwnLast}
use Rattle.dsr_replica.proofs.Saying.{from_sender, from_another}
use Rattle.dsr_replica.proofs.Shown.{envelope_last}

either : {A : Type 0} (b : Bool) (x : A) → (if b then x else x) ≡ x
either true x = refl
either false x = refl

module _ (shape : Shape) (me : Actor) (log : List Entry) where
  -- the sender has an envelope with any asks that it holds
  pub held_offered : (clients : List ℕ) (asks : List SignedRequest) → due shape log ≡ PostTo 0 → me ≡ sender_of shape (rounds shape log)
      → all_held shape log clients ≡ Some asks
      → (envelope : Envelope) × (envelope_to shape me log 0 (From clients) ≡ Some envelope) × IsOwnLast shape me (rounds shape log) (Act asks) envelope
  held_offered clients asks next sends are =
      let own = (actor_eq-Decides me (sender_of shape (rounds shape log))).1 sends in (
        envelope_with shape me log (Act asks),
        ap (λ d. if is_due d 0 then chosen shape me log 0 (From clients) else None) next
            ∙ ap (option_map (envelope_with shape me log)) (from_sender shape me (rounds shape log) (all_held shape log clients) own ∙ ap (option_map Act) are),
        envelope_last shape me log (rounds shape log) (Act asks) own,
      )

  -- no one else has any
  pub others_offer_none : (clients : List ℕ) → me ≢ sender_of shape (rounds shape log) → envelope_to shape me log 0 (From clients) ≡ None
  others_offer_none clients other =
      ap (λ o. if is_due (due shape log) 0 then option_map (envelope_with shape me log) o else None)
      (from_another shape me (rounds shape log) (all_held shape log clients)
      (false_from_ne_true (actor_eq me (sender_of shape (rounds shape log))) (λ e. other ((actor_eq-Decides me (sender_of shape (rounds shape log))).0 e))))
      ∙ either (is_due (due shape log) 0) None

-- ---- the asks held for some clients

put_two : {A : Type 0} (o : Option A) (os : Option (List A)) → IsSome o → IsSome os → IsSome (put_before o os)
put_two None os one all = absurd (false≢true one)
put_two (Some x) None one all = absurd (false≢true all)
put_two (Some x) (Some xs) one all = refl

put_first : {A : Type 0} (o : Option A) (os : Option (List A)) → IsSome (put_before o os) → IsSome o
put_first None os some = absurd (false≢true some)
put_first (Some x) os some = refl

put_more : {A : Type 0} (o : Option A) (os : Option (List A)) → IsSome (put_before o os) → IsSome os
put_more None os some = absurd (false≢true some)
put_more (Some x) None some = absurd (false≢true some)
put_more (Some x) (Some xs) some = refl

module _ (shape : Shape) (log : List Entry) where
  -- all are there if each is
  pub each_held : (clients : List ℕ) → ((client : ℕ) → In client clients → IsSome (held shape client log)) → IsSome (all_held shape log clients)
  each_held [] each = refl
  each_held (client ∷ more) each =
      put_two (held shape client log) (all_held shape log more) (each client (here refl)) (each_held more (λ c inside. each c (there inside)))

  -- and each is there if all are
  pub held_each : (clients : List ℕ) → IsSome (all_held shape log clients) → (client : ℕ) → In client clients → IsSome (held shape client log)
  held_each [] some client inside = elim inside [ ]
  held_each (first ∷ more) some client (here e) =
      subst (λ c. IsSome (held shape c log)) e (put_first (held shape first log) (all_held shape log more) some)
  held_each (first ∷ more) some client (there inside) =
      held_each more (put_more (held shape first log) (all_held shape log more) some) client inside

  -- for one more client
  order_more : (client : ℕ) (more : List ℕ) (asks : List SignedRequest)
      → ((rest : List SignedRequest) → all_held shape log more ≡ Some rest → map (λ c. held shape c log) more ≡ map Some rest)
      → (o : Option SignedRequest) (os : Option (List SignedRequest)) → held shape client log ≡ o → all_held shape log more ≡ os
      → put_before o os ≡ Some asks → map (λ c. held shape c log) (client ∷ more) ≡ map Some asks
  order_more client more asks others None os one rest put = absurd (none-some asks put)
  order_more client more asks others (Some x) None one rest put = absurd (none-some asks put)
  order_more client more asks others (Some x) (Some xs) one rest put =
      ap₂ (λ y ys. y ∷ ys) one (others xs rest) ∙ ap (map Some) (same_Some (x ∷ xs) asks put)

  -- they are in the clients' order
  pub held_in_order : (clients : List ℕ) (asks : List SignedRequest) → all_held shape log clients ≡ Some asks
      → map (λ client. held shape client log) clients ≡ map Some asks
  held_in_order [] asks e = ap (map Some) (same_Some [] asks e)
  held_in_order (client ∷ more) asks e =
      order_more client more asks (held_in_order more) (held shape client log) (all_held shape log more) refl refl e

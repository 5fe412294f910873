-- The chain that a sender starts comes last in its envelope, so the envelope shows the choice of its post.
use Rattle.std.proofs.Common.{◌≡◌, ℕ, zero, suc, ◌+◌, ◌-◌, ◌&&◌, not, nat_lt, Bool, true, false, List, [], ◌∷◌, ◌++◌, Option, None, Some, if◌then◌else◌, refl, ap, sym, ◌∙◌, subst, arith}
use Rattle.std.specs.Prelude.{map}
use Rattle.std.specs.Option.{option_map}
use Rattle.std.proofs.lemmas.Bool.Decides.{nat_tests}
use Rattle.std.proofs.lemmas.Simd.{map-map}
use Rattle.std.proofs.lemmas.Option.{none-some, same_Some}
use Rattle.dsr_names.specs.Shape.{Shape}
use Rattle.dsr_names.specs.declared.actor.Actor.{Actor}
use Rattle.dsr_names.specs.Support.ActorEquality.{actor_eq}
use Rattle.dsr_rotation.specs.Calendar.{first_round}
use Rattle.dsr_rotation.proofs.Lemmas.{begins_at}
use Rattle.dsr_chain.specs.Chain.{Chain, started}
use Rattle.dsr_chain.specs.Content.{requests_in}
use Rattle.dsr_chain.specs.Proper.{sender_of}
use Rattle.dsr_chain.specs.declared.signed_request.SignedRequest.{SignedRequest}
use Rattle.dsr_chain.specs.declared.slot_value.SlotValue.{SlotValue}
use Rattle.dsr_chain.specs.declared.slot_value.SlotValue.TheVariants.{Idle}
use Rattle.dsr_slot.specs.Broadcast.{from_each}
use Rattle.dsr_slot.specs.Conduct.{posted}
use Rattle.dsr_envelope.specs.Envelope.{round_envelope}
use Rattle.dsr_envelope.specs.Log.{rounds}
use Rattle.dsr_envelope.specs.Pick.{IsClients, IsPick}
use Rattle.dsr_envelope.specs.declared.envelope.Envelope.{Envelope}
use Rattle.dsr_envelope.specs.declared.envelope.Envelope.TheVariants.{Round}
use Rattle.dsr_envelope.specs.declared.entry.Entry.{Entry}
use Rattle.dsr_envelope.specs.declared.pick.Pick.{Pick}
use Rattle.dsr_envelope.specs.declared.pick.Pick.TheVariants.{Plain, From, Begin}
use Rattle.dsr_replica.specs.Conduct.{slot_part, chains_posted, proposed, envelope_with, envelope_to}
use Rattle.dsr_replica.specs.Decided.{slot_kept}
use Rattle.dsr_replica.specs.Held.{all_held}
use Rattle.dsr_replica.specs.Shown.{last_value, shown_value, shown_clients, choice_of, choice_in, shown_choice, IsOwnLast}
use Rattle.dsr_replica.proofs.Asks.{all_held_from}
use Rattle.dsr_replica.proofs.Posting.{chosen_then}
use Rattle.dsr_replica.proofs.Saying.{from_parts}

-- the value of a chain that comes last
last_of : (value : SlotValue) (chains : List Chain) (chain : Chain) → last_value value (chains ++ chain ∷ []) ≡ chain.value
last_of value [] chain = refl
last_of value (first ∷ more) chain = last_of first.value more chain

-- an envelope with a chain is of its round
with_last : (t : ℕ) (chains : List Chain) (chain : Chain) → round_envelope t (chains ++ chain ∷ []) ≡ Round t (chains ++ chain ∷ [])
with_last t [] chain = refl
with_last t (first ∷ more) chain = refl

module _ (shape : Shape) (me : Actor) (log : List Entry) where
  -- ---- the chain that a sender starts

  module _ (t : ℕ) (value : SlotValue) (own : actor_eq me (sender_of shape t) ≡ true) where
    -- in its slot's first round a sender posts the chain that it starts, and has kept nothing that it could relay
    first_post : posted shape t me value 1 [] ≡ started t value me ∷ []
    first_post = ap (λ b. if b then started t value me ∷ [] else []) own

    -- the slot of its number begins with the round
    begins : (first f : ℕ) → first ≡ t → (not (nat_lt t first) && not (nat_lt (first + f) t)) ≡ true
    begins first f is = grind (arith, nat_tests)

    own_part : slot_part shape me log t value t ≡ started t value me ∷ []
    own_part =
        let start : first_round shape t ≡ t = begins_at shape t in
        let none : t - first_round shape t ≡ 0 = omega (arith, start) in
        ap (λ b. if b then posted shape t me value (suc (t - first_round shape t)) (slot_kept shape log t (t - first_round shape t)) else [])
        (begins (first_round shape t) shape.f start)
        ∙ (ap (λ k. posted shape t me value (suc k) (slot_kept shape log t k)) none ∙ first_post)

    -- it comes last
    pub own_last : chains_posted shape me log t value ≡ from_each t (slot_part shape me log t value) ++ started t value me ∷ []
    own_last = ap (λ chains. from_each t (slot_part shape me log t value) ++ chains) own_part

    pub envelope_last : IsOwnLast shape me t value (round_envelope t (chains_posted shape me log t value))
    envelope_last = record {
      relayed = from_each t (slot_part shape me log t value);
      is = ap (round_envelope t) own_last ∙ with_last t (from_each t (slot_part shape me log t value)) (started t value me);
    }

  shown_last : (t : ℕ) (value : SlotValue) (envelope : Envelope) → IsOwnLast shape me t value envelope → shown_value envelope ≡ value
  shown_last t value envelope h = ap shown_value h.is ∙ last_of Idle h.relayed (started t value me)

  -- ---- what the choices give

  -- the value that a choice proposes, and its envelope
  record IsGiven (pick : Pick) (envelope : Envelope) : Type 0 where
    pub value : SlotValue
    pub proposes : proposed shape me log pick ≡ Some value
    pub is : envelope_with shape me log value ≡ envelope

  given_by : (o : Option SlotValue) (envelope : Envelope) → option_map (envelope_with shape me log) o ≡ Some envelope
      → (value : SlotValue) × (o ≡ Some value) × (envelope_with shape me log value ≡ envelope)
  given_by None envelope e = absurd (none-some envelope e)
  given_by (Some value) envelope e = (value, refl, same_Some (envelope_with shape me log value) envelope e)

  given : (pick : Pick) (envelope : Envelope) → envelope_to shape me log 0 pick ≡ Some envelope → IsGiven pick envelope
  given pick envelope e =
      let found = given_by (proposed shape me log pick) envelope (chosen_then shape me log 0 pick envelope e) in
      record { value = found.0; proposes = found.1; is = found.2 }

  -- at the post to replica 0 a sender's own chain comes last, on the value that it proposes
  pub sender_last : actor_eq me (sender_of shape (rounds shape log)) ≡ true → (pick : Pick) (envelope : Envelope)
      → envelope_to shape me log 0 pick ≡ Some envelope
      → (value : SlotValue) × (proposed shape me log pick ≡ Some value) × IsOwnLast shape me (rounds shape log) value envelope
  sender_last own pick envelope e =
      let h = given pick envelope e in
      (h.value, h.proposes, subst (IsOwnLast shape me (rounds shape log) h.value) h.is (envelope_last (rounds shape log) h.value own))

  -- the clients of the requests that are proposed
  own_asks : (clients : List ℕ) (value : SlotValue) → proposed shape me log (From clients) ≡ Some value
      → actor_eq me (sender_of shape (rounds shape log)) ≡ true
  own_asks clients value e = let parts = from_parts shape me (rounds shape log) (all_held shape log clients) value e in parts.own

  -- only a sender proposes requests
  pub only_sender_proposes : (clients : List ℕ) (envelope : Envelope) → envelope_to shape me log 0 (From clients) ≡ Some envelope
      → actor_eq me (sender_of shape (rounds shape log)) ≡ true
  only_sender_proposes clients envelope e = let h = given (From clients) envelope e in own_asks clients h.value h.proposes

  clients_proposed : (clients : List ℕ) (value : SlotValue) (envelope : Envelope) → proposed shape me log (From clients) ≡ Some value
      → shown_value envelope ≡ value → shown_clients envelope ≡ clients
  clients_proposed clients value envelope e shows =
      let parts = from_parts shape me (rounds shape log) (all_held shape log clients) value e in
      let are = all_held_from shape log clients parts.list parts.are in
      ap (λ v. map (λ r. r.client) (requests_in v)) (shows ∙ sym parts.is)
      ∙ (map-map (λ r. r.client) (λ (s : SignedRequest). s.request) parts.list ∙ are.clients_are)

  -- an envelope from some clients shows them
  pub sender_shows : (clients : List ℕ) (envelope : Envelope) → envelope_to shape me log 0 (From clients) ≡ Some envelope
      → shown_clients envelope ≡ clients
  sender_shows clients envelope e =
      let h = given (From clients) envelope e in
      let last = sender_last (own_asks clients h.value h.proposes) (From clients) envelope e in
      clients_proposed clients last.0 envelope last.1 (shown_last (rounds shape log) last.0 envelope last.2)

  -- a sender's envelope for the plain choice shows idle
  pub plain_shows : actor_eq me (sender_of shape (rounds shape log)) ≡ true → (envelope : Envelope)
      → envelope_to shape me log 0 Plain ≡ Some envelope → shown_value envelope ≡ Idle
  plain_shows own envelope e =
      let last = sender_last own Plain envelope e in
      shown_last (rounds shape log) last.0 envelope last.2 ∙ sym (same_Some Idle last.0 last.1)

  -- ---- the choice that an envelope shows

  some_clients : (clients : List ℕ) → IsClients clients → From clients ≡ choice_of clients
  some_clients [] h = let some = h.some in absurd (omega (arith, some))
  some_clients (client ∷ more) h = refl

  both_plain : (b : Bool) → (if b then Plain else Plain) ≡ Plain
  both_plain true = refl
  both_plain false = refl

  -- in the envelope's own round
  in_round : (t : ℕ) (chains : List Chain) (pick : Pick) → pick ≡ choice_in shape me t (round_envelope t chains)
      → pick ≡ shown_choice shape me 0 (round_envelope t chains)
  in_round t [] pick e = e ∙ both_plain (actor_eq me (sender_of shape t))
  in_round t (chain ∷ more) pick e = e

  plain_in : (b : Bool) (envelope : Envelope) → (b ≡ true → shown_value envelope ≡ Idle) → Plain ≡ (if b then choice_of (shown_clients envelope) else Plain)
  plain_in true envelope shows = ap (λ v. choice_of (map (λ r. r.client) (requests_in v))) (sym (shows refl))
  plain_in false envelope shows = refl

  -- the choice beside the log's round
  choice_beside : (pick : Pick) (envelope : Envelope) → IsPick pick → envelope_to shape me log 0 pick ≡ Some envelope
      → pick ≡ choice_in shape me (rounds shape log) envelope
  choice_beside Plain envelope good e =
      plain_in (actor_eq me (sender_of shape (rounds shape log))) envelope (λ own. plain_shows own envelope e)
  choice_beside (From clients) envelope good e =
      let h = given (From clients) envelope e in
      some_clients clients good
      ∙ (ap choice_of (sym (sender_shows clients envelope e))
      ∙ ap (λ b. if b then choice_of (shown_clients envelope) else Plain) (sym (own_asks clients h.value h.proposes)))
  choice_beside (Begin op) envelope good e = let h = given (Begin op) envelope e in absurd (none-some h.value h.proposes)

  -- the envelope shows the choice
  pub choice_shown : (q : ℕ) (pick : Pick) (envelope : Envelope) → IsPick pick → envelope_to shape me log q pick ≡ Some envelope
      → pick ≡ shown_choice shape me q envelope
  choice_shown zero pick envelope good e =
      let h = given pick envelope e in
      subst (λ x. pick ≡ shown_choice shape me 0 x) h.is
      (in_round (rounds shape log) (chains_posted shape me log (rounds shape log) h.value) pick
      (subst (λ x. pick ≡ choice_in shape me (rounds shape log) x) (sym h.is) (choice_beside pick envelope good e)))
  choice_shown (suc q) Plain envelope good e = refl
  choice_shown (suc q) (From clients) envelope good e = absurd (none-some envelope (chosen_then shape me log (suc q) (From clients) envelope e))
  choice_shown (suc q) (Begin op) envelope good e = absurd (none-some envelope (chosen_then shape me log (suc q) (Begin op) envelope e))

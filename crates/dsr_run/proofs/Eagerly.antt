-- An eager replica proposes each client that waits with a held ask, in one of its next turns, unless the client's request has acted.
use Rattle.std.proofs.Common.{◌≡◌, ℕ, zero, suc, ◌≢◌, ◌+◌, ◌*◌, ◌<◌, ◌≤◌, Bool, true, false, List, [], ◌∷◌, ◌++◌, length, map, Some, if◌then◌else◌, ◌⊎◌, inl, inr, refl, ap, sym, ◌∙◌, subst, append_assoc, arith}
use Rattle.std.specs.Prelude.{All, ◌%◌, reverse, slice_get}
use Rattle.std.proofs.Math.Nat.{add-mod_right}
use Rattle.std.proofs.lemmas.Bool.{false_from_ne_true}
use Rattle.std.proofs.lemmas.List.{length_push}
use Rattle.std.proofs.lemmas.Option.{same_Some}
use Rattle.dsr_base.specs.Growth.{Extends}
use Rattle.dsr_base.specs.Member.{In, here}
use Rattle.dsr_base.proofs.MemberLemmas.{In-append_right}
use Rattle.dsr_names.specs.Shape.{Shape}
use Rattle.dsr_names.specs.declared.actor.Actor.{Actor}
use Rattle.dsr_names.specs.declared.actor.Actor.TheVariants.{Replica, Client}
use Rattle.dsr_names.specs.Support.ActorEquality.{actor_eq, actor_eq-Decides}
use Rattle.dsr_request.specs.Request.{Request}
use Rattle.dsr_history.specs.History.{reply}
use Rattle.dsr_rotation.proofs.Lemmas.{begins_at}
use Rattle.dsr_chain.specs.Chain.{started}
use Rattle.dsr_chain.specs.Content.{requests_in, signed_in, value_of}
use Rattle.dsr_chain.specs.Proper.{IsAsked, sender_of}
use Rattle.dsr_chain.specs.declared.signed_request.SignedRequest.{SignedRequest}
use Rattle.dsr_chain.specs.declared.slot_value.SlotValue.{SlotValue}
use Rattle.dsr_slot.specs.Broadcast.{from_each}
use Rattle.dsr_slot.proofs.Lemmas.{holds_or_not, in_map}
use Rattle.dsr_envelope.specs.declared.envelope.Envelope.{Envelope}
use Rattle.dsr_envelope.specs.declared.entry.Entry.{Entry}
use Rattle.dsr_envelope.specs.declared.entry.Entry.TheVariants.{Post, Take}
use Rattle.dsr_envelope.specs.Envelope.{chains_for}
use Rattle.dsr_envelope.specs.Log.{posted_to, rounds}
use Rattle.dsr_replica.specs.Conduct.{slot_part, envelope_with, IsLoyalLog}
use Rattle.dsr_replica.specs.Counts.{posts_at}
use Rattle.dsr_replica.specs.Decided.{decided_requests}
use Rattle.dsr_replica.specs.Held.{held, all_held}
use Rattle.dsr_replica.proofs.Lemmas.{post_due, counts, get_grown}
use Rattle.dsr_run.specs.Agreement.{HasProposed}
use Rattle.dsr_run.specs.Answered.{turns}
use Rattle.dsr_run.specs.Eager.{is_waiting, first_or, last_proposed, first_in_turn, next_client, next_proposed, clients_in, ProposesNext, IsEager}
use Rattle.dsr_run.proofs.Holding.{IsHeld, held_stays, answered_already, AreOf, held_of, signed_of, own_chains, own_shown, others_shown}
use Rattle.dsr_run.proofs.Reaching.{IsReached}
use Rattle.dsr_run.proofs.Turning.{ahead, first_below, ahead_below, IsNearer, comes, own_slot, turn_left, slots_later}

-- ---- a log that goes on

since : (later : List Entry) (entry : Entry) (log : List Entry) → Extends later (entry ∷ log) → Extends later log
since later entry log grown = (grown.0 ++ entry ∷ [], grown.1 ∙ sym (append_assoc grown.0 (entry ∷ []) log))

pub loyal_with : (shape : Shape) (me : Actor) (newer log : List Entry) → IsLoyalLog shape me (newer ++ log) → IsLoyalLog shape me log
loyal_with shape me [] log loyal = loyal
loyal_with shape me (entry ∷ newer) log loyal = loyal_with shape me newer log loyal.0

pub loyal_since : (shape : Shape) (me : Actor) (later log : List Entry) → IsLoyalLog shape me later → Extends later log → IsLoyalLog shape me log
loyal_since shape me later log loyal grown = loyal_with shape me grown.0 log (subst (IsLoyalLog shape me) grown.1 loyal)

posted_if : (b : Bool) (xs : List Envelope) (y : Envelope) (place : ℕ) (x : Envelope) → slice_get xs place ≡ Some x
    → slice_get (if b then xs ++ y ∷ [] else xs) place ≡ Some x
posted_if true xs y place x e = get_grown xs (y ∷ []) place x e
posted_if false xs y place x e = e

posted_with : (a : Actor) (newer log : List Entry) (place : ℕ) (x : Envelope) → slice_get (posted_to a log) place ≡ Some x
    → slice_get (posted_to a (newer ++ log)) place ≡ Some x
posted_with a [] log place x e = e
posted_with a (Take from y ∷ newer) log place x e = posted_with a newer log place x e
posted_with a (Post to y ∷ newer) log place x e =
    posted_if (actor_eq to a) (posted_to a (newer ++ log)) y place x (posted_with a newer log place x e)

posted_since : (a : Actor) (later log : List Entry) → Extends later log → (place : ℕ) (x : Envelope) → slice_get (posted_to a log) place ≡ Some x
    → slice_get (posted_to a later) place ≡ Some x
posted_since a later log grown place x e =
    ap (λ l. slice_get (posted_to a l) place) grown.1 ∙ posted_with a grown.0 log place x e

get_last : {A : Type 0} (xs : List A) (x : A) → slice_get (xs ++ x ∷ []) (length xs) ≡ Some x
get_last [] x = refl
get_last (y ∷ xs) x = get_last xs x

-- how many slots have begun at a replica: one with each of its posts to replica 0
abbrev pub begun : List Entry → ℕ
begun log = length (posted_to (Replica 0) log)

-- the posts to other replicas begin none
others_begin_none : (q : ℕ) (envelope : Envelope) (log : List Entry) → begun (Post (Replica (suc q)) envelope ∷ log) ≡ begun log
others_begin_none q envelope log =
    ap (λ b. length (if b then posted_to (Replica 0) log ++ envelope ∷ [] else posted_to (Replica 0) log))
    (false_from_ne_true (actor_eq (Replica (suc q)) (Replica 0)) differ)
  where
    differ : actor_eq (Replica (suc q)) (Replica 0) ≡ true → ⊥
    differ e = let is : Replica (suc q) ≡ Replica 0 = (actor_eq-Decides (Replica (suc q)) (Replica 0)).0 e in absurd cc

-- ---- one eager replica p, its log from some base on, and a client's ask that it held there

module _ (shape : Shape) (p : ℕ) (inside : p < shape.n) (log : List Entry) (loyal : IsLoyalLog shape (Replica p) log) (base : List Entry)
    (c : ℕ) (client : c < shape.m) (number : ℕ) (asked : IsHeld (held shape c base) number) where
  -- before this slot the client is proposed
  abbrev limit : ℕ
  limit = begun base + shape.n * turns shape.m

  -- the client's request, or a later one of the client, is proposed in an own slot before the limit
  pub record IsProposed : Type 0 where
    pub slot : ℕ
    pub soon : slot < limit
    pub own : Replica p ≡ sender_of shape slot
    pub value : SlotValue
    pub proposed : HasProposed shape (Replica p) log slot value
    pub request : Request
    pub stands : In request (requests_in value)
    pub is_client : request.client ≡ c
    pub reaches : number ≤ request.number

  -- or it has acted at p itself, in a round before the limit
  pub record IsAnswered : Type 0 where
    pub moment : List Entry
    pub past : Extends log moment
    pub soon : rounds shape moment < limit
    pub acted : IsReached shape moment c number

  -- or its turn comes nearer: `past` own slots have passed, the next one is this, and in each 8 clients were passed over
  record Waits (now : List Entry) : Type 0 where
    past : ℕ
    next : ℕ
    own : next % shape.n ≡ p
    begun_by : begun now ≤ next
    soon : next < begun base + shape.n * past + shape.n
    near : ahead shape.m c (first_in_turn shape.m (last_proposed shape now)) + past * 8 < shape.m

  abbrev Outcome : List Entry → Type 0
  Outcome now = (IsProposed ⊎ IsAnswered) ⊎ Waits now

  some : 0 < shape.n
  some = omega (arith, inside)

  some_client : 0 < shape.m
  some_client = omega (arith, client)

  before_limit : (now : List Entry) → (w : Waits now) → w.next < limit
  before_limit now w =
      let soon = w.soon in
      let near = w.near in
      let left = slots_later shape.n w.past (turns shape.m) (turn_left shape.m w.past (omega (arith, near))) in
      omega (arith, soon, left)

  -- ---- the post that begins a slot

  module _ (now : List Entry) (envelope : Envelope) (grown : Extends log (Post (Replica 0) envelope ∷ now)) (w : Waits now)
      (holds : IsHeld (held shape c now) number) where
    posted : List Entry
    posted = Post (Replica 0) envelope ∷ now

    posted_loyal : IsLoyalLog shape (Replica p) (Post (Replica 0) envelope ∷ now)
    posted_loyal = loyal_since shape (Replica p) log (Post (Replica 0) envelope ∷ now) loyal grown

    -- the slot has the round's number
    at : begun now ≡ rounds shape now
    at =
        let next = posted_loyal.1 in
        (counts shape (Replica p) some now posted_loyal.0).posts 0 some
        ∙ ap (λ d. posts_at d (rounds shape now) 0) (post_due shape (Replica p) now 0 next.0 envelope next.2)

    stands : slice_get (posted_to (Replica 0) (Post (Replica 0) envelope ∷ now)) (rounds shape now) ≡ Some envelope
    stands = subst (λ t. slice_get (posted_to (Replica 0) now ++ envelope ∷ []) t ≡ Some envelope) at (get_last (posted_to (Replica 0) now) envelope)

    one_more : begun (Post (Replica 0) envelope ∷ now) ≡ suc (begun now)
    one_more = let count = length_push (posted_to (Replica 0) now) envelope in omega (arith, count)

    -- in another's slot nothing changes
    others_slot : ¬ (Replica p ≡ sender_of shape (rounds shape now)) → Waits (Post (Replica 0) envelope ∷ now)
    others_slot other =
        let none : last_proposed shape (Post (Replica 0) envelope ∷ now) ≡ last_proposed shape now =
        ap (λ xs. first_or (last_proposed shape now) (reverse xs)) (others_shown shape p inside now other (Post (Replica 0) envelope ∷ now) posted_loyal envelope stands) in
        let low = w.begun_by in
        let not_own : w.next ≢ rounds shape now = λ e. other (ap Replica (sym w.own ∙ ap (λ t. t % shape.n) e)) in
        record {
          past = w.past;
          next = w.next;
          own = w.own;
          begun_by = omega (arith, low, at, one_more, not_own);
          soon = w.soon;
          near = subst (λ l. ahead shape.m c (first_in_turn shape.m l) + w.past * 8 < shape.m) (sym none) w.near;
        }

    -- in an own slot the client is proposed, or 8 clients before it are, or it does not wait
    module _ (own : Replica p ≡ sender_of shape (rounds shape now)) (asks : List SignedRequest)
        (are : all_held shape now (next_proposed shape now) ≡ Some asks) (is : envelope ≡ envelope_with shape (Replica p) now (value_of asks)) where
      of_clients : AreOf shape now (next_proposed shape now) asks
      of_clients = held_of shape now (next_proposed shape now) asks are

      in_time : rounds shape now < limit
      in_time = let low = w.begun_by in let soon = before_limit now w in omega (arith, low, soon, at)

      shown : clients_in (rounds shape now) (chains_for (rounds shape now) envelope) ≡ next_proposed shape now
      shown =
          own_shown shape p inside now own (value_of asks) envelope is (subst (All (IsAsked shape)) (sym (signed_of asks)) of_clients.asked)
          ∙ (ap (map (λ ask. ask.request.client)) (signed_of asks) ∙ of_clients.clients_are)

      has_proposed : HasProposed shape (Replica p) log (rounds shape now) (value_of asks)
      has_proposed =
          let t = rounds shape now in
          let begins = sym (begins_at shape t) in
          let start = started t (value_of asks) (Replica p) in
          let chains = from_each t (slot_part shape (Replica p) now t (value_of asks)) in
          record {
            to = 0;
            inside = some;
            envelope = envelope;
            posted = subst (λ place. slice_get (posted_to (Replica 0) log) place ≡ Some envelope) begins
                (posted_since (Replica 0) log (Post (Replica 0) envelope ∷ now) grown t envelope stands);
            start = subst (λ round. In start (chains_for round envelope)) begins
                (subst (In start) (sym (own_chains shape p inside now own (value_of asks) envelope is))
                (In-append_right start chains (start ∷ []) (here refl)));
          }

      is_proposed : In c (next_proposed shape now) → IsProposed
      is_proposed chosen =
          let found = of_clients.each c chosen in
          let same : holds.ask ≡ found.0 = same_Some holds.ask found.0 (sym holds.is ∙ found.2) in
          let number_is = ap (λ (s : SignedRequest). s.request.number) same in
          let low = holds.reaches in
          record {
            slot = rounds shape now;
            soon = in_time;
            own = own;
            value = value_of asks;
            proposed = has_proposed;
            request = found.0.request;
            stands = in_map (λ s. s.request) found.0 (signed_in (value_of asks)) (subst (In found.0) (sym (signed_of asks)) found.1);
            is_client = found.3;
            reaches = omega (arith, low, number_is);
          }

      nearer : IsNearer shape.m c 8 (first_in_turn shape.m (last_proposed shape now)) (next_proposed shape now) → Waits (Post (Replica 0) envelope ∷ now)
      nearer h =
          let last : last_proposed shape (Post (Replica 0) envelope ∷ now) ≡ Some h.last =
          ap (λ xs. first_or (last_proposed shape now) (reverse xs)) shown ∙ h.is (last_proposed shape now) in
          let low = w.begun_by in
          let soon = w.soon in
          let near = w.near in
          let step = h.near in
          let closer : ahead shape.m c (next_client shape.m h.last) + suc w.past * 8 < shape.m = omega (arith, near, step) in
          record {
            past = suc w.past;
            next = w.next + shape.n;
            own = add-mod_right w.next shape.n ∙ w.own;
            begun_by = omega (arith, low, one_more, some);
            soon = omega (arith, soon);
            near = subst (λ l. ahead shape.m c (first_in_turn shape.m l) + suc w.past * 8 < shape.m) (sym last) closer;
          }

      own_turn : (b : Bool) → is_waiting shape now c ≡ b → Outcome (Post (Replica 0) envelope ∷ now)
      own_turn false old =
          let last = answered_already (held shape c now) (reply (decided_requests shape now) c) holds.ask holds.is old in
          let reaches = last.2 in
          let low = holds.reaches in
          inl (inr (record {
            moment = now;
            past = since log (Post (Replica 0) envelope) now grown;
            soon = in_time;
            acted = record { last = last.0; is = last.1; reaches = omega (arith, low, reaches) };
          }))
      own_turn true waits =
          let first = first_in_turn shape.m (last_proposed shape now) in
          let low = first_below shape.m (last_proposed shape now) some_client in
          elim (comes shape.m c client (is_waiting shape now) waits shape.m 7 first low (ahead_below shape.m c first client low)) [
            | inl chosen ↦ inl (inl (is_proposed chosen))
            | inr h ↦ inr (nearer h)
          ]

    first_post : ProposesNext shape (Replica p) now envelope → Outcome (Post (Replica 0) envelope ∷ now)
    first_post eager = elim (holds_or_not (actor_eq (Replica p) (sender_of shape (rounds shape now))) (actor_eq-Decides (Replica p) (sender_of shape (rounds shape now)))) [
      | inl own ↦ let next = eager own in own_turn own next.0 next.1 next.2 (is_waiting shape now c) refl
      | inr other ↦ inr (others_slot other)
    ]

  -- ---- all entries since the base

  start : Waits base
  start =
      let slot = own_slot shape.n p inside (begun base) in
      let high = slot.3 in
      let first = first_in_turn shape.m (last_proposed shape base) in
      let near = ahead_below shape.m c first client (first_below shape.m (last_proposed shape base) some_client) in
      record { past = 0; next = slot.0; own = slot.1; begun_by = slot.2; soon = omega (arith, high); near = omega (arith, near) }

  -- an entry that begins no slot changes nothing
  quiet : (entry : Entry) (now : List Entry) → begun (entry ∷ now) ≡ begun now → last_proposed shape (entry ∷ now) ≡ last_proposed shape now
      → Outcome now → Outcome (entry ∷ now)
  quiet entry now begun_is last_is (inl done) = inl done
  quiet entry now begun_is last_is (inr w) =
      let low = w.begun_by in
      inr (record {
        past = w.past;
        next = w.next;
        own = w.own;
        begun_by = omega (arith, low, begun_is);
        soon = w.soon;
        near = subst (λ l. ahead shape.m c (first_in_turn shape.m l) + w.past * 8 < shape.m) (sym last_is) w.near;
      })

  begins : (envelope : Envelope) (now : List Entry) → Extends log (Post (Replica 0) envelope ∷ now) → IsHeld (held shape c now) number
      → ProposesNext shape (Replica p) now envelope → Outcome now → Outcome (Post (Replica 0) envelope ∷ now)
  begins envelope now grown holds eager (inl done) = inl done
  begins envelope now grown holds eager (inr w) = first_post now envelope grown w holds eager

  still_held : (added : List Entry) → IsHeld (held shape c (added ++ base)) number
  still_held [] = asked
  still_held (entry ∷ added) = held_stays shape c entry (added ++ base) number (still_held added)

  outcome : (added : List Entry) → Extends log (added ++ base) → IsEager shape (Replica p) base added → Outcome (added ++ base)
  outcome [] grown eager = inr start
  outcome (Post (Replica zero) x ∷ added) grown eager =
      begins x (added ++ base) grown (still_held added) eager.1 (outcome added (since log (Post (Replica 0) x) (added ++ base) grown) eager.0)
  outcome (Post (Replica (suc q)) x ∷ added) grown eager =
      quiet (Post (Replica (suc q)) x) (added ++ base) (others_begin_none q x (added ++ base)) refl (outcome added (since log (Post (Replica (suc q)) x) (added ++ base) grown) eager)
  outcome (Post (Client d) x ∷ added) grown eager =
      quiet (Post (Client d) x) (added ++ base) refl refl (outcome added (since log (Post (Client d) x) (added ++ base) grown) eager)
  outcome (Take from x ∷ added) grown eager =
      quiet (Take from x) (added ++ base) refl refl (outcome added (since log (Take from x) (added ++ base) grown) eager)

  -- once all slots before the limit have begun, the client's turn has come
  pub turn_comes : (added : List Entry) → log ≡ added ++ base → IsEager shape (Replica p) base added → limit ≤ begun log → IsProposed ⊎ IsAnswered
  turn_comes added is eager reached = elim (outcome added ([], is) eager) [
    | inl done ↦ done
    | inr w ↦
        let soon = before_limit (added ++ base) w in
        let low = w.begun_by in
        let same = ap begun is in
        absurd (omega (arith, soon, low, same, reached))
  ]

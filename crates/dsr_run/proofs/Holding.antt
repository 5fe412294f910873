-- What is held for clients stays held or gives way to later requests, and which clients an eager replica's slot shows as proposed.
use Rattle.std.proofs.Common.{◌≡◌, ℕ, zero, suc, ◌<◌, ◌≤◌, ◌==◌, ◌&&◌, not, nat_lt, Bool, true, false, List, [], ◌∷◌, ◌++◌, map, Option, None, Some, if◌then◌else◌, inl, inr, refl, ap, sym, ◌∙◌, subst, eq-eqb, arith}
use Rattle.std.specs.Prelude.{All, slice_get}
use Rattle.std.proofs.lemmas.Bool.{false_from_ne_true}
use Rattle.std.proofs.lemmas.Bool.Decides.{Decides-eqb, nat_tests}
use Rattle.std.proofs.lemmas.List.Elements.{All-nil, All-cons}
use Rattle.std.proofs.lemmas.Option.{same_Some, none-some}
use Rattle.dsr_base.specs.Member.{In, here, there}
use Rattle.dsr_names.specs.Shape.{Shape}
use Rattle.dsr_names.specs.declared.actor.Actor.TheVariants.{Replica, Client}
use Rattle.dsr_names.specs.Support.ActorEquality.{actor_eq-Decides}
use Rattle.dsr_ledger.specs.declared.reply.Reply.{Reply as AReply}
use Rattle.dsr_rotation.proofs.Lemmas.{begins_at}
use Rattle.dsr_chain.specs.Chain.{Chain, started}
use Rattle.dsr_chain.specs.Content.{signed_in, value_of}
use Rattle.dsr_chain.specs.Proper.{IsAsked, sender_of}
use Rattle.dsr_chain.specs.declared.signed_request.SignedRequest.{SignedRequest}
use Rattle.dsr_chain.specs.declared.slot_value.SlotValue.{SlotValue}
use Rattle.dsr_slot.specs.Broadcast.{from_each}
use Rattle.dsr_slot.specs.Conduct.{posted}
use Rattle.dsr_slot.proofs.Lemmas.{posted_from, from_one}
use Rattle.dsr_envelope.specs.declared.envelope.Envelope.{Envelope}
use Rattle.dsr_envelope.specs.declared.envelope.Envelope.TheVariants.{Empty, Round, Ask, Reply, Seen}
use Rattle.dsr_envelope.specs.declared.entry.Entry.{Entry}
use Rattle.dsr_envelope.specs.declared.entry.Entry.TheVariants.{Post, Take}
use Rattle.dsr_envelope.specs.Envelope.{chains_for}
use Rattle.dsr_envelope.specs.Log.{posted_to, rounds}
use Rattle.dsr_replica.specs.Conduct.{slot_part, chains_posted, envelope_with, IsLoyalLog}
use Rattle.dsr_replica.specs.Decided.{slot_kept}
use Rattle.dsr_replica.specs.Held.{is_own_ask, gives_way, held_with, held, put_before, all_held}
use Rattle.dsr_replica.proofs.Lemmas.{held_from, own_last, part_of_round}
use Rattle.dsr_run.specs.Eager.{is_newer, clients_in}
use Rattle.dsr_run.proofs.Posts.{part_of_slot, for_round}

-- ---- one client

-- a held ask of this number or a greater one
pub record IsHeld (held : Option SignedRequest) (number : ℕ) : Type 0 where
  pub ask : SignedRequest
  pub is : held ≡ Some ask
  pub reaches : number ≤ ask.request.number

-- what is held gives way only to an ask whose number is not smaller
way_given : (b w : Bool) (ask new : SignedRequest) (held : Option SignedRequest) → held ≡ Some ask → w ≡ gives_way held new.request.number
    → IsHeld (if b && w then Some new else held) ask.request.number
way_given false w ask new held is e = record { ask = ask; is = is; reaches = omega arith }
way_given true false ask new held is e = record { ask = ask; is = is; reaches = omega arith }
way_given true true ask new held is e =
    let gives : not (nat_lt new.request.number ask.request.number) ≡ true = sym (e ∙ ap (λ h. gives_way h new.request.number) is) in
    record { ask = new; is = refl; reaches = not_below new.request.number ask.request.number gives }
  where
    not_below : (a b : ℕ) → not (nat_lt a b) ≡ true → b ≤ a
    not_below a b e = grind (arith, nat_tests)

with_held : (shape : Shape) (client : ℕ) (envelope : Envelope) (before : Option SignedRequest) (ask : SignedRequest) → before ≡ Some ask
    → IsHeld (held_with shape client before envelope) ask.request.number
with_held shape client Empty before ask is = record { ask = ask; is = is; reaches = omega arith }
with_held shape client (Round round chains) before ask is = record { ask = ask; is = is; reaches = omega arith }
with_held shape client (Ask new) before ask is =
    way_given (is_own_ask shape client new) (gives_way before new.request.number) ask new before is refl
with_held shape client (Reply reply) before ask is = record { ask = ask; is = is; reaches = omega arith }
with_held shape client (Seen front) before ask is = record { ask = ask; is = is; reaches = omega arith }

if_held : (b : Bool) (new before : Option SignedRequest) (number : ℕ) → IsHeld new number → IsHeld before number
    → IsHeld (if b then new else before) number
if_held true new before number h k = h
if_held false new before number h k = k

-- an ask that is held stays, or gives way to one whose number is not smaller
pub held_stays : (shape : Shape) (client : ℕ) (entry : Entry) (log : List Entry) (number : ℕ) → IsHeld (held shape client log) number
    → IsHeld (held shape client (entry ∷ log)) number
held_stays shape client (Post to envelope) log number h = h
held_stays shape client (Take (Replica p) envelope) log number h = h
held_stays shape client (Take (Client c) envelope) log number h =
    if_held (c == client) (held_with shape client (held shape client log) envelope) (held shape client log) number
    (higher (held_with shape client (held shape client log) envelope) h.ask.request.number number h.reaches
    (with_held shape client envelope (held shape client log) h.ask h.is)) h
  where
    higher : (o : Option SignedRequest) (number low : ℕ) → low ≤ number → IsHeld o number → IsHeld o low
    higher o number low below h = let reaches = h.reaches in record { ask = h.ask; is = h.is; reaches = omega (arith, below, reaches) }

-- a client that does not wait with a held ask has a last reply whose number is not smaller
pub answered_already : (asked : Option SignedRequest) (last : Option AReply) (ask : SignedRequest) → asked ≡ Some ask → is_newer asked last ≡ false
    → (reply : AReply) × (last ≡ Some reply) × (ask.request.number ≤ reply.number)
answered_already None last ask is old = absurd (none-some ask is)
answered_already (Some other) None ask is old = absurd cc
answered_already (Some other) (Some reply) ask is old =
    let number = ap (λ (s : SignedRequest). s.request.number) (same_Some other ask is) in
    let low = not_newer reply.number other.request.number old in
    (reply, refl, omega (arith, number, low))
  where
    not_newer : (a b : ℕ) → nat_lt a b ≡ false → b ≤ a
    not_newer a b e = grind (arith, nat_tests)

-- ---- the asks held for some clients

put_parts : {A : Type 0} (first : Option A) (more : Option (List A)) (all : List A) → put_before first more ≡ Some all
    → (x : A) × (xs : List A) × (first ≡ Some x) × (more ≡ Some xs) × (x ∷ xs ≡ all)
put_parts None more all e = absurd (none-some all e)
put_parts (Some x) None all e = absurd (none-some all e)
put_parts (Some x) (Some xs) all e = (x, xs, refl, refl, same_Some (x ∷ xs) all e)

-- these asks are those of these clients, each held and signed by its client
pub record AreOf (shape : Shape) (log : List Entry) (clients : List ℕ) (asks : List SignedRequest) : Type 0 where
  pub clients_are : map (λ s. s.request.client) asks ≡ clients
  pub asked : All (IsAsked shape) asks
  pub each : (client : ℕ) → In client clients → (s : SignedRequest) × In s asks × (held shape client log ≡ Some s) × (s.request.client ≡ client)

more_of : (shape : Shape) (log : List Entry) (client : ℕ) (clients : List ℕ) (s : SignedRequest) (more : List SignedRequest)
    → held shape client log ≡ Some s → AreOf shape log clients more → AreOf shape log (client ∷ clients) (s ∷ more)
more_of shape log client clients s more is rest =
    let first = held_from shape client log s is in
    record {
      clients_are = λ i. first.own.client_is i ∷ rest.clients_are i;
      asked = All-cons (IsAsked shape) s more first.own.asked rest.asked;
      each = each first.own.client_is;
    }
  where
    each : s.request.client ≡ client → (other : ℕ) → In other (client ∷ clients)
        → (z : SignedRequest) × In z (s ∷ more) × (held shape other log ≡ Some z) × (z.request.client ≡ other)
    each own other (here e) = (s, here refl, ap (λ c. held shape c log) (sym e) ∙ is, own ∙ e)
    each own other (there h) = let found = rest.each other h in (found.0, there found.1, found.2, found.3)

pub held_of : (shape : Shape) (log : List Entry) (clients : List ℕ) (asks : List SignedRequest) → all_held shape log clients ≡ Some asks
    → AreOf shape log clients asks
held_of shape log [] asks e =
    subst (AreOf shape log []) (same_Some [] asks e)
    (record { clients_are = refl; asked = All-nil (IsAsked shape); each = λ client h. elim h [ ] })
held_of shape log (client ∷ clients) asks e =
    let parts = put_parts (held shape client log) (all_held shape log clients) asks e in
    subst (AreOf shape log (client ∷ clients)) parts.4
    (more_of shape log client clients parts.0 parts.1 parts.2 (held_of shape log clients parts.1 parts.3))

pub signed_of : (asks : List SignedRequest) → signed_in (value_of asks) ≡ asks
signed_of [] = refl
signed_of (s ∷ ss) = refl

-- ---- the clients that a post shows as proposed

-- chains of other slots show none of this slot
others_skipped : (slot : ℕ) (chains more : List Chain) → ((c : Chain) → In c chains → ¬ (c.slot ≡ slot))
    → clients_in slot (chains ++ more) ≡ clients_in slot more
others_skipped slot [] more other = refl
others_skipped slot (c ∷ cs) more other =
    ap (λ b. if b then map (λ ask. ask.request.client) (signed_in c.value) else clients_in slot (cs ++ more))
    (false_from_ne_true (c.slot == slot) (λ e. other c (here refl) ((Decides-eqb c.slot slot).0 e)))
    ∙ others_skipped slot cs more (λ d h. other d (there h))

none_shown : (slot : ℕ) (chains : List Chain) → ((c : Chain) → In c chains → ¬ (c.slot ≡ slot)) → clients_in slot chains ≡ []
none_shown slot [] other = refl
none_shown slot (c ∷ cs) other =
    ap (λ b. if b then map (λ ask. ask.request.client) (signed_in c.value) else clients_in slot cs)
    (false_from_ne_true (c.slot == slot) (λ e. other c (here refl) ((Decides-eqb c.slot slot).0 e)))
    ∙ none_shown slot cs (λ d h. other d (there h))

module _ (shape : Shape) (p : ℕ) (inside : p < shape.n) (log : List Entry) where
  abbrev now : ℕ
  now = rounds shape log

  module _ (own : Replica p ≡ sender_of shape now) (value : SlotValue) (envelope : Envelope) (is : envelope ≡ envelope_with shape (Replica p) log value) where
    -- the chains of an own slot's first post
    pub own_chains : chains_for now envelope
        ≡ from_each now (slot_part shape (Replica p) log now value) ++ started now value (Replica p) ∷ []
    own_chains =
        ap (chains_for now) is
        ∙ (for_round now (chains_posted shape (Replica p) log now value)
        ∙ own_last shape (Replica p) log now value ((actor_eq-Decides (Replica p) (sender_of shape now)).1 own))

    -- it shows the clients of its value
    pub own_shown : All (IsAsked shape) (signed_in value) → clients_in now (chains_for now envelope) ≡ map (λ ask. ask.request.client) (signed_in value)
    own_shown asked =
        let part = slot_part shape (Replica p) log now value in
        ap (clients_in now) own_chains
        ∙ (others_skipped now (from_each now part) (started now value (Replica p) ∷ []) earlier
        ∙ ap (λ b. if b then map (λ ask. ask.request.client) (signed_in value) else []) (eq-eqb now now refl))
      where
        earlier : (c : Chain) → In c (from_each now (slot_part shape (Replica p) log now value)) → ¬ (c.slot ≡ now)
        earlier c h e =
            let found = from_one c now (slot_part shape (Replica p) log now value) h in
            let low = found.1 in
            let slot = part_of_slot shape p inside log now value asked found.0 c found.2 in
            omega (arith, low, slot, e)

  -- a chain of a slot's first round is the one that its sender starts
  starts_own : (later : List Entry) (slot : ℕ) (value : SlotValue) (c : Chain) (earlier : ℕ) → earlier ≡ 0
      → In c (posted shape slot (Replica p) value (suc earlier) (slot_kept shape later slot earlier)) → Replica p ≡ sender_of shape slot
  starts_own later slot value c zero e h = elim (posted_from shape slot (Replica p) value 1 [] c h) [
    | inl relay ↦ elim relay.kept_then [ ]
    | inr start ↦ start.sender
  ]
  starts_own later slot value c (suc earlier) e h = absurd (omega (arith, e))

  -- the first post of another's slot shows none
  pub others_shown : ¬ (Replica p ≡ sender_of shape now) → (later : List Entry) → IsLoyalLog shape (Replica p) later → (envelope : Envelope)
      → slice_get (posted_to (Replica 0) later) now ≡ Some envelope → clients_in now (chains_for now envelope) ≡ []
  others_shown other later loyal envelope e = none_shown now (chains_for now envelope) not_now
    where
      some : 0 < shape.n
      some = omega (arith, inside)

      not_now : (c : Chain) → In c (chains_for now envelope) → ¬ (c.slot ≡ now)
      not_now c h slot_is =
          let part = part_of_round shape (Replica p) some inside later loyal 0 some now envelope e c h in
          let same : part.slot ≡ now = sym part.proper.of_slot ∙ slot_is in
          let begins = begins_at shape part.slot in
          let round = part.round_is in
          other (starts_own later part.slot part.value c part.earlier (omega (arith, same, begins, round)) part.stands
          ∙ ap (sender_of shape) same)

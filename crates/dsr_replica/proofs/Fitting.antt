-- A loyal replica that took nothing past the limits posts nothing past them.
use Rattle.std.proofs.Common.{◌≡◌, ℕ, zero, suc, ◌+◌, ◌*◌, ◌-◌, ◌^◌, ◌<◌, ◌≤◌, ◌==◌, ◌&&◌, not, nat_lt, Bool, true, false, List, [], ◌∷◌, length, Some, if◌then◌else◌, inl, inr, refl, ap, sym, subst, arith}
use Rattle.std.specs.Prelude.{All, filter, map, slice_get}
use Rattle.std.proofs.lemmas.Bool.Decides.{Decides-eqb}
use Rattle.std.proofs.lemmas.List.{length-map, length-append, length_push}
use Rattle.std.proofs.lemmas.Bool.{cases_lt}
use Rattle.std.proofs.lemmas.List.Elements.{All-nil, All-cons, All-append, All-map, All-weaker}
use Rattle.dsr_base.specs.Member.{In, here, there}
use Rattle.dsr_base.proofs.MemberLemmas.{In-all, In-from_place}
use Rattle.dsr_names.specs.Actor.{IsNumbered}
use Rattle.dsr_names.specs.Shape.{Shape, IsAllowed}
use Rattle.dsr_names.specs.declared.actor.Actor.{Actor}
use Rattle.dsr_names.specs.declared.actor.Actor.TheVariants.{Replica, Client}
use Rattle.dsr_names.specs.Support.ActorEquality.{actor_eq}
use Rattle.dsr_request.specs.Request.{Request}
use Rattle.dsr_request.specs.RequestText.{IsRequest}
use Rattle.dsr_rotation.specs.Calendar.{first_round, last_round, closed_slots}
use Rattle.dsr_rotation.proofs.Lemmas.{closed_slots_count}
use Rattle.dsr_desk.specs.ContentText.{IsContent}
use Rattle.dsr_desk.specs.Signature.{signed}
use Rattle.dsr_desk.specs.StatementText.{IsStatement}
use Rattle.dsr_chain.specs.Chain.{Chain, signers_of, link_after, extended, started}
use Rattle.dsr_chain.specs.Content.{signed_in, content, requests_in}
use Rattle.dsr_chain.specs.Proper.{IsReplica, IsProper, sender_of}
use Rattle.dsr_chain.specs.declared.signed_request.SignedRequest.{SignedRequest}
use Rattle.dsr_chain.specs.declared.slot_value.SlotValue.{SlotValue}
use Rattle.dsr_chain.specs.declared.slot_value.SlotValue.TheVariants.{Idle, Act}
use Rattle.dsr_chain.proofs.Lemmas.{first_link}
use Rattle.dsr_slot.specs.Broadcast.{from_each}
use Rattle.dsr_slot.specs.Conduct.{is_relayed, relayed, begun, posted}
use Rattle.dsr_slot.proofs.Lemmas.{after_few, from_one, post_cases}
use Rattle.dsr_envelope.specs.declared.envelope.Envelope.{Envelope}
use Rattle.dsr_envelope.specs.declared.envelope.Envelope.TheVariants.{Empty, Round, Ask, Reply, Seen}
use Rattle.dsr_envelope.specs.declared.entry.Entry.{Entry}
use Rattle.dsr_envelope.specs.declared.entry.Entry.TheVariants.{Take}
use Rattle.dsr_replica.specs.Conduct.{slot_part, chains_posted}
use Rattle.dsr_replica.specs.Decided.{sent, slot_read, slot_kept}
use Rattle.dsr_envelope.specs.Envelope.{chains_for, round_envelope}
use Rattle.dsr_envelope.specs.Limits.{IsCount, IsSignature, IsSigned, IsChain, IsEnvelope}
use Rattle.dsr_envelope.specs.Log.{taken_from}
use Rattle.dsr_replica.specs.Posts.{MayPropose, IsOfRound}
use Rattle.dsr_replica.proofs.Posts.{none_part}
use Rattle.dsr_replica.proofs.Sources.{taken_entry, in_some, in_part}

-- what holds for each item holds for all
all_from : {A : Type 0} (P : A → Type 0) (xs : List A) → ((x : A) → In x xs → P x) → All P xs
all_from P [] each = All-nil P
all_from P (x ∷ xs) each = All-cons P x xs (each x (here refl)) (all_from P xs (λ y h. each y (there h)))

-- the requests of a value within the limits, and what a link says about them
content_fits : (value : SlotValue) → length (requests_in value) ≤ 8
    → ((requests : List Request) → content value ≡ Some requests → 0 < length requests) → All IsSigned (signed_in value) → IsContent (content value)
content_fits Idle few some each = tt
content_fits (Act batch) few some each = record {
  some = some (map (λ s. s.request) batch) refl;
  few = few;
  each = All-map IsRequest (λ (s : SignedRequest). s.request) batch (All-weaker IsSigned (λ s. IsRequest s.request) (λ s h. h.request) batch each);
}

-- ---- the number of chains in a round's envelope

filter_few : {A : Type 0} (test : A → Bool) (xs : List A) → length (filter test xs) ≤ length xs
filter_few test [] = omega arith
filter_few test (x ∷ xs) =
    let before = filter_few test xs in
    elim (test x) as (λ b. length (if b then x ∷ filter test xs else filter test xs) ≤ suc (length xs)) [
      | true ↦ omega (arith, before)
      | false ↦ omega (arith, before)
    ]

begun_few : (b : Bool) (c : Chain) → length (if b then c ∷ [] else []) ≤ 1
begun_few true c = omega arith
begun_few false c = omega arith

if_few : (b : Bool) (xs : List Chain) (most : ℕ) → length xs ≤ most → length (if b then xs else []) ≤ most
if_few true xs most few = few
if_few false xs most few = omega arith

none_later : (r : ℕ) (b : Bool) (c : Chain) → (if (suc (suc r) == 1) && b then c ∷ [] else []) ≡ []
none_later r b c = by_test (suc (suc r) == 1) refl
  where
    by_test : (a : Bool) → (suc (suc r) == 1) ≡ a → (if a && b then c ∷ [] else []) ≡ []
    by_test true e = let same = (Decides-eqb (suc (suc r)) 1).0 e in absurd (omega (arith, same))
    by_test false e = refl

-- for one slot at most two chains are posted in a round: what was kept, or what is started
part_few : (shape : Shape) (me : Actor) (log : List Entry) (slot : ℕ) (value : SlotValue) (r : ℕ)
    → length (posted shape slot me value (suc r) (slot_kept shape log slot r)) ≤ 2
part_few shape me log slot value zero =
    let few = begun_few ((1 == 1) && actor_eq me (sender_of shape slot)) (started slot value me) in omega (arith, few)
part_few shape me log slot value (suc r) =
    let kept = slot_kept shape log slot (suc r) in
    let most = after_few shape slot (slot_read shape log slot) (suc r) in
    let passed = filter_few (is_relayed me (suc (suc r))) kept in
    let mapped = length-map (filter (is_relayed me (suc (suc r))) kept) (λ k. extended k.chain me) in
    let none = none_later r (actor_eq me (sender_of shape slot)) (started slot value me) in
    let joined = length-append (relayed me (suc (suc r)) kept) (begun shape slot me value (suc (suc r))) in
    let nothing = ap length none in
    omega (arith, most, passed, mapped, joined, nothing)

count_few : (part : ℕ → List Chain) (closed n : ℕ) → ((slot : ℕ) → length (part slot) ≤ 2) → ((slot : ℕ) → slot < closed → part slot ≡ [])
    → length (from_each n part) ≤ 2 * (n - closed)
count_few part closed zero few none = omega arith
count_few part closed (suc n) few none =
    let before = count_few part closed n few none in
    let joined = length-append (from_each n part) (part n) in
    elim (cases_lt n closed) [
      | inl lower ↦ let nothing = ap length (none n lower) in omega (arith, before, joined, nothing, lower)
      | inr upper ↦ let some = few n in omega (arith, before, joined, some, upper)
    ]

few_posted : (shape : Shape) → shape.f ≤ 7 → (me : Actor) (log : List Entry) (t : ℕ) (value : SlotValue)
    → length (chains_posted shape me log t value) ≤ 32
few_posted shape low me log t value =
    let count =
    count_few (slot_part shape me log t value) (closed_slots shape t) (suc t)
    (λ slot. if_few (not (nat_lt t (first_round shape slot)) && not (nat_lt (last_round shape slot) t))
    (posted shape slot me value (suc (t - first_round shape slot)) (slot_kept shape log slot (t - first_round shape slot))) 2
    (part_few shape me log slot value (t - first_round shape slot)))
    (λ slot closed. none_part shape me log t value slot closed) in
    let closed = closed_slots_count shape t in
    omega (arith, low, count, closed)

-- ---- what was read

module _ (shape : Shape) (log : List Entry) (took : (from : Actor) (x : Envelope) → In (Take from x) log → IsEnvelope x) where
  chain_fits : (t : ℕ) (x : Envelope) → IsEnvelope x → (c : Chain) → In c (chains_for t x) → IsChain c
  chain_fits t Empty fits c h = elim h [ ]
  chain_fits t (Round round chains) fits c h = In-all IsChain c chains fits.1.each (in_if (round == t) h)
    where
      in_if : (b : Bool) → In c (if b then chains else []) → In c chains
      in_if true h = h
      in_if false h = elim h [ ]
  chain_fits t (Ask ask) fits c h = elim h [ ]
  chain_fits t (Reply reply) fits c h = elim h [ ]
  chain_fits t (Seen front) fits c h = elim h [ ]

  pub read_fits : (slot r : ℕ) (c : Chain) → In c (slot_read shape log slot r) → IsChain c
  read_fits slot zero c h = elim h [ ]
  read_fits slot (suc r) c h =
      let t = first_round shape slot + r in
      let by = from_one c shape.n (sent log t) h in
      let found = in_some t (slice_get (taken_from (Replica by.0) log) t) c by.2 in
      let entry = taken_entry (Replica by.0) log found.0 (In-from_place found.0 (taken_from (Replica by.0) log) t found.1) in
      chain_fits t found.0 (took (Replica by.0) found.0 entry) c found.2

-- ---- what is posted

module _ (shape : Shape) (allowed : IsAllowed shape) (p : ℕ) (inside : p < shape.n) where
  numbered : IsNumbered (Replica p)
  numbered = let few = allowed.few_replicas in omega (arith, few, inside)

  each_numbered : (a : Actor) → IsReplica shape a → IsNumbered a
  each_numbered (Replica q) h = let few = allowed.few_replicas in omega (arith, few, h)
  each_numbered (Client c) h = elim h [ ]

  few_rounds : shape.f ≤ 7
  few_rounds = let few = allowed.few_replicas in let most = allowed.most_loyal in omega (arith, few, most)

  -- ---- one chain

  own_fits : (slot : ℕ) (value : SlotValue) (signers : List Actor) → IsCount slot → IsContent (content value) → length signers ≤ 16
      → All (IsReplica shape) signers → IsSignature (signed (Replica p) (link_after slot value signers))
  own_fits slot value signers small fits few replicas = record {
    signer = numbered;
    statement = (small, fits, record { few = few; each = All-weaker (IsReplica shape) IsNumbered each_numbered signers replicas });
  }

  -- a chain that was read within the limits is within them with one signature more
  extended_fits : (slot r : ℕ) (chain : Chain) → IsProper shape slot r chain → r ≤ shape.f → IsChain chain → IsChain (extended chain (Replica p))
  extended_fits slot r chain proper within fits =
      let low = few_rounds in
      let count = proper.count in
      let first = first_link shape slot r chain proper in
      let of_first = (In-all IsSignature first.0 chain.signatures fits.signatures first.1).statement in
      let on_link : IsStatement (link_after slot chain.value []) = subst IsStatement first.3 of_first in
      let signers = length-map chain.signatures (λ s. s.signer) in
      let own = signed (Replica p) (link_after chain.slot chain.value (signers_of chain.signatures)) in
      let more = length_push chain.signatures own in
      record {
        slot = fits.slot;
        few_requests = fits.few_requests;
        requests = fits.requests;
        few_signatures = omega (arith, low, count, within, more);
        signatures = All-append IsSignature chain.signatures (own ∷ []) fits.signatures
            (All-cons IsSignature own []
            (own_fits chain.slot chain.value (signers_of chain.signatures) fits.slot on_link.1 (omega (arith, low, count, within, signers)) proper.replicas)
            (All-nil IsSignature));
      }

  -- so is a chain that is started
  started_fits : (slot : ℕ) (value : SlotValue) → IsCount slot → length (signed_in value) ≤ 8 → All IsSigned (signed_in value)
      → IsContent (content value) → IsChain (started slot value (Replica p))
  started_fits slot value small few each fits =
      let own = signed (Replica p) (link_after slot value []) in
      record {
        slot = small;
        few_requests = few;
        requests = each;
        few_signatures = omega arith;
        signatures = All-cons IsSignature own [] (own_fits slot value [] small fits (omega arith) (All-nil (IsReplica shape))) (All-nil IsSignature);
      }

  module _ (log : List Entry) (took : (from : Actor) (x : Envelope) → In (Take from x) log → IsEnvelope x) where
    asks_fit : (value : SlotValue) → MayPropose shape log value → All IsSigned (signed_in value)
    asks_fit value may = all_from IsSigned (signed_in value) (λ s h. took (Client s.request.client) (Ask s) (may.taken s h))

    part_fits : (slot r : ℕ) (value : SlotValue) → MayPropose shape log value → r ≤ shape.f → IsCount slot → (c : Chain)
        → In c (posted shape slot (Replica p) value (suc r) (slot_kept shape log slot r)) → IsChain c
    part_fits slot r value may within small c h = elim (post_cases shape slot (slot_read shape log slot) (Replica p) value r c h) [
      | inl relay ↦ subst IsChain relay.is (extended_fits slot r relay.chain relay.proper within (read_fits shape log took slot r relay.chain relay.read_then))
      | inr start ↦
          let count = length-map (signed_in value) (λ s. s.request) in
          let few = may.few in
          subst IsChain start.is
          (started_fits slot value small (omega (arith, few, count)) (asks_fit value may)
          (content_fits value may.few may.some (asks_fit value may)))
    ]

    chains_fit : (t : ℕ) (value : SlotValue) → MayPropose shape log value → t ≤ 2 ^ 36 → (c : Chain)
        → In c (chains_posted shape (Replica p) log t value) → IsChain c
    chains_fit t value may low c h =
        let by = from_one c (suc t) (slot_part shape (Replica p) log t value) h in
        let part = in_part shape (Replica p) log t by.0 value c by.2 in
        let begun = part.0 in
        let unfinished = part.1 in
        let below = by.1 in
        part_fits by.0 (t - first_round shape by.0) value may (omega (arith, begun, unfinished)) (omega (arith, below, low)) c part.2

    -- ---- the envelope of a round

    round_fits : (t : ℕ) (chains : List Chain) → IsCount t → length chains ≤ 32 → ((c : Chain) → In c chains → IsChain c)
        → IsEnvelope (round_envelope t chains)
    round_fits t [] low few each = tt
    round_fits t (c ∷ cs) low few each = (low, record { few = few; each = all_from IsChain (c ∷ cs) each })

    pub of_round_fits : (t : ℕ) (x : Envelope) → t ≤ 2 ^ 36 → IsOfRound shape (Replica p) log t x → IsEnvelope x
    of_round_fits t x low h =
        subst IsEnvelope (sym h.is)
        (round_fits t (chains_posted shape (Replica p) log t h.value) (omega (arith, low)) (few_posted shape few_rounds (Replica p) log t h.value)
        (chains_fit t h.value h.may low))

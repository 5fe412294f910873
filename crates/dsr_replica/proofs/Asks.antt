-- What held asks come from, and what may be proposed.
use Rattle.std.proofs.Common.{◌≡◌, ℕ, ◌==◌, ◌&&◌, Bool, true, false, List, [], ◌∷◌, length, Option, None, Some, if◌then◌else◌, ◌⊎◌, inl, inr, refl, ap, sym, ◌∙◌, subst, arith}
use Rattle.std.specs.Prelude.{◌≢◌, All, AllPairs, map}
use Rattle.std.proofs.Math.ListN.{get_or-map}
use Rattle.std.proofs.lemmas.Simd.{map-map}
use Rattle.std.proofs.lemmas.List.{length-map}
use Rattle.std.proofs.lemmas.Bool.Decides.{Decides-eqb, Decides-and}
use Rattle.std.proofs.lemmas.List.Elements.{All-nil, All-cons}
use Rattle.std.proofs.lemmas.Option.{none-some, same_Some}
use Rattle.dsr_base.specs.Member.{In, here, there}
use Rattle.dsr_chain.specs.declared.slot_value.SlotValue.{SlotValue}
use Rattle.dsr_chain.specs.declared.slot_value.SlotValue.TheVariants.{Idle, Act}
use Rattle.dsr_envelope.specs.declared.pick.Pick.{Pick}
use Rattle.dsr_envelope.specs.declared.pick.Pick.TheVariants.{Plain, From, Begin}
use Rattle.dsr_replica.specs.Conduct.{proposed}
use Rattle.dsr_envelope.specs.Log.{rounds}
use Rattle.dsr_envelope.specs.Pick.{IsClients, IsPick}
use Rattle.dsr_replica.specs.Posts.{MayPropose}
use Rattle.dsr_names.specs.declared.actor.Actor.{Actor}
use Rattle.dsr_names.specs.Shape.{Shape}
use Rattle.dsr_names.specs.declared.actor.Actor.TheVariants.{Replica, Client}
use Rattle.dsr_chain.specs.Proper.{IsAsked}
use Rattle.dsr_chain.specs.ProperTest.{is_asked}
use Rattle.dsr_chain.specs.declared.signed_request.SignedRequest.{SignedRequest}
use Rattle.dsr_chain.proofs.Lemmas.{asked-Decides}
use Rattle.dsr_slot.proofs.Lemmas.{by_test}
use Rattle.dsr_envelope.specs.declared.envelope.Envelope.{Envelope}
use Rattle.dsr_envelope.specs.declared.envelope.Envelope.TheVariants.{Empty, Round, Ask, Reply, Seen}
use Rattle.dsr_envelope.specs.declared.entry.Entry.{Entry}
use Rattle.dsr_envelope.specs.declared.entry.Entry.TheVariants.{Post, Take}
use Rattle.dsr_replica.specs.Held.{is_own_ask, gives_way, held_with, held, put_before, all_held}
use Rattle.dsr_replica.proofs.Saying.{from_parts}

-- an ask that a client signed as its own request
pub record IsOwnAsk (shape : Shape) (client : ℕ) (s : SignedRequest) : Type 0 where
  pub client_is : s.request.client ≡ client
  pub asked : IsAsked shape s

-- what the test decides
pub own_parts : (shape : Shape) (client : ℕ) (s : SignedRequest) → is_own_ask shape client s ≡ true → IsOwnAsk shape client s
own_parts shape client s e =
    let parts = (Decides-and (s.request.client == client) (is_asked shape s) (Decides-eqb s.request.client client) (asked-Decides shape s)).0 e in
    record { client_is = parts.0; asked = parts.1 }

module _ (shape : Shape) (client : ℕ) where
  and_first : (b c : Bool) → (b && c) ≡ true → b ≡ true
  and_first true c e = refl
  and_first false c e = e

  one_ask : (b : Bool) (ask : SignedRequest) (before : Option SignedRequest) (s : SignedRequest)
      → b ≡ (is_own_ask shape client ask && gives_way before ask.request.number) → (if b then Some ask else before) ≡ Some s
      → (before ≡ Some s) ⊎ ((ask ≡ s) × (is_own_ask shape client ask ≡ true))
  one_ask true ask before s test e = inr (same_Some ask s e, and_first (is_own_ask shape client ask) (gives_way before ask.request.number) (sym test))
  one_ask false ask before s test e = inl e

  -- what is held after an envelope was held before, or it is the ask that the envelope carries
  with_cases : (envelope : Envelope) (before : Option SignedRequest) (s : SignedRequest) → held_with shape client before envelope ≡ Some s
      → (before ≡ Some s) ⊎ ((envelope ≡ Ask s) × IsOwnAsk shape client s)
  with_cases Empty before s e = inl e
  with_cases (Round round chains) before s e = inl e
  with_cases (Ask ask) before s e =
      elim (one_ask (is_own_ask shape client ask && gives_way before ask.request.number) ask before s refl e) [
        | inl old ↦ inl old
        | inr new ↦ inr (ap Ask new.0, own_parts shape client s (subst (λ a. is_own_ask shape client a ≡ true) new.0 new.1))
      ]
  with_cases (Reply reply) before s e = inl e
  with_cases (Seen front) before s e = inl e

  -- a held ask was taken from its client, who signed it as its own
  pub record WasHeld (log : List Entry) (s : SignedRequest) : Type 0 where
    pub own : IsOwnAsk shape client s
    pub taken : In (Take (Client client) (Ask s)) log

  held_before : (entry : Entry) (log : List Entry) (s : SignedRequest) → WasHeld log s → WasHeld (entry ∷ log) s
  held_before entry log s h = record { own = h.own; taken = there h.taken }

  take_cases : (c : ℕ) (envelope : Envelope) (before : Option SignedRequest) (s : SignedRequest)
      → (if c == client then held_with shape client before envelope else before) ≡ Some s
      → (before ≡ Some s) ⊎ ((c ≡ client) × (envelope ≡ Ask s) × IsOwnAsk shape client s)
  take_cases c envelope before s e =
      elim (by_test (c == client) (Decides-eqb c client) (held_with shape client before envelope) before) [
        | inl same ↦ elim (with_cases envelope before s (sym same.1 ∙ e)) [
          | inl old ↦ inl old
          | inr new ↦ inr (same.0, new.0, new.1)
        ]
        | inr other ↦ inl (sym other.1 ∙ e)
      ]

  pub held_from : (log : List Entry) (s : SignedRequest) → held shape client log ≡ Some s → WasHeld log s
  held_from [] s e = absurd (none-some s e)
  held_from (Post to envelope ∷ older) s e = held_before (Post to envelope) older s (held_from older s e)
  held_from (Take (Replica p) envelope ∷ older) s e = held_before (Take (Replica p) envelope) older s (held_from older s e)
  held_from (Take (Client c) envelope ∷ older) s e = elim (take_cases c envelope (held shape client older) s e) [
    | inl old ↦ held_before (Take (Client c) envelope) older s (held_from older s old)
    | inr new ↦ record { own = new.2; taken = here (λ i. Take (Client (new.0 i)) (new.1 i)) }
  ]

-- ---- the asks held for some clients

pub put_parts : {A : Type 0} (first : Option A) (more : Option (List A)) (all : List A) → put_before first more ≡ Some all
    → (x : A) × (xs : List A) × (first ≡ Some x) × (more ≡ Some xs) × (x ∷ xs ≡ all)
put_parts None more all e = absurd (none-some all e)
put_parts (Some x) None all e = absurd (none-some all e)
put_parts (Some x) (Some xs) all e = (x, xs, refl, refl, same_Some (x ∷ xs) all e)

-- asks that were taken, of these clients
pub record AreHeld (shape : Shape) (log : List Entry) (clients : List ℕ) (asks : List SignedRequest) : Type 0 where
  pub clients_are : map (λ s. s.request.client) asks ≡ clients
  pub asked : All (IsAsked shape) asks
  pub taken : (s : SignedRequest) → In s asks → In (Take (Client s.request.client) (Ask s)) log

held_more : (shape : Shape) (log : List Entry) (client : ℕ) (clients : List ℕ) (s : SignedRequest) (more : List SignedRequest)
    → WasHeld shape client log s → AreHeld shape log clients more → AreHeld shape log (client ∷ clients) (s ∷ more)
held_more shape log client clients s more first rest = record {
  clients_are = λ i. first.own.client_is i ∷ rest.clients_are i;
  asked = All-cons (IsAsked shape) s more first.own.asked rest.asked;
  taken = each;
}
  where
    each : (z : SignedRequest) → In z (s ∷ more) → In (Take (Client z.request.client) (Ask z)) log
    each z (here e) =
        subst (λ a. In (Take (Client a.request.client) (Ask a)) log) e
        (subst (λ c. In (Take (Client c) (Ask s)) log) (sym first.own.client_is) first.taken)
    each z (there h) = rest.taken z h

pub all_held_from : (shape : Shape) (log : List Entry) (clients : List ℕ) (asks : List SignedRequest) → all_held shape log clients ≡ Some asks
    → AreHeld shape log clients asks
all_held_from shape log [] asks e =
    subst (AreHeld shape log []) (same_Some [] asks e)
    (record { clients_are = refl; asked = All-nil (IsAsked shape); taken = λ s h. elim h [ ] })
all_held_from shape log (client ∷ clients) asks e =
    let parts = put_parts (held shape client log) (all_held shape log clients) asks e in
    subst (AreHeld shape log (client ∷ clients)) parts.4
    (held_more shape log client clients parts.0 parts.1 (held_from shape client log parts.0 parts.2) (all_held_from shape log clients parts.1 parts.3))

-- ---- what may be proposed

-- items that differ by a number
pub distinct_map : {A : Type 0} (f : A → ℕ) (xs : List A) (numbers : List ℕ) → map f xs ≡ numbers → AllPairs (λ a b. a ≢ b) numbers
    → AllPairs (λ x y. f x ≢ f y) xs
distinct_map f xs numbers is distinct = λ i j d before inside e.
    let apart = subst (AllPairs (λ a b. a ≢ b)) (sym is) distinct in
    apart i j (f d) before (omega (arith, inside, length-map xs f)) (get_or-map f xs i d ∙ (e ∙ sym (get_or-map f xs j d)))

idle_may : (shape : Shape) (log : List Entry) → MayPropose shape log Idle
idle_may shape log = record {
  some = λ requests e. absurd (none-some requests e);
  few = omega arith;
  different = λ i j d before inside. absurd (omega (arith, inside));
  asked = All-nil (IsAsked shape);
  taken = λ s h. elim h [ ];
}

held_may : (shape : Shape) (log : List Entry) (clients : List ℕ) (asks : List SignedRequest) → IsClients clients
    → AreHeld shape log clients asks → MayPropose shape log (Act asks)
held_may shape log clients asks list are =
    let requests = map (λ s. s.request) asks in
    let numbers : map (λ r. r.client) requests ≡ clients = map-map (λ r. r.client) (λ s. s.request) asks ∙ are.clients_are in
    let count : length requests ≡ length clients = sym (length-map requests (λ r. r.client)) ∙ ap length numbers in
    record {
      some = λ given e. let same = ap length (same_Some requests given e) in let many = list.some in omega (arith, count, many, same);
      few = let most = list.few in omega (arith, count, most);
      different = distinct_map (λ r. r.client) requests clients numbers list.distinct;
      asked = are.asked;
      taken = are.taken;
    }

-- what a choice proposes may be proposed
pub proposed_may : (shape : Shape) (me : Actor) (log : List Entry) (pick : Pick) (value : SlotValue) → IsPick pick
    → proposed shape me log pick ≡ Some value → MayPropose shape log value
proposed_may shape me log Plain value good e = subst (MayPropose shape log) (same_Some Idle value e) (idle_may shape log)
proposed_may shape me log (From clients) value good e =
    let parts = from_parts shape me (rounds shape log) (all_held shape log clients) value e in
    subst (MayPropose shape log) parts.is (held_may shape log clients parts.list good (all_held_from shape log clients parts.list parts.are))
proposed_may shape me log (Begin op) value good e = absurd (none-some value e)

-- what may be proposed may be later
pub may_later : (shape : Shape) (entry : Entry) (log : List Entry) (value : SlotValue) → MayPropose shape log value
    → MayPropose shape (entry ∷ log) value
may_later shape entry log value may =
    record { some = may.some; few = may.few; different = may.different; asked = may.asked; taken = λ s h. there (may.taken s h) }

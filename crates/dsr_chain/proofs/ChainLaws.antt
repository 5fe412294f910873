-- Laws of chains: how a proper one begins and grows, on which links its signatures are, that its content determines
-- its value, and that a long one has a loyal signer.
use Rattle.std.proofs.Common.{◌≡◌, ◌≢◌, ℕ, zero, suc, ◌<◌, ◌≤◌, true, false, List, [], ◌∷◌, ◌++◌, Some, map, length, take, get_or, ◌⊎◌, inl, inr, refl, ap, sym, ◌∙◌, subst, arith}
use Rattle.std.specs.Prelude.{All, AllPairs, Any, slice_get}
use Rattle.std.proofs.lemmas.Bool.{cases_Bool}
use Rattle.std.proofs.lemmas.List.{get_or_default, get_or-map, length-map, length-take-le, length_push, map_push, take-append-le, take_at}
use Rattle.std.proofs.lemmas.List.Elements.{All-nil, All-cons, All-head, All-tail, All-map, All-push, All-weaker, All-get_or}
use Rattle.std.proofs.lemmas.List.Quantifiers.{all_pairs_push}
use Rattle.std.proofs.lemmas.Option.{same_Some, none-some, slice_get_within}
use Rattle.dsr_base.specs.Bits.{count_below}
use Rattle.dsr_base.specs.Member.{In, here, there}
use Rattle.dsr_names.specs.Shape.{Shape, is_traitor}
use Rattle.dsr_names.specs.declared.actor.Actor.{Actor}
use Rattle.dsr_names.specs.declared.actor.Actor.TheVariants.{Replica, Client}
use Rattle.dsr_base.proofs.MemberLemmas.{In-append_cases, In-one, In-place, In-from_place}
use Rattle.dsr_base.proofs.Pigeonhole.{pigeonhole}
use Rattle.dsr_request.specs.Request.{Request}
use Rattle.dsr_desk.specs.Signature.{Signature, signed}
use Rattle.dsr_chain.specs.Content.{content, signed_in, signed_by}
use Rattle.dsr_chain.specs.Chain.{Chain, signers_of, link_after, extended, started}
use Rattle.dsr_chain.specs.Proper.{IsReplica, IsAsked, IsProper, sender_of, fitting_at}
use Rattle.dsr_chain.specs.declared.signed_request.SignedRequest.{SignedRequest}
use Rattle.dsr_chain.specs.declared.slot_value.SlotValue.{SlotValue}
use Rattle.dsr_chain.specs.declared.slot_value.SlotValue.TheVariants.{Idle, Act}
use Rattle.dsr_chain.proofs.ProperDecides.{at_head, in_rest, head_or_rest, none_in_nil}

-- ---- signers

-- if a signature is in the list, its signer signed
pub signer_in : (s : Signature) (signatures : List Signature) → In s signatures → Any (λ t. t.signer ≡ s.signer) signatures
signer_in s [] h = elim h [ ]
signer_in s (t ∷ rest) (here e) = at_head (λ u. u.signer ≡ s.signer) t rest (ap (λ u. u.signer) e)
signer_in s (t ∷ rest) (there h) = in_rest (λ u. u.signer ≡ s.signer) t rest (signer_in s rest h)

-- an actor that signed has a signature in the list
pub signature_of : (a : Actor) (signatures : List Signature) → Any (λ t. t.signer ≡ a) signatures → (s : Signature) × In s signatures × (s.signer ≡ a)
signature_of a [] h = absurd (none_in_nil (λ t. t.signer ≡ a) h)
signature_of a (t ∷ rest) h = elim (head_or_rest (λ u. u.signer ≡ a) t rest h) [
  | inl first ↦ (t, here refl, first)
  | inr later ↦ let found = signature_of a rest later in (found.0, there found.1, found.2)
]

-- who is among the signers signed
pub signed_from_signers : (a : Actor) (signatures : List Signature) → Any (λ b. b ≡ a) (signers_of signatures) → Any (λ s. s.signer ≡ a) signatures
signed_from_signers a [] h = absurd (none_in_nil (λ b. b ≡ a) h)
signed_from_signers a (s ∷ rest) h = elim (head_or_rest (λ b. b ≡ a) s.signer (signers_of rest) h) [
  | inl first ↦ at_head (λ t. t.signer ≡ a) s rest first
  | inr later ↦ in_rest (λ t. t.signer ≡ a) s rest (signed_from_signers a rest later)
]

-- a proper chain has a signer for each round
pub signers_count : (shape : Shape) (slot r : ℕ) (chain : Chain) → IsProper shape slot r chain → length (signers_of chain.signatures) ≡ r
signers_count shape slot r chain h = length-map chain.signatures (λ s. s.signer) ∙ h.count

-- ---- the first signature

started_fits : (slot : ℕ) (value : SlotValue) (a : Actor) (place : ℕ) (s : Signature) → slice_get (signed a (link_after slot value []) ∷ []) place ≡ Some s
    → s.statement ≡ fitting_at (started slot value a) place
started_fits slot value a zero s stands = ap (λ t. t.statement) (sym (same_Some (signed a (link_after slot value [])) s stands))
started_fits slot value a (suc place) s stands = absurd (none-some s stands)

-- what the sender of a slot starts is proper for the first round
pub started_proper : (shape : Shape) (slot : ℕ) (value : SlotValue) → IsReplica shape (sender_of shape slot) → All (IsAsked shape) (signed_in value)
    → IsProper shape slot 1 (started slot value (sender_of shape slot))
started_proper shape slot value sender asked =
    record {
      of_slot = refl;
      count = refl;
      sender_first = refl;
      replicas = All-cons (IsReplica shape) (sender_of shape slot) [] sender (All-nil (IsReplica shape));
      distinct = λ i j d apart inside. absurd (omega (arith, apart, inside));
      fitting = started_fits slot value (sender_of shape slot);
      asked = asked;
    }

-- ---- one more signature

-- what is in a list with one more item
pushed_at : {X : Type 0} (xs : List X) (y x : X) (place : ℕ) → slice_get (xs ++ y ∷ []) place ≡ Some x
    → ((slice_get xs place ≡ Some x) × (place ≤ length xs)) ⊎ ((y ≡ x) × (length xs ≡ place))
pushed_at [] y x zero e = inr (same_Some y x e, refl)
pushed_at [] y x (suc place) e = absurd (none-some x e)
pushed_at (z ∷ xs) y x zero e = inl (e, omega arith)
pushed_at (z ∷ xs) y x (suc place) e = elim (pushed_at xs y x place e) [
  | inl before ↦ inl (before.0, omega (arith, before.1))
  | inr last ↦ inr (last.0, omega (arith, last.1))
]

first_stays : {X : Type 0} (xs ys : List X) (x : X) → slice_get xs 0 ≡ Some x → slice_get (xs ++ ys) 0 ≡ Some x
first_stays [] ys x e = absurd (none-some x e)
first_stays (z ∷ xs) ys x e = e

extended_fits : (shape : Shape) (slot r : ℕ) (chain : Chain) (a : Actor) → IsProper shape slot r chain → (place : ℕ) (s : Signature)
    → slice_get (extended chain a).signatures place ≡ Some s → s.statement ≡ fitting_at (extended chain a) place
extended_fits shape slot r chain a h place s stands =
    let own = signed a (link_after chain.slot chain.value (signers_of chain.signatures)) in
    elim (pushed_at chain.signatures own s place stands) [
      | inl before ↦
          h.fitting place s before.0
          ∙ ap (λ xs. link_after chain.slot chain.value (signers_of xs)) (sym (take-append-le place chain.signatures (own ∷ []) before.1))
      | inr last ↦
          ap (λ t. t.statement) (sym last.0)
          ∙ ap (λ xs. link_after chain.slot chain.value (signers_of xs)) (sym (take_at chain.signatures (own ∷ []) place last.1))
    ]

extended_distinct : (signers : List Actor) (a : Actor) → AllPairs (λ x y. x ≢ y) signers → ¬ Any (λ b. b ≡ a) signers → AllPairs (λ x y. x ≢ y) (signers ++ a ∷ [])
extended_distinct signers a distinct fresh =
    all_pairs_push (λ x y. x ≢ y) signers a distinct
    (λ k d inside. λ e. fresh (k, get_or signers k d, inside, get_or_default signers k (get_or signers k d) d inside, e))

-- if a replica of the shape signs a proper chain that lacks its signature, the chain is proper for the next round
pub extended_proper : (shape : Shape) (slot r : ℕ) (chain : Chain) (a : Actor) → IsProper shape slot r chain → IsReplica shape a
    → ¬ Any (λ s. s.signer ≡ a) chain.signatures → IsProper shape slot (suc r) (extended chain a)
extended_proper shape slot r chain a h replica fresh =
    let own = signed a (link_after chain.slot chain.value (signers_of chain.signatures)) in
    let signers : signers_of (chain.signatures ++ own ∷ []) ≡ signers_of chain.signatures ++ a ∷ [] = map_push (λ s. s.signer) chain.signatures own in
    record {
      of_slot = h.of_slot;
      count = omega (arith, length_push chain.signatures own, h.count);
      sender_first =
          subst (λ xs. slice_get xs 0 ≡ Some (sender_of shape slot)) (sym signers)
          (first_stays (signers_of chain.signatures) (a ∷ []) (sender_of shape slot) h.sender_first);
      replicas = subst (All (IsReplica shape)) (sym signers) (All-push (IsReplica shape) (signers_of chain.signatures) a h.replicas replica);
      distinct =
          subst (AllPairs (λ x y. x ≢ y)) (sym signers)
          (extended_distinct (signers_of chain.signatures) a h.distinct (λ again. fresh (signed_from_signers a chain.signatures again)));
      fitting = extended_fits shape slot r chain a h;
      asked = h.asked;
    }

-- the last signature of an extended chain is on the link after all signers before
pub own_place : (shape : Shape) (slot r : ℕ) (chain : Chain) (a : Actor) (s : Signature) → IsProper shape slot r chain
    → ¬ Any (λ t. t.signer ≡ a) chain.signatures → In s (extended chain a).signatures → s.signer ≡ a
    → s ≡ signed a (link_after slot chain.value (signers_of chain.signatures))
own_place shape slot r chain a s h fresh stands own =
    elim (In-append_cases s chain.signatures (signed a (link_after chain.slot chain.value (signers_of chain.signatures)) ∷ []) stands) [
      | inl before ↦ absurd (fresh (subst (λ b. Any (λ t. t.signer ≡ b) chain.signatures) own (signer_in s chain.signatures before)))
      | inr last ↦
          sym (In-one s (signed a (link_after chain.slot chain.value (signers_of chain.signatures))) last)
          ∙ ap (λ k. signed a (link_after k chain.value (signers_of chain.signatures))) h.of_slot
    ]

-- a signature of an extended chain that is not the new signer's was in the chain before
pub other_place : (chain : Chain) (a : Actor) (s : Signature) → In s (extended chain a).signatures → s.signer ≢ a → In s chain.signatures
other_place chain a s stands other =
    elim (In-append_cases s chain.signatures (signed a (link_after chain.slot chain.value (signers_of chain.signatures)) ∷ []) stands) [
      | inl before ↦ before
      | inr last ↦ not_last (signed a (link_after chain.slot chain.value (signers_of chain.signatures))) other last
    ]
  where
    not_last : (y : Signature) → s.signer ≢ y.signer → In s (y ∷ []) → In s chain.signatures
    not_last y differ (here e) = absurd (differ (ap (λ t. t.signer) (sym e)))
    not_last y differ (there later) = elim later [ ]

-- ---- links

-- equal links have equal parts
pub link_parts : (slot slot' : ℕ) (v w : SlotValue) (xs ys : List Actor) → link_after slot v xs ≡ link_after slot' w ys
    → (slot ≡ slot') × (content v ≡ content w) × (xs ≡ ys)
link_parts slot slot' v w xs ys e = (cc, cc, cc)

-- the new signer's own signature determines the slot, the content and how many signed before
pub own_before : (shape : Shape) (slot r : ℕ) (chain : Chain) (a : Actor) (s : Signature) (slot' : ℕ) (w : SlotValue) (before : List Actor)
    → IsProper shape slot r chain → ¬ Any (λ t. t.signer ≡ a) chain.signatures → In s (extended chain a).signatures → s.signer ≡ a
    → s.statement ≡ link_after slot' w before → (slot' ≡ slot) × (content w ≡ content chain.value) × (length before ≡ r)
own_before shape slot r chain a s slot' w before h fresh stands own on_link =
    let own_link : s.statement ≡ link_after slot chain.value (signers_of chain.signatures) =
    ap (λ t. t.statement) (own_place shape slot r chain a s h fresh stands own) in
    let parts = link_parts slot' slot w chain.value before (signers_of chain.signatures) (sym on_link ∙ own_link) in
    (parts.0, parts.1, ap length parts.2 ∙ signers_count shape slot r chain h)

-- the signature is on a link of the slot and the value, with fewer than r signers before it
pub record StandsOnLink (slot : ℕ) (value : SlotValue) (r : ℕ) (s : Signature) : Type 0 where
  pub before : List Actor
  pub statement : s.statement ≡ link_after slot value before
  pub fewer : length before < r

-- each signature of a proper chain is on a link of its slot and value, with fewer signers before than the chain has
pub link_at : (shape : Shape) (slot r : ℕ) (chain : Chain) (s : Signature) → IsProper shape slot r chain → In s chain.signatures
    → StandsOnLink slot chain.value r s
link_at shape slot r chain s h stands =
    let at = In-place s chain.signatures stands in
    let inside : at.0 < length chain.signatures = slice_get_within chain.signatures at.0 s at.1 in
    let front = take at.0 chain.signatures in
    let taken : length front ≡ at.0 = length-take-le at.0 chain.signatures (omega (arith, inside)) in
    record {
      before = signers_of front;
      statement = h.fitting at.0 s at.1 ∙ ap (λ k. link_after k chain.value (signers_of front)) h.of_slot;
      fewer = omega (arith, inside, taken, length-map front (λ t. t.signer), h.count);
    }

first_signature : (a : Actor) (signatures : List Signature) → slice_get (signers_of signatures) 0 ≡ Some a
    → (s : Signature) × (slice_get signatures 0 ≡ Some s) × (s.signer ≡ a)
first_signature a [] e = absurd (none-some a e)
first_signature a (s ∷ rest) e = (s, refl, same_Some s.signer a e)

-- the sender's signature is on the link with no signer before it
pub first_link : (shape : Shape) (slot r : ℕ) (chain : Chain) → IsProper shape slot r chain
    → (s : Signature) × In s chain.signatures × (s.signer ≡ sender_of shape slot) × (s.statement ≡ link_after slot chain.value [])
first_link shape slot r chain h =
    let first = first_signature (sender_of shape slot) chain.signatures h.sender_first in
    let fits : first.0.statement ≡ link_after chain.slot chain.value [] = h.fitting 0 first.0 first.1 in
    (first.0, In-from_place first.0 chain.signatures 0 first.1, first.2, fits ∙ ap (λ k. link_after k chain.value []) h.of_slot)

-- ---- values

abbrev make : Request → Signature → SignedRequest
make request signature = record { request = request; signature = signature }

asked_is : (shape : Shape) (s : SignedRequest) → IsAsked shape s → s ≡ signed_by s.request (Client s.request.client)
asked_is shape s h = ap (make s.request) h.signature

same_asked : (shape : Shape) (xs ys : List SignedRequest) → All (IsAsked shape) xs → All (IsAsked shape) ys
    → map (λ s. s.request) xs ≡ map (λ s. s.request) ys → xs ≡ ys
same_asked shape [] [] hx hy e = refl
same_asked shape [] (y ∷ ys) hx hy e = cc
same_asked shape (x ∷ xs) [] hx hy e = cc
same_asked shape (x ∷ xs) (y ∷ ys) hx hy e =
    let requests : x.request ≡ y.request = cc in
    let tails : map (λ s. s.request) xs ≡ map (λ s. s.request) ys = cc in
    let rest : xs ≡ ys = same_asked shape xs ys (All-tail (IsAsked shape) x xs hx) (All-tail (IsAsked shape) y ys hy) tails in
    let first : x ≡ y =
    asked_is shape x (All-head (IsAsked shape) x xs hx)
    ∙ (ap (λ q. signed_by q (Client q.client)) requests ∙ sym (asked_is shape y (All-head (IsAsked shape) y ys hy))) in
    cc

-- values with the same requests, all asked, are equal
pub same_asked_value : (shape : Shape) (v w : SlotValue) → All (IsAsked shape) (signed_in v) → All (IsAsked shape) (signed_in w)
    → content v ≡ content w → v ≡ w
same_asked_value shape Idle Idle hv hw e = refl
same_asked_value shape Idle (Act ys) hv hw e = cc
same_asked_value shape (Act xs) Idle hv hw e = cc
same_asked_value shape (Act xs) (Act ys) hv hw e =
    ap Act (same_asked shape xs ys hv hw (same_Some (map (λ s. s.request) xs) (map (λ s. s.request) ys) e))

-- proper chains with one content have one value, since the signatures in it are the clients' on those requests
pub same_value : (shape : Shape) (slot r r' : ℕ) (c d : Chain) → IsProper shape slot r c → IsProper shape slot r' d
    → content c.value ≡ content d.value → c.value ≡ d.value
same_value shape slot r r' c d hc hd e = same_asked_value shape c.value d.value hc.asked hd.asked e

-- ---- a loyal signer

-- a signature in the list is a loyal replica's
pub record HasLoyalSigner (shape : Shape) (signatures : List Signature) : Type 0 where
  pub signature : Signature
  pub stands : In signature signatures
  pub replica : ℕ
  pub signer : signature.signer ≡ Replica replica
  pub inside : replica < shape.n
  pub loyal : is_traitor shape replica ≡ false

abbrev number_of : Actor → ℕ
number_of (Replica r) = r
number_of (Client c) = c

abbrev numbers_of : List Signature → List ℕ
numbers_of signatures = map number_of (signers_of signatures)

loyal_later : (shape : Shape) (s : Signature) (rest : List Signature) → HasLoyalSigner shape rest → HasLoyalSigner shape (s ∷ rest)
loyal_later shape s rest h =
    record { signature = h.signature; stands = there h.stands; replica = h.replica; signer = h.signer; inside = h.inside; loyal = h.loyal }

loyal_or_traitor : (shape : Shape) (s : Signature) (rest : List Signature) (a : Actor) → s.signer ≡ a → IsReplica shape a
    → All (λ k. is_traitor shape k ≡ true) (numbers_of rest)
    → HasLoyalSigner shape (s ∷ rest) ⊎ All (λ k. is_traitor shape k ≡ true) (numbers_of (s ∷ rest))
loyal_or_traitor shape s rest (Client c) is replica traitors = absurd replica
loyal_or_traitor shape s rest (Replica l) is replica traitors = elim (cases_Bool (is_traitor shape l)) [
  | inl traitor ↦
      inr (All-cons (λ k. is_traitor shape k ≡ true) (number_of s.signer) (numbers_of rest)
      (ap (λ a. is_traitor shape (number_of a)) is ∙ traitor) traitors)
  | inr loyal ↦ inl (record { signature = s; stands = here refl; replica = l; signer = is; inside = replica; loyal = loyal })
]

-- one of the signers is loyal, or all are traitors
loyal_or_traitors : (shape : Shape) (signatures : List Signature) → All (IsReplica shape) (signers_of signatures)
    → HasLoyalSigner shape signatures ⊎ All (λ k. is_traitor shape k ≡ true) (numbers_of signatures)
loyal_or_traitors shape [] replicas = inr (All-nil (λ k. is_traitor shape k ≡ true))
loyal_or_traitors shape (s ∷ rest) replicas =
    elim (loyal_or_traitors shape rest (All-tail (IsReplica shape) s.signer (signers_of rest) replicas)) [
      | inl loyal ↦ inl (loyal_later shape s rest loyal)
      | inr traitors ↦
          loyal_or_traitor shape s rest s.signer refl (All-head (IsReplica shape) s.signer (signers_of rest) replicas) traitors
    ]

number_below : (shape : Shape) (a : Actor) → IsReplica shape a → number_of a < shape.n
number_below shape (Replica r) h = h
number_below shape (Client c) h = absurd h

same_number : (shape : Shape) (a b : Actor) → IsReplica shape a → IsReplica shape b → number_of a ≡ number_of b → a ≡ b
same_number shape (Replica r) (Replica s) ha hb e = ap Replica e
same_number shape (Replica r) (Client c) ha hb e = absurd hb
same_number shape (Client c) b ha hb e = absurd ha

numbers_apart : (shape : Shape) (actors : List Actor) → All (IsReplica shape) actors → AllPairs (λ x y. x ≢ y) actors
    → AllPairs (λ x y. x ≢ y) (map number_of actors)
numbers_apart shape actors replicas distinct i j d less inside same =
    let blank = Replica 0 in
    let count : length (map number_of actors) ≡ length actors = length-map actors number_of in
    let second : j < length actors = omega (arith, inside, count) in
    let first : i < length actors = omega (arith, less, second) in
    let numbers : number_of (get_or actors i blank) ≡ number_of (get_or actors j blank) =
    sym (get_or-map number_of actors i blank d first) ∙ (same ∙ get_or-map number_of actors j blank d second) in
    distinct i j blank less second
    (same_number shape (get_or actors i blank) (get_or actors j blank) (All-get_or (IsReplica shape) actors i blank first replicas)
    (All-get_or (IsReplica shape) actors j blank second replicas) numbers)

-- a chain with more signatures than there are traitors has a loyal replica's signature
pub some_loyal : (shape : Shape) (slot : ℕ) (chain : Chain) → IsProper shape slot (suc shape.f) chain
    → count_below (is_traitor shape) shape.n ≤ shape.f → HasLoyalSigner shape chain.signatures
some_loyal shape slot chain h few = elim (loyal_or_traitors shape chain.signatures h.replicas) [
  | inl loyal ↦ loyal
  | inr traitors ↦
      let signers = signers_of chain.signatures in
      let below : All (λ k. k < shape.n) (map number_of signers) =
      All-map (λ k. k < shape.n) number_of signers
      (All-weaker (IsReplica shape) (λ a. number_of a < shape.n) (number_below shape) signers h.replicas) in
      let most = pigeonhole (is_traitor shape) shape.n (map number_of signers) (numbers_apart shape signers h.replicas h.distinct) below traitors in
      let count : length (map number_of signers) ≡ suc shape.f =
      length-map signers number_of ∙ signers_count shape slot (suc shape.f) chain h in
      absurd (omega (arith, most, count, few))
]

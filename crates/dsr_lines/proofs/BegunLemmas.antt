-- With what a post begins a slot: no choice begins it with two requests of one client, and what a loyal replica posts shows its choice.
use Rattle.std.proofs.Common.{◌≡◌, ℕ, zero, suc, ◌+◌, ◌-◌, ◌<◌, ◌≤◌, ◌==◌, Bool, true, false, List, [], ◌∷◌, ◌++◌, Option, None, Some, inl, inr, length, take, drop, get_or, if◌then◌else◌, refl, ap, sym, ◌∙◌, subst, arith}
use Rattle.std.specs.Prelude.{◌≢◌, AllPairs, Any, IfNone, map, slice_index_or}
use Rattle.std.specs.Option.{option_map}
use Rattle.std.proofs.lemmas.Bool.Decides.{Decides-eqb}
use Rattle.std.proofs.lemmas.Grind.{common_steps}
use Rattle.std.proofs.lemmas.List.{take_more}
use Rattle.std.proofs.lemmas.Option.{none-some, same_Some}
use Rattle.std.proofs.lemmas.Simd.{map-map}
use Rattle.dsr_names.specs.Shape.{Shape}
use Rattle.dsr_names.specs.Support.ActorEquality.{actor_eq}
use Rattle.dsr_names.specs.declared.actor.Actor.{Actor}
use Rattle.dsr_chain.specs.Chain.{Chain, started}
use Rattle.dsr_chain.specs.Content.{signed_in}
use Rattle.dsr_chain.specs.Proper.{sender_of}
use Rattle.dsr_chain.specs.declared.signed_request.SignedRequest.{SignedRequest}
use Rattle.dsr_chain.specs.declared.slot_value.SlotValue.{SlotValue}
use Rattle.dsr_chain.specs.declared.slot_value.SlotValue.TheVariants.{Idle}
use Rattle.dsr_envelope.specs.Envelope.{round_envelope}
use Rattle.dsr_envelope.specs.Log.{rounds}
use Rattle.dsr_envelope.specs.Pick.{IsPick}
use Rattle.dsr_envelope.specs.declared.entry.Entry.{Entry}
use Rattle.dsr_envelope.specs.declared.envelope.Envelope.{Envelope}
use Rattle.dsr_envelope.specs.declared.envelope.Envelope.TheVariants.{Round}
use Rattle.dsr_envelope.specs.declared.pick.Pick.{Pick}
use Rattle.dsr_envelope.specs.declared.pick.Pick.TheVariants.{Plain}
use Rattle.dsr_replica.specs.Conduct.{chains_posted, envelope_to, envelope_with, proposed}
use Rattle.dsr_replica.specs.Shown.{choice_of, last_value, shown_choice}
use Rattle.dsr_replica.proofs.Lemmas.{choice_shown, chosen_then, sender_last}
use Rattle.dsr_lines.specs.Begun.{begun_choice, clients_of, slot_asks, ComesTwice}

-- ---- a client twice

pub twice_apart : (c : ℕ) (clients : List ℕ) → ComesTwice c clients → AllPairs (λ a b. a ≢ b) clients → ⊥
twice_apart c [] twice apart = elim twice [ ]
twice_apart c (first ∷ others) (inl first_too) apart =
    let among = first_too.1 in
    let k = among.0 in
    let within = among.2 in
    apart 0 (suc k) among.1 (omega arith) (omega (arith, within)) (first_too.0 ∙ sym (among.3 ∙ among.4))
twice_apart c (first ∷ others) (inr later) apart =
    twice_apart c others later (λ i j d before inside. apart (suc i) (suc j) d (omega (arith, before)) (omega (arith, inside)))

-- no choice has a client twice
pub twice_no_pick : (c : ℕ) (clients : List ℕ) → ComesTwice c clients → IsPick (choice_of clients) → ⊥
twice_no_pick c [] twice pick = elim twice [ ]
twice_no_pick c (first ∷ others) twice pick = twice_apart c (first ∷ others) twice pick.distinct

abbrev pub rest_of : List ℕ → List ℕ
rest_of clients = take (length clients - 1) (drop 1 clients)

rest_is : (y : ℕ) (ys : List ℕ) → rest_of (y ∷ ys) ≡ ys
rest_is y ys = grind (arith, common_steps)

-- the first client is one of the others
pub twice_first : (clients : List ℕ) (x : ℕ) → 1 ≤ length clients → x ≡ get_or clients 0 x → Any (λ other. other ≡ x) (rest_of clients)
    → ComesTwice x clients
twice_first [] x some is among = absurd (omega (arith, some))
twice_first (y ∷ ys) x some is among = inl (sym is, subst (Any (λ other. other ≡ x)) (rest_is y ys) among)

-- a client comes twice among the others
pub twice_later : (clients : List ℕ) (c : ℕ) → 1 ≤ length clients → ComesTwice c (rest_of clients) → ComesTwice c clients
twice_later [] c some twice = absurd (omega (arith, some))
twice_later (y ∷ ys) c some twice = inr (subst (ComesTwice c) (rest_is y ys) twice)

-- the first client is not one of the others, among which none comes twice
pub none_twice : (clients : List ℕ) (x : ℕ) → 1 ≤ length clients → x ≡ get_or clients 0 x → (Any (λ other. other ≡ x) (rest_of clients) → ⊥)
    → ((c : ℕ) → ComesTwice c (rest_of clients) → ⊥) → (c : ℕ) → ComesTwice c clients → ⊥
none_twice [] x some is apart none c twice = elim twice [ ]
none_twice (y ∷ ys) x some is apart none c (inl first_too) =
    apart (subst (Any (λ other. other ≡ x)) (sym (rest_is y ys)) (subst (λ w. Any (λ other. other ≡ w) ys) (sym first_too.0 ∙ sym is) first_too.1))
none_twice (y ∷ ys) x some is apart none c (inr later) = none c (subst (ComesTwice c) (sym (rest_is y ys)) later)

pub none_of : {X : Type 0} → (o : Option X) (A B : Type 0) → (A → B) → IfNone o A → IfNone o B
none_of None A B implies h = implies h
none_of (Some x) A B implies h = h

-- ---- the requests of a slot

-- one more chain
pub slot_more : (slot : ℕ) (asks : List SignedRequest) (chains : List Chain) (chain : Chain)
    → slot_asks slot asks (chains ++ chain ∷ []) ≡ (if chain.slot == slot then signed_in chain.value else slot_asks slot asks chains)
slot_more slot asks [] chain = refl
slot_more slot asks (first ∷ more) chain = slot_more slot (if first.slot == slot then signed_in first.value else asks) more chain

-- one more chain of a list is read
slot_step : (slot : ℕ) (chains : List Chain) (i : ℕ) (chain : Chain) → i < length chains → chain ≡ slice_index_or chains i chain
    → slot_asks slot [] (take (i + 1) chains) ≡ (if chain.slot == slot then signed_in chain.value else slot_asks slot [] (take i chains))
slot_step slot chains i chain inside is =
    subst (λ (x : Chain). slot_asks slot [] (take (i + 1) chains) ≡ (if x.slot == slot then signed_in x.value else slot_asks slot [] (take i chains)))
    (sym is) (ap (slot_asks slot []) (take_more chains i chain inside) ∙ slot_more slot [] (take i chains) (slice_index_or chains i chain))

-- it is one of the slot
pub step_of_slot : (slot : ℕ) (chains : List Chain) (i : ℕ) (chain : Chain) (asks : List SignedRequest) → i < length chains
    → chain ≡ slice_index_or chains i chain → chain.slot ≡ slot → asks ≡ signed_in chain.value → asks ≡ slot_asks slot [] (take (i + 1) chains)
step_of_slot slot chains i chain asks inside is of_slot e =
    e
    ∙ (sym (ap (λ b. if b then signed_in chain.value else slot_asks slot [] (take i chains)) ((Decides-eqb chain.slot slot).1 of_slot))
    ∙ sym (slot_step slot chains i chain inside is))

-- numbers that are not equal do not pass for equal
pub apart_not : (x y : ℕ) → x ≢ y → (x == y) ≡ false
apart_not x y apart = by_test (x == y) refl
  where
    by_test : (b : Bool) → (x == y) ≡ b → b ≡ false
    by_test false same = refl
    by_test true same = absurd (apart ((Decides-eqb x y).0 same))

-- it is not
pub step_of_other : (slot : ℕ) (chains : List Chain) (i : ℕ) (chain : Chain) (asks : List SignedRequest) → i < length chains
    → chain ≡ slice_index_or chains i chain → chain.slot ≢ slot → asks ≡ slot_asks slot [] (take i chains)
    → asks ≡ slot_asks slot [] (take (i + 1) chains)
step_of_other slot chains i chain asks inside is other e =
    e
    ∙ (sym (ap (λ b. if b then signed_in chain.value else slot_asks slot [] (take i chains)) (apart_not chain.slot slot other))
    ∙ sym (slot_step slot chains i chain inside is))

-- the last chain is of the slot
slot_last : (slot : ℕ) (asks : List SignedRequest) (chains : List Chain) (chain : Chain) → chain.slot ≡ slot
    → slot_asks slot asks (chains ++ chain ∷ []) ≡ signed_in chain.value
slot_last slot asks chains chain is =
    slot_more slot asks chains chain
    ∙ ap (λ b. if b then signed_in chain.value else slot_asks slot asks chains) ((Decides-eqb chain.slot slot).1 is)

last_of : (value : SlotValue) (chains : List Chain) (chain : Chain) → last_value value (chains ++ chain ∷ []) ≡ chain.value
last_of value [] chain = refl
last_of value (first ∷ more) chain = last_of first.value more chain

-- ---- what a loyal replica posts

module _ (shape : Shape) (me : Actor) (log : List Entry) where
  both_by : (b : Bool) (asks : List SignedRequest) → choice_of (if b then clients_of asks else []) ≡ (if b then choice_of (clients_of asks) else Plain)
  both_by true asks = refl
  both_by false asks = refl

  -- an envelope whose own chain comes last shows which choice begins the slot
  same_last : (t : ℕ) (value : SlotValue) (relayed : List Chain)
      → shown_choice shape me 0 (Round t (relayed ++ started t value me ∷ [])) ≡ begun_choice shape me 0 (Round t (relayed ++ started t value me ∷ []))
  same_last t value relayed =
      let own = actor_eq me (sender_of shape t) in
      let chains = relayed ++ started t value me ∷ [] in
      let asks : slot_asks t [] chains ≡ signed_in value = slot_last t [] relayed (started t value me) refl in
      let shown : last_value Idle chains ≡ value = last_of Idle relayed (started t value me) in
      let clients = map-map (λ r. r.client) (λ (s : SignedRequest). s.request) (signed_in value) in
      ap (λ v. if own then choice_of (map (λ r. r.client) (map (λ (s : SignedRequest). s.request) (signed_in v))) else Plain) shown
      ∙ (ap (λ l. if own then choice_of l else Plain) clients
      ∙ (sym (both_by own (signed_in value)) ∙ ap (λ a. choice_of (if own then clients_of a else [])) (sym asks)))

  -- so does one that begins no slot of its replica
  same_other : (t : ℕ) (chains : List Chain) → actor_eq me (sender_of shape t) ≡ false
      → shown_choice shape me 0 (round_envelope t chains) ≡ begun_choice shape me 0 (round_envelope t chains)
  same_other t [] other = refl
  same_other t (chain ∷ more) other =
      ap (λ b. if b then choice_of (map (λ r. r.client) (map (λ (s : SignedRequest). s.request) (signed_in (last_value Idle (chain ∷ more))))) else Plain) other
      ∙ sym (ap (λ b. choice_of (if b then clients_of (slot_asks t [] (chain ∷ more)) else [])) other)

  given_by : (o : Option SlotValue) (envelope : Envelope) → option_map (envelope_with shape me log) o ≡ Some envelope
      → (value : SlotValue) × (envelope_with shape me log value ≡ envelope)
  given_by None envelope e = absurd (none-some envelope e)
  given_by (Some value) envelope e = (value, same_Some (envelope_with shape me log value) envelope e)

  same_first : (pick : Pick) (x : Envelope) → envelope_to shape me log 0 pick ≡ Some x → shown_choice shape me 0 x ≡ begun_choice shape me 0 x
  same_first pick x e = by_own (actor_eq me (sender_of shape (rounds shape log))) refl
    where
      by_own : (b : Bool) → actor_eq me (sender_of shape (rounds shape log)) ≡ b → shown_choice shape me 0 x ≡ begun_choice shape me 0 x
      by_own true own =
          let last = sender_last shape me log own pick x e in
          subst (λ y. shown_choice shape me 0 y ≡ begun_choice shape me 0 y) (sym last.2.is)
          (same_last (rounds shape log) last.0 last.2.relayed)
      by_own false other =
          let given = given_by (proposed shape me log pick) x (chosen_then shape me log 0 pick x e) in
          subst (λ y. shown_choice shape me 0 y ≡ begun_choice shape me 0 y) given.1
          (same_other (rounds shape log) (chains_posted shape me log (rounds shape log) given.0) other)

  -- the post is by the choice that begins a slot
  pub begun_is : (q : ℕ) (pick : Pick) (x : Envelope) → IsPick pick → envelope_to shape me log q pick ≡ Some x → pick ≡ begun_choice shape me q x
  begun_is zero pick x good e = choice_shown shape me log 0 pick x good e ∙ same_first pick x e
  begun_is (suc q) pick x good e = choice_shown shape me log (suc q) pick x good e

  -- if some choice gives the envelope, then so does the one that begins a slot
  pub read_gives : (q : ℕ) (x : Envelope) (ours : Pick) → (IsPick (begun_choice shape me q x) → ours ≡ begun_choice shape me q x)
      → (pick : Pick) → IsPick pick → envelope_to shape me log q pick ≡ Some x → envelope_to shape me log q ours ≡ Some x
  read_gives q x ours read pick good e =
      let is = begun_is q pick x good e in
      subst (λ p. envelope_to shape me log q p ≡ Some x) (is ∙ sym (read (subst IsPick is good))) e

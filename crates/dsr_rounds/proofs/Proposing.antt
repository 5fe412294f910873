-- Whose turn it is, and that the choice of a replica's host is eager.
use Rattle.std.proofs.Common.{◌≡◌, ◌≢◌, ℕ, zero, suc, ◌+◌, ◌-◌, ◌<◌, ◌≤◌, ◌⊎◌, inl, inr, ◌&&◌, nat_lt, Bool, true, false, List, [], ◌∷◌, ◌++◌, Option, None, Some, if◌then◌else◌, length, refl, ap, ap₂, sym, ◌∙◌, subst, append_assoc, arith}
use Rattle.std.specs.Prelude.{Result, Ok, Err, OnOk, AllPairs, All, IsSome, slice_index_or, take, filter, min}
use Rattle.std.specs.List.{AllByRecursion}
use Rattle.std.specs.Option.{option_map}
use Rattle.std.proofs.lemmas.Bool.{false≢true}
use Rattle.std.proofs.lemmas.Bool.Decides.{nat_tests}
use Rattle.std.proofs.lemmas.List.{append-nil, length-map, length-take, take_all, take-append-le, get_or-take}
use Rattle.std.proofs.lemmas.List.Elements.{All-nil, All-cons}
use Rattle.std.proofs.lemmas.List.Kept.{AllPairs-filter, AllPairs-cons}
use Rattle.std.proofs.lemmas.Option.{none-some, same_Some}
use Rattle.dsr_names.specs.Shape.{Shape}
use Rattle.dsr_names.specs.declared.actor.Actor.{Actor}
use Rattle.dsr_names.specs.declared.actor.Actor.TheVariants.{Replica}
use Rattle.dsr_ledger.specs.declared.reply.Reply.{Reply as AReply}
use Rattle.dsr_history.specs.History.{reply}
use Rattle.dsr_chain.specs.declared.signed_request.SignedRequest.{SignedRequest}
use Rattle.dsr_chain.specs.declared.slot_value.SlotValue.{SlotValue}
use Rattle.dsr_envelope.specs.declared.envelope.Envelope.{Envelope}
use Rattle.dsr_envelope.specs.declared.entry.Entry.{Entry}
use Rattle.dsr_envelope.specs.declared.entry.Entry.TheVariants.{Post}
use Rattle.dsr_envelope.specs.declared.due.Due.TheVariants.{Post as PostTo}
use Rattle.dsr_envelope.specs.declared.pick.Pick.{Pick}
use Rattle.dsr_envelope.specs.declared.pick.Pick.TheVariants.{Plain, From}
use Rattle.dsr_envelope.specs.Log.{due, rounds}
use Rattle.dsr_envelope.specs.Pick.{IsClients}
use Rattle.dsr_replica.specs.Conduct.{envelope_with, envelope_to, proposed}
use Rattle.dsr_replica.specs.Decided.{decided_requests}
use Rattle.dsr_replica.specs.Held.{held, put_before, all_held}
use Rattle.dsr_replica.proofs.Lemmas.{acting_value, all_held_from, chosen_then, from_parts, held_offered}
use Rattle.dsr_node.specs.Conduct.{post_of, is_exhausted}
use Rattle.dsr_run.specs.Eager.{is_newer, is_waiting, last_proposed, next_client, in_turn, first_in_turn, next_proposed, ProposesNext}
use Rattle.dsr_boxes.specs.Pass.{Pass, with_entry}
use Rattle.dsr_rounds.specs.Eagerness.{IsEagerPost, IsEagerPick, HasPosted}
use Rattle.dsr_rounds.specs.declared.end.End.{End}

-- ---- turns

pub next_cases : (m c : ℕ) → c < m → ((next_client m c ≡ suc c) × (suc c < m)) ⊎ ((next_client m c ≡ 0) × (suc c ≡ m))
next_cases m c inside = by_test (nat_lt (suc c) m) refl
  where
    by_test : (b : Bool) → nat_lt (suc c) m ≡ b → (((if b then suc c else 0) ≡ suc c) × (suc c < m)) ⊎ (((if b then suc c else 0) ≡ 0) × (suc c ≡ m))
    by_test true e = inl (refl, grind (arith, nat_tests))
    by_test false e = inr (refl, grind (arith, nat_tests))

-- `count` turns from d on come before the turn of c
abbrev comes_later : ℕ → ℕ → ℕ → ℕ → Type 0
comes_later m count c d = ((d ≤ c) × (d + count ≤ c)) ⊎ ((c < d) × (d + count ≤ c + m))

differs : (m count c d : ℕ) → comes_later m (suc count) c d → c ≢ d
differs m count c d later same = elim later [
  | inl before ↦ let room = before.1 in omega (arith, same, room)
  | inr after ↦ let above = after.0 in omega (arith, same, above)
]

later_on : (m count c d : ℕ) → c < m → d < m → comes_later m (suc count) c d → comes_later m count c (next_client m d)
later_on m count c d small inside later = elim (next_cases m d inside) [
  | inl up ↦ subst (comes_later m count c) (sym up.0) (elim later [
    | inl before ↦ let room = before.1 in inl (omega (arith, room), omega (arith, room))
    | inr after ↦ let above = after.0 in let room = after.1 in inr (omega (arith, above), omega (arith, room))
  ])
  | inr around ↦ let last = around.1 in subst (comes_later m count c) (sym around.0) (elim later [
    | inl before ↦ let room = before.1 in absurd (omega (arith, room, last, small))
    | inr after ↦ let room = after.1 in inl (omega arith, omega (arith, room, last))
  ])
]

next_inside : (m c : ℕ) → c < m → next_client m c < m
next_inside m c inside = elim (next_cases m c inside) [
  | inl up ↦ subst (λ k. k < m) (sym up.0) up.1
  | inr around ↦ subst (λ k. k < m) (sym around.0) (omega (arith, inside))
]

apart : (m count c d : ℕ) → c < m → d < m → comes_later m count c d → All (λ x. c ≢ x) (in_turn m count d)
apart m zero c d small inside later = All-nil (λ x. c ≢ x)
apart m (suc count) c d small inside later =
    All-cons (λ x. c ≢ x) d (in_turn m count (next_client m d)) (differs m count c d later)
    (apart m count c (next_client m d) small (next_inside m d inside) (later_on m count c d small inside later))

none_apart : AllPairs (λ (a : ℕ) b. a ≢ b) []
none_apart i j d less inside = absurd (omega (arith, inside))

-- no client has two turns in one round of turns
turns_differ : (m count c : ℕ) → c < m → count ≤ m → AllPairs (λ (a : ℕ) b. a ≢ b) (in_turn m count c)
turns_differ m zero c inside most = none_apart
turns_differ m (suc count) c inside most =
    AllPairs-cons (λ (a : ℕ) b. a ≢ b) c (in_turn m count (next_client m c))
    (apart m count c (next_client m c) inside (next_inside m c inside) (elim (next_cases m c inside) [
      | inl up ↦ subst (comes_later m count c) (sym up.0) (inr (omega arith, omega (arith, most)))
      | inr around ↦ let last = around.1 in subst (comes_later m count c) (sym around.0) (inl (omega arith, omega (arith, most, last)))
    ]))
    (turns_differ m count (next_client m c) (next_inside m c inside) (omega (arith, most)))

first_inside : (m : ℕ) (last : Option ℕ) → 0 < m → first_in_turn m last < m
first_inside m None some = some
first_inside m (Some c) some = by_test (nat_lt (suc c) m) refl
  where
    by_test : (b : Bool) → nat_lt (suc c) m ≡ b → (if b then suc c else 0) < m
    by_test true e = grind (arith, nat_tests)
    by_test false e = some

-- ---- the first 8 of some clients

take_apart : (n : ℕ) (xs : List ℕ) → AllPairs (λ (a : ℕ) b. a ≢ b) xs → AllPairs (λ (a : ℕ) b. a ≢ b) (take n xs)
take_apart n xs all i j d less inside =
    let long : length (take n xs) ≡ min n (length xs) = length-take n xs in
    let few : j < n = omega (arith, long, inside) in
    let short : j < length xs = omega (arith, long, inside) in
    subst (λ a. a ≢ slice_index_or (take n xs) j d) (sym (get_or-take n xs i d (omega (arith, less, few))))
    (subst (λ b. slice_index_or xs i d ≢ b) (sym (get_or-take n xs j d few)) (all i j d less short))

clients_or_none : (xs : List ℕ) → length xs ≤ 8 → AllPairs (λ (a : ℕ) b. a ≢ b) xs → (xs ≡ []) ⊎ IsClients xs
clients_or_none [] few apart = inl refl
clients_or_none (x ∷ xs) few apart = inr (record { some = omega arith; few = few; distinct = apart })

-- a choice may name the next clients, unless no client is next
pub next_good : (shape : Shape) (log : List Entry) → 0 < shape.m → (next_proposed shape log ≡ []) ⊎ IsClients (next_proposed shape log)
next_good shape log some =
    let first = first_in_turn shape.m (last_proposed shape log) in
    let turns = in_turn shape.m shape.m first in
    let passing = filter (is_waiting shape log) turns in
    clients_or_none (take 8 passing) (few_taken 8 passing)
    (take_apart 8 passing (AllPairs-filter (λ (a : ℕ) b. a ≢ b) (is_waiting shape log) turns
    (turns_differ shape.m shape.m first (first_inside shape.m (last_proposed shape log) some) (omega arith))))
  where
    few_taken : (n : ℕ) (xs : List ℕ) → length (take n xs) ≤ n
    few_taken n xs = let long : length (take n xs) ≡ min n (length xs) = length-take n xs in omega (arith, long)

-- ---- one client more

module _ (p : ℕ → Bool) where
  one_more : (w : List ℕ) (client : ℕ) (rest : List ℕ) (room passes : Bool) → nat_lt (length w) 8 ≡ room
      → take 8 ((if room && passes then w ++ client ∷ [] else w) ++ rest) ≡ take 8 (w ++ (if passes then client ∷ rest else rest))
  one_more w client rest true true e = ap (take 8) (append_assoc w (client ∷ []) rest)
  one_more w client rest true false e = refl
  one_more w client rest false true e =
      let full : 8 ≤ length w = full_by (length w) e in
      take-append-le 8 w rest full ∙ sym (take-append-le 8 w (client ∷ rest) full)
    where
      full_by : (k : ℕ) → nat_lt k 8 ≡ false → 8 ≤ k
      full_by k e = grind (arith, nat_tests)
  one_more w client rest false false e = refl

  -- at first all are still to pass
  pub gathered_first : (k m first : ℕ) (last : Option ℕ) (w : List ℕ) → k ≡ m → w ≡ [] → first ≡ first_in_turn k last
      → take 8 (w ++ filter p (in_turn k (k - 0) first)) ≡ take 8 (filter p (in_turn m m (first_in_turn m last)))
  gathered_first k m first last w same none is =
      let whole : k - 0 ≡ k = omega arith in
      ap (λ z. take 8 (z ++ filter p (in_turn k (k - 0) first))) none
      ∙ (ap (λ z. take 8 (filter p (in_turn k z first))) whole
      ∙ (ap (λ z. take 8 (filter p (in_turn k k z))) is
      ∙ ap (λ z. take 8 (filter p (in_turn z z (first_in_turn z last)))) same))

  -- what was gathered and what is still to pass are the first 8 that pass
  pub gathered_on : (m passed next client : ℕ) (total w : List ℕ) → passed < m → next ≡ next_client m client
      → take 8 (w ++ filter p (in_turn m (m - passed) client)) ≡ total
      → take 8 ((if nat_lt (length w) 8 && p client then w ++ client ∷ [] else w) ++ filter p (in_turn m (m - (passed + 1)) next)) ≡ total
  gathered_on m passed next client total w less is sofar =
      let left : m - passed ≡ suc (m - (passed + 1)) = omega arith in
      ap (λ k. take 8 ((if nat_lt (length w) 8 && p client then w ++ client ∷ [] else w) ++ filter p (in_turn m (m - (passed + 1)) k))) is
      ∙ (one_more w client (filter p (in_turn m (m - (passed + 1)) (next_client m client))) (nat_lt (length w) 8) (p client) refl
      ∙ (ap (λ k. take 8 (w ++ filter p (in_turn m k client))) (sym left) ∙ sofar))

  pub gathered_all : (m passed client : ℕ) (total w : List ℕ) → m ≤ passed → length w ≤ 8
      → take 8 (w ++ filter p (in_turn m (m - passed) client)) ≡ total → w ≡ total
  gathered_all m passed client total w most few sofar =
      let none : m - passed ≡ 0 = omega arith in
      sym (take_all 8 w few) ∙ (ap (take 8) (sym (append-nil w)) ∙ (ap (λ k. take 8 (w ++ filter p (in_turn m k client))) (sym none) ∙ sofar))

-- ---- envelopes

module _ (shape : Shape) (log : List Entry) where
  one_pass : (p : ℕ → Bool) (x : ℕ) (b : Bool) (more : List ℕ) → p x ≡ b → AllByRecursion (λ y. p y ≡ true) more
      → AllByRecursion (λ y. p y ≡ true) (if b then x ∷ more else more)
  one_pass p x true more e all = (e, all)
  one_pass p x false more e all = all

  all_pass : (p : ℕ → Bool) (xs : List ℕ) → AllByRecursion (λ x. p x ≡ true) (filter p xs)
  all_pass p [] = tt
  all_pass p (x ∷ xs) = one_pass p x (p x) (filter p xs) refl (all_pass p xs)

  first_pass : (p : ℕ → Bool) (n : ℕ) (xs : List ℕ) → AllByRecursion (λ x. p x ≡ true) xs → AllByRecursion (λ x. p x ≡ true) (take n xs)
  first_pass p zero xs all = tt
  first_pass p (suc n) [] all = tt
  first_pass p (suc n) (x ∷ xs) all = (all.0, first_pass p n xs all.1)

  held_waiting : (o : Option SignedRequest) (r : Option AReply) → is_newer o r ≡ true → (ask : SignedRequest) × (o ≡ Some ask)
  held_waiting None r e = absurd (false≢true e)
  held_waiting (Some ask) r e = (ask, refl)

  all_are_held : (xs : List ℕ) → AllByRecursion (λ x. is_waiting shape log x ≡ true) xs → (asks : List SignedRequest) × (all_held shape log xs ≡ Some asks)
  all_are_held [] all = ([], refl)
  all_are_held (x ∷ xs) all =
      let one = held_waiting (held shape x log) (reply (decided_requests shape log) x) all.0 in
      let more = all_are_held xs all.1 in
      (one.0 ∷ more.0, ap₂ put_before one.1 more.1)

  -- the replica holds an ask for each client that is next
  next_held : (asks : List SignedRequest) × (all_held shape log (next_proposed shape log) ≡ Some asks)
  next_held =
      let turns = in_turn shape.m shape.m (first_in_turn shape.m (last_proposed shape log)) in
      all_are_held (next_proposed shape log) (first_pass (is_waiting shape log) 8 (filter (is_waiting shape log) turns) (all_pass (is_waiting shape log) turns))

  module _ (me : Actor) where
    given_by : (o : Option SlotValue) (x : Envelope) → option_map (envelope_with shape me log) o ≡ Some x
        → (value : SlotValue) × (o ≡ Some value) × (envelope_with shape me log value ≡ x)
    given_by None x e = absurd (none-some x e)
    given_by (Some value) x e = (value, refl, same_Some (envelope_with shape me log value) x e)

    -- no one else's slot
    other_next : due shape log ≡ PostTo 0 → (IsSome (envelope_to shape me log 0 (From (next_proposed shape log))) → ⊥) → (x : Envelope)
        → ProposesNext shape me log x
    other_next next none x sends =
        let asks = next_held in
        let offered = held_offered shape me log (next_proposed shape log) asks.0 next sends asks.1 in
        absurd (none (subst (λ o. IsSome o) (sym offered.1) refl))

    own_next : (xs : List ℕ) → next_proposed shape log ≡ xs → 0 < length xs → (x : Envelope) → envelope_to shape me log 0 (From xs) ≡ Some x
        → ProposesNext shape me log x
    own_next xs is some x e sends =
        let given = given_by (proposed shape me log (From xs)) x (chosen_then shape me log 0 (From xs) x e) in
        let parts = from_parts shape me (rounds shape log) (all_held shape log xs) given.0 given.1 in
        let are = all_held_from shape log xs parts.list parts.are in
        let long : length parts.list ≡ length xs = sym (length-map parts.list (λ (s : SignedRequest). s.request.client)) ∙ ap length are.clients_are in (
          parts.list,
          ap (all_held shape log) is ∙ parts.are,
          sym given.2 ∙ ap (envelope_with shape me log) (sym parts.is ∙ sym (acting_value parts.list (omega (arith, long, some)))),
        )

-- ---- the same of a seat

module _ (seat : Pass) (me : ℕ) (is : seat.actor ≡ Replica me) where
  abbrev given : Pick → Option Envelope
  given pick = post_of seat.shape seat.log seat.actor (Replica 0) pick

  to_first : (pick : Pick) → given pick ≡ envelope_to seat.shape seat.actor seat.log 0 pick
  to_first pick =
      subst (λ a. post_of seat.shape seat.log a (Replica 0) pick ≡ envelope_to seat.shape a seat.log 0 pick) (sym is) refl

  pub refused_pick : (xs : List ℕ) → next_proposed seat.shape seat.log ≡ xs → due seat.shape seat.log ≡ PostTo 0
      → ((IsSome (given (From xs)) × (is_exhausted seat.shape seat.log seat.actor (Replica 0) (From xs) ≡ false)) → ⊥) → IsEagerPick seat 0 Plain
  refused_pick xs next due_is none below x e =
      other_next seat.shape seat.log seat.actor due_is
      (λ some. none (subst (λ o. IsSome o) (sym (to_first (From xs)) ∙ refl) (subst (λ ys. IsSome (envelope_to seat.shape seat.actor seat.log 0 (From ys))) next some), other_limit below))
      x
    where
      other_limit : is_exhausted seat.shape seat.log seat.actor (Replica 0) Plain ≡ false
          → is_exhausted seat.shape seat.log seat.actor (Replica 0) (From xs) ≡ false
      other_limit = subst (λ a. is_exhausted seat.shape seat.log a (Replica 0) Plain ≡ false → is_exhausted seat.shape seat.log a (Replica 0) (From xs) ≡ false)
          (sym is) (λ h. h)

  pub chosen_pick : (xs : List ℕ) → next_proposed seat.shape seat.log ≡ xs → 0 < length xs → IsEagerPick seat 0 (From xs)
  chosen_pick xs next some below x e = own_next seat.shape seat.log seat.actor xs next some x (sym (to_first (From xs)) ∙ e)

-- the posts to later replicas begin no slot
pub later_pick : (seat : Pass) (q : ℕ) (pick : Pick) → (q ≡ 0 → ⊥) → IsEagerPick seat q pick
later_pick seat zero pick other below x e = absurd (other refl)
later_pick seat (suc q) pick other below x e = tt

-- a post by an eager choice is eager
pub post_eager : (result : Result (Unit {0}) End) (old new : Pass) (to : ℕ) (pick : Pick) → IsEagerPick old to pick
    → OnOk result (HasPosted old new (Replica to) pick)
    → OnOk result ((x : Envelope) × (new ≡ with_entry old (Post (Replica to) x)) × IsEagerPost old to x)
post_eager (Ok made) old new to pick eager posted = (posted.0, posted.2, eager posted.3 posted.0 posted.1)
post_eager (Err end) old new to pick eager posted = tt

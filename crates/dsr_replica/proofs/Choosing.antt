-- What a choice gives, by the replica and by its log, and that a replica represents its log after a post; over plain
-- variables.
use Rattle.std.proofs.Common.{◌≡◌, ℕ, zero, suc, ◌-◌, ◌<◌, ◌≤◌, ◌==◌, Bool, true, false, List, [], ◌∷◌, ◌++◌, length, Option, None, Some, if◌then◌else◌, inl, inr, refl, ap, ap₂, sym, ◌∙◌, subst, append_assoc, arith}
use Rattle.std.specs.Prelude.{◌^◌, IsSome, slice_get, slice_index_or, take, drop}
use Rattle.std.specs.Option.{option_map}
use Rattle.std.proofs.lemmas.Bool.{cases_lt, false_from_ne_true, false≢true}
use Rattle.std.proofs.lemmas.Bool.Decides.{nat_tests, Decides-eqb}
use Rattle.std.proofs.lemmas.List.{take_all}
use Rattle.std.proofs.lemmas.Option.{none-some, same_Some}
use Rattle.dsr_names.specs.declared.actor.Actor.TheVariants.{Replica as ReplicaNumber}
use Rattle.dsr_chain.specs.declared.signed_request.SignedRequest.{SignedRequest}
use Rattle.dsr_chain.specs.Content.{value_of}
use Rattle.dsr_chain.specs.declared.slot_value.SlotValue.{SlotValue}
use Rattle.dsr_chain.specs.declared.slot_value.SlotValue.TheVariants.{Act}
use Rattle.dsr_envelope.specs.declared.envelope.Envelope.{Envelope}
use Rattle.dsr_envelope.specs.declared.entry.Entry.{Entry}
use Rattle.dsr_envelope.specs.declared.entry.Entry.TheVariants.{Post}
use Rattle.dsr_envelope.specs.declared.pick.Pick.{Pick}
use Rattle.dsr_envelope.specs.declared.pick.Pick.TheVariants.{Plain, From, Begin}
use Rattle.dsr_envelope.specs.declared.due.Due.{Due}
use Rattle.dsr_envelope.specs.declared.due.Due.TheVariants.{Post as PostTo, Take as TakeFrom}
use Rattle.dsr_replica.specs.Conduct.{from_held, envelope_with, chosen, is_due, envelope_to}
use Rattle.dsr_replica.specs.Counts.{posts_at}
use Rattle.dsr_replica.specs.Held.{put_before, all_held}
use Rattle.dsr_envelope.specs.Log.{posted_to, taken_from, due, rounds}
use Rattle.dsr_replica.specs.Replica.{Replica, IsLaterPost, StandsFor, ask_of, asks_of, value_at, value_for, Allows}
use Rattle.dsr_replica.specs.Support.ReplicaFields.{IsWithin, after_post_to}
use Rattle.dsr_replica.proofs.Asks.{put_parts}
use Rattle.dsr_replica.proofs.Counting.{after_post}
use Rattle.dsr_replica.proofs.Joining.{get_last}
use Rattle.dsr_replica.proofs.Standing.{some_replica, rounds_are, kept_unmoved, values_unmoved, envelope_unmoved}

-- ---- the asks of several clients

-- there are as many as clients
pub all_count : (asks : List (Option SignedRequest)) (clients : List ℕ) (found : List SignedRequest) → asks_of asks clients ≡ Some found
    → length found ≡ length clients
all_count asks [] found e = ap length (sym (same_Some [] found e))
all_count asks (client ∷ more) found e =
    let parts = put_parts (ask_of asks client) (asks_of asks more) found e in
    sym (ap length parts.4) ∙ ap suc (all_count asks more parts.1 parts.3)

-- the ask of the first client and those of the others come after what was there
pub added_more : (asks : List (Option SignedRequest)) (clients : List ℕ) (first : ℕ) (ask : SignedRequest) (before after all : List SignedRequest)
    → first ≡ slice_index_or clients 0 first → 1 ≤ length clients → Some ask ≡ ask_of asks first
    → ((more : List SignedRequest) → asks_of asks (take (length clients - 1) (drop 1 clients)) ≡ Some more → after ≡ (before ++ ask ∷ []) ++ more)
    → asks_of asks clients ≡ Some all → after ≡ before ++ all
added_more asks [] first ask before after all is some one added e = absurd (omega (arith, some))
added_more asks (client ∷ rest) first ask before after all is some one added e =
    let whole : take (length (client ∷ rest) - 1) rest ≡ rest = take_all (length (client ∷ rest) - 1) rest (omega arith) in
    let parts = put_parts (ask_of asks client) (asks_of asks rest) all e in
    let own : ask ≡ parts.0 = same_Some ask parts.0 (one ∙ (ap (ask_of asks) is ∙ parts.2)) in
    added parts.1 (ap (asks_of asks) whole ∙ parts.3)
    ∙ (append_assoc before (ask ∷ []) parts.1 ∙ ap (λ xs. before ++ xs) (ap (λ x. x ∷ parts.1) own ∙ parts.4))

-- asks of some clients are a value that acts
pub acting_value : (list : List SignedRequest) → 0 < length list → value_of list ≡ Act list
acting_value [] some = absurd (omega (arith, some))
acting_value (ask ∷ more) some = refl

-- ---- options

-- what is there
pub is_some : {A : Type 0} (o : Option A) → IsSome o → (v : A) × (o ≡ Some v)
is_some None some = absurd (false≢true some)
is_some (Some v) some = (v, refl)

-- there is nothing if there is not something
pub is_none : {A : Type 0} (o : Option A) → (IsSome o → ⊥) → o ≡ None
is_none None none = refl
is_none (Some v) none = absurd (none refl)

-- ---- what a choice gives

asks_same : (r : Replica) (log : List Entry) → StandsFor r log → (clients : List ℕ) → asks_of r.asks clients ≡ all_held r.shape log clients
asks_same r log stands [] = refl
asks_same r log stands (client ∷ more) = ap₂ put_before (stands.asks_are client) (asks_same r log stands more)

due_at : (d : Due) (q : ℕ) → is_due d q ≡ true → d ≡ PostTo q
due_at (PostTo k) q e = ap PostTo ((Decides-eqb k q).0 e)
due_at (TakeFrom p) q e = absurd cc

chosen_is : (r : Replica) (log : List Entry) (to : ℕ) (pick : Pick) → StandsFor r log → r.next ≡ PostTo to
    → chosen r.shape r.me log to pick ≡ option_map (envelope_with r.shape r.me log) (value_at r to pick)
chosen_is r log zero Plain stands next = refl
chosen_is r log zero (From clients) stands next =
    ap (option_map (envelope_with r.shape r.me log))
    (ap₂ (from_held r.shape r.me) (rounds_are r.shape log r.round stands.counts) (sym (asks_same r log stands clients)))
chosen_is r log zero (Begin op) stands next = refl
chosen_is r log (suc q) Plain stands next =
    ap (slice_get (posted_to (ReplicaNumber 0) log)) (rounds_are r.shape log r.round stands.counts)
    ∙ stands.posted (subst IsLaterPost (sym next) (omega arith))
chosen_is r log (suc q) (From clients) stands next = refl
chosen_is r log (suc q) (Begin op) stands next = refl

-- the envelope by the log is that of the value by the replica
pub envelope_is : (r : Replica) (log : List Entry) (to : ℕ) (pick : Pick) → StandsFor r log
    → envelope_to r.shape r.me log to pick ≡ option_map (envelope_with r.shape r.me log) (value_for r to pick)
envelope_is r log to pick stands =
    ap (λ d. if is_due d to then chosen r.shape r.me log to pick else None) (sym stands.due_is) ∙ by_due (is_due r.next to) refl
  where
    by_due : (b : Bool) → b ≡ is_due r.next to
        → (if b then chosen r.shape r.me log to pick else None) ≡ option_map (envelope_with r.shape r.me log) (if b then value_at r to pick else None)
    by_due false e = refl
    by_due true e = chosen_is r log to pick stands (due_at r.next to (sym e))

some_mapped : {A B : Type 0} (f : A → B) (o : Option A) → IsSome o → IsSome (option_map f o)
some_mapped f None h = h
some_mapped f (Some x) h = refl

some_unmapped : {A B : Type 0} (f : A → B) (o : Option A) → IsSome (option_map f o) → IsSome o
some_unmapped f None h = h
some_unmapped f (Some x) h = refl

-- a post is allowed if there is such an envelope, below round 2^36
pub allowed_is : (r : Replica) (log : List Entry) (to : ℕ) (pick : Pick) → StandsFor r log
    → (Allows r to pick → IsSome (envelope_to r.shape r.me log to pick) × (rounds r.shape log < 2 ^ 36))
    × (IsSome (envelope_to r.shape r.me log to pick) × (rounds r.shape log < 2 ^ 36) → Allows r to pick)
allowed_is r log to pick stands =
    let env = envelope_is r log to pick stands in
    let same = rounds_are r.shape log r.round stands.counts in (
      λ allowed. let below = allowed.below in
          (subst IsSome (sym env) (some_mapped (envelope_with r.shape r.me log) (value_for r to pick) allowed.some), omega (arith, same, below)),
      λ both. let below = both.1 in record {
        some = some_unmapped (envelope_with r.shape r.me log) (value_for r to pick) (subst IsSome env both.0);
        below = omega (arith, same, below);
      },
    )

-- ---- posts

pub due_of : (r : Replica) (to : ℕ) (pick : Pick) (value : SlotValue) → value_for r to pick ≡ Some value → (r.next ≡ PostTo to) × (value_at r to pick ≡ Some value)
due_of r to pick value e = by_due (is_due r.next to) refl e
  where
    by_due : (b : Bool) → b ≡ is_due r.next to → (if b then value_at r to pick else None) ≡ Some value → (r.next ≡ PostTo to) × (value_at r to pick ≡ Some value)
    by_due true d e = (due_at r.next to (sym d), e)
    by_due false d e = absurd (none-some value e)

later_value : (r : Replica) (to : ℕ) (pick : Pick) (value : SlotValue) → value_at r to pick ≡ Some value → 0 < to → value ≡ r.proposed
later_value r zero pick value e later = absurd (omega (arith, later))
later_value r (suc q) Plain value e later = sym (same_Some r.proposed value e)
later_value r (suc q) (From clients) value e later = absurd (none-some value e)
later_value r (suc q) (Begin op) value e later = absurd (none-some value e)

first_place : (q t : ℕ) → q ≡ 0 → posts_at (PostTo q) t 0 ≡ t
first_place q t is = grind (arith, nat_tests)

-- after a post
stands_posted : (r : Replica) (log : List Entry) (q : ℕ) (envelope : Envelope) (value : SlotValue) → StandsFor r log → r.next ≡ PostTo q
    → envelope ≡ envelope_with r.shape r.me log value → (0 < q → value ≡ r.proposed)
    → StandsFor (record r { next = after_post_to r.shape.n q; proposed = value }) (Post (ReplicaNumber q) envelope ∷ log)
stands_posted r log q envelope value stands next is rest =
    let entry = Post (ReplicaNumber q) envelope in
    let now : due r.shape log ≡ PostTo q = sym stands.due_is ∙ next in
    let unmoved : (p : ℕ) → taken_from (ReplicaNumber p) (entry ∷ log) ≡ taken_from (ReplicaNumber p) log = λ p. refl in
    let same : envelope_with r.shape r.me log value ≡ envelope_with r.shape r.me (entry ∷ log) value =
    envelope_unmoved r.shape entry log unmoved r.me value r.round stands.counts in
    let later = after_post r.shape log envelope q r.round stands.counts now in
    let at : Bool → Option Envelope = λ b. slice_get (if b then posted_to (ReplicaNumber 0) log ++ envelope ∷ [] else posted_to (ReplicaNumber 0) log) r.round in
    record {
      due_is = refl;
      counts = later;
      read = λ s i. stands.read s i ∙ sym (kept_unmoved s.shape entry log unmoved s.slot (suc s.closed));
      values_are = stands.values_are ∙ values_unmoved r.shape entry log unmoved;
      asks_are = stands.asks_are;
      posted = λ more. elim (cases_lt 0 q) [
        | inl some ↦
            ap at (false_from_ne_true (q == 0) (λ e. let none = (Decides-eqb q 0).0 e in omega (arith, some, none)))
            ∙ (stands.posted (subst IsLaterPost (sym next) some) ∙ ap Some (ap (envelope_with r.shape r.me log) (sym (rest some)) ∙ same))
        | inr none ↦
            let zero' : q ≡ 0 = omega (arith, none) in
            let inside : 0 < r.shape.n = some_replica (due r.shape log) r.shape.n stands.counts.inside in
            let count : length (posted_to (ReplicaNumber 0) log) ≡ r.round =
            stands.counts.posts 0 inside ∙ (ap (λ d. posts_at d r.round 0) now ∙ first_place q r.round zero') in
            ap at ((Decides-eqb q 0).1 zero')
            ∙ (ap (slice_get (posted_to (ReplicaNumber 0) log ++ envelope ∷ [])) (sym count) ∙ (get_last (posted_to (ReplicaNumber 0) log) envelope ∙ ap Some (is ∙ same)))
      ];
    }

-- after the post of the envelope that a choice gives
pub stands_chosen : (r : Replica) (log : List Entry) (to : ℕ) (pick : Pick) (value : SlotValue) (envelope : Envelope) → StandsFor r log
    → value_for r to pick ≡ Some value → envelope_to r.shape r.me log to pick ≡ Some envelope
    → StandsFor (record r { next = after_post_to r.shape.n to; proposed = value }) (Post (ReplicaNumber to) envelope ∷ log)
stands_chosen r log to pick value envelope stands some given =
    let of = due_of r to pick value some in
    let is : envelope ≡ envelope_with r.shape r.me log value =
    same_Some envelope (envelope_with r.shape r.me log value)
    (sym given ∙ (envelope_is r log to pick stands ∙ ap (option_map (envelope_with r.shape r.me log)) some)) in
    stands_posted r log to envelope value stands of.0 is (later_value r to pick value of.1)

-- ---- what the envelope of a choice is, by the value

pub none_given : (r : Replica) (log : List Entry) (to : ℕ) (pick : Pick) → StandsFor r log → value_for r to pick ≡ None
    → envelope_to r.shape r.me log to pick ≡ None
none_given r log to pick stands none = envelope_is r log to pick stands ∙ ap (option_map (envelope_with r.shape r.me log)) none

pub some_given : (r : Replica) (log : List Entry) (to : ℕ) (pick : Pick) (value : SlotValue) → StandsFor r log → value_for r to pick ≡ Some value
    → envelope_to r.shape r.me log to pick ≡ Some (envelope_with r.shape r.me log value)
some_given r log to pick value stands some = envelope_is r log to pick stands ∙ ap (option_map (envelope_with r.shape r.me log)) some

-- a post that is due is of a round up to 2^36
pub round_within : (d : Due) (q round : ℕ) → d ≡ PostTo q → IsWithin d round → round ≤ 2 ^ 36
round_within d q round is within = subst (λ (d : Due). IsWithin d round) is within

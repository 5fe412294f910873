-- What a loyal replica's post in a round has for one slot: the slot's part, for the one value that the slot's sender posts.
use Rattle.std.proofs.Common.{◌≡◌, ℕ, suc, ◌+◌, ◌-◌, ◌<◌, ◌≤◌, ◌==◌, ◌&&◌, not, nat_lt, Bool, true, false, List, [], ◌∷◌, ◌++◌, Some, if◌then◌else◌, refl, ap, sym, ◌∙◌, subst, eq-eqb, arith}
use Rattle.std.specs.Prelude.{All, slice_get}
use Rattle.std.proofs.lemmas.Bool.Decides.{nat_tests, Decides-eqb}
use Rattle.dsr_base.specs.Member.{In}
use Rattle.dsr_names.specs.Shape.{Shape, IsLoyal, sender}
use Rattle.dsr_names.specs.declared.actor.Actor.{Actor}
use Rattle.dsr_names.specs.declared.actor.Actor.TheVariants.{Replica}
use Rattle.dsr_names.specs.Support.ActorEquality.{actor_eq, actor_eq-Decides}
use Rattle.dsr_rotation.specs.Calendar.{first_round, last_round}
use Rattle.dsr_chain.specs.Chain.{Chain, started}
use Rattle.dsr_chain.specs.Content.{signed_in}
use Rattle.dsr_chain.specs.Proper.{IsAsked, sender_of}
use Rattle.dsr_chain.specs.declared.slot_value.SlotValue.{SlotValue}
use Rattle.dsr_slot.specs.Conduct.{relayed, posted}
use Rattle.dsr_slot.proofs.Lemmas.{post_proper}
use Rattle.dsr_envelope.specs.declared.envelope.Envelope.{Envelope}
use Rattle.dsr_envelope.specs.declared.entry.Entry.{Entry}
use Rattle.dsr_replica.specs.Conduct.{slot_part, chains_posted, IsLoyalLog}
use Rattle.dsr_replica.specs.Decided.{slot_read, slot_kept}
use Rattle.dsr_envelope.specs.Envelope.{chains_for, round_envelope}
use Rattle.dsr_envelope.specs.Log.{posted_to}
use Rattle.dsr_replica.proofs.Lemmas.{equal_posts, post_of_round, in_part}

-- ---- tests

and_parts : (a b : Bool) → (a && b) ≡ true → (a ≡ true) × (b ≡ true)
and_parts true b e = (refl, e)
and_parts false b e = absurd cc

if_true : {A : Type 0} (b : Bool) (x y : A) → b ≡ true → (if b then x else y) ≡ x
if_true true x y e = refl
if_true false x y e = absurd cc

-- a slot is in flight from its first round on, f rounds long
flight_test : (first r f : ℕ) → r ≤ f → (not (nat_lt (first + r) first) && not (nat_lt (first + f) (first + r))) ≡ true
flight_test first r f within = grind (arith, nat_tests)

begun_by : (round first last : ℕ) → (not (nat_lt round first) && not (nat_lt last round)) ≡ true → first ≤ round
begun_by round first last e = grind (arith, nat_tests)

-- what is relayed is the same for all values, and what is started counts only if something is started
same_part : (c b : Bool) (relays : List Chain) (x y : Chain) → (c && b) ≡ false
    → (if c then relays ++ (if b then x ∷ [] else []) else []) ≡ (if c then relays ++ (if b then y ∷ [] else []) else [])
same_part true true relays x y e = absurd cc
same_part true false relays x y e = refl
same_part false b relays x y e = refl

-- the chains of a round's envelope, read in that round
pub for_round : (round : ℕ) (chains : List Chain) → chains_for round (round_envelope round chains) ≡ chains
for_round round [] = refl
for_round round (c ∷ cs) = if_true (round == round) (c ∷ cs) [] (eq-eqb round round refl)

-- ---- the part of a slot

-- what is posted for a slot in its round r+1
pub part_at : (shape : Shape) (me : Actor) (log : List Entry) (slot : ℕ) (value : SlotValue) (r : ℕ) → r ≤ shape.f
    → slot_part shape me log (first_round shape slot + r) value slot ≡ posted shape slot me value (suc r) (slot_kept shape log slot r)
part_at shape me log slot value r within =
    let first = first_round shape slot in
    let back : first + r - first ≡ r = omega arith in
    if_true (not (nat_lt (first + r) first) && not (nat_lt (last_round shape slot) (first + r)))
    (posted shape slot me value (suc (first + r - first)) (slot_kept shape log slot (first + r - first))) [] (flight_test first r shape.f within)
    ∙ ap (λ d. posted shape slot me value (suc d) (slot_kept shape log slot d)) back

-- each chain of a slot's part is for that slot
pub part_of_slot : (shape : Shape) (p : ℕ) → p < shape.n → (log : List Entry) (round : ℕ) (value : SlotValue) → All (IsAsked shape) (signed_in value)
    → (slot : ℕ) (c : Chain) → In c (slot_part shape (Replica p) log round value slot) → c.slot ≡ slot
part_of_slot shape p inside log round value asked slot c h =
    let part = in_part shape (Replica p) log round slot value c h in
    (post_proper shape slot (slot_read shape log slot) (Replica p) value inside asked (round - first_round shape slot) c part.2).of_slot

-- ---- the value of a slot

-- the value that the slot's sender proposes in the slot's first round, if the sender is loyal and has posted then
pub record IsValue (shape : Shape) (log : List Entry) (slot : ℕ) (value : SlotValue) : Type 0 where
  pub asked : All (IsAsked shape) (signed_in value)
  pub is : IsLoyal shape (sender_of shape slot) → (envelope : Envelope)
      → slice_get (posted_to (Replica 0) log) (first_round shape slot) ≡ Some envelope
      → envelope ≡ round_envelope (first_round shape slot) (chains_posted shape (sender_of shape slot) log (first_round shape slot) value)

-- the envelope of a round, made for a value that gives the same for this slot as the slot's own value does
pub record IsOfSlot (shape : Shape) (me : Actor) (log : List Entry) (slot : ℕ) (value : SlotValue) (round : ℕ) (envelope : Envelope) : Type 0 where
  pub made_for : SlotValue
  pub asked : All (IsAsked shape) (signed_in made_for)
  pub is : envelope ≡ round_envelope round (chains_posted shape me log round made_for)
  pub part : slot_part shape me log round made_for slot ≡ slot_part shape me log round value slot

-- whether the slot is in flight in a round, and whether the replica starts its chain then
abbrev flies : Shape → ℕ → ℕ → Bool
flies shape slot round = not (nat_lt round (first_round shape slot)) && not (nat_lt (last_round shape slot) round)

abbrev begins : Shape → ℕ → ℕ → ℕ → Bool
begins shape slot p round = (suc (round - first_round shape slot) == 1) && actor_eq (Replica p) (sender_of shape slot)

module _ (shape : Shape) (log : ℕ → List Entry) (loyal_log : (p : ℕ) → IsLoyal shape (Replica p) → IsLoyalLog shape (Replica p) (log p))
    (slot : ℕ) (value : SlotValue) (its : IsValue shape (log (sender shape slot)) slot value) where
  -- the sender's post of the first round
  sender_post : (p round : ℕ) → p ≡ sender shape slot → round ≡ first_round shape slot → IsLoyal shape (Replica p) → (envelope : Envelope)
      → slice_get (posted_to (Replica 0) (log p)) round ≡ Some envelope
      → envelope ≡ round_envelope round (chains_posted shape (Replica p) (log p) round value)
  sender_post p round sends first =
      subst (λ z. IsLoyal shape (Replica z) → (envelope : Envelope) → slice_get (posted_to (Replica 0) (log z)) round ≡ Some envelope
      → envelope ≡ round_envelope round (chains_posted shape (Replica z) (log z) round value)) (sym sends)
      (subst (λ t. IsLoyal shape (sender_of shape slot) → (envelope : Envelope)
      → slice_get (posted_to (Replica 0) (log (sender shape slot))) t ≡ Some envelope
      → envelope ≡ round_envelope t (chains_posted shape (sender_of shape slot) (log (sender shape slot)) t value)) (sym first) its.is)

  pub post_of_slot : (p : ℕ) → IsLoyal shape (Replica p) → (q : ℕ) → q < shape.n → (round : ℕ) (envelope : Envelope)
      → slice_get (posted_to (Replica q) (log p)) round ≡ Some envelope
      → IsOfSlot shape (Replica p) (log p) slot value round envelope
  post_of_slot p loyal q inside round envelope e = by_test (flies shape slot round && begins shape slot p round) refl
    where
      some : 0 < shape.n
      some = let low = loyal.0 in omega (arith, low)

      same_number : Replica p ≡ Replica (sender shape slot) → p ≡ sender shape slot
      same_number e = cc

      by_test : (b : Bool) → (flies shape slot round && begins shape slot p round) ≡ b → IsOfSlot shape (Replica p) (log p) slot value round envelope
      by_test true test =
          let parts = and_parts (flies shape slot round) (begins shape slot p round) test in
          let tests = and_parts (suc (round - first_round shape slot) == 1) (actor_eq (Replica p) (sender_of shape slot)) parts.1 in
          let begun = begun_by round (first_round shape slot) (last_round shape slot) parts.0 in
          let one : suc (round - first_round shape slot) ≡ 1 = (Decides-eqb (suc (round - first_round shape slot)) 1).0 tests.0 in
          let first : round ≡ first_round shape slot = omega (arith, begun, one) in
          let sends = same_number ((actor_eq-Decides (Replica p) (sender_of shape slot)).0 tests.1) in
          record {
            made_for = value;
            asked = its.asked;
            is = sender_post p round sends first loyal envelope (equal_posts shape (Replica p) some (log p) (loyal_log p loyal) q inside round envelope e);
            part = refl;
          }
      by_test false test =
          let h = post_of_round shape (Replica p) some (log p) (loyal_log p loyal) q inside round envelope e in
          record {
            made_for = h.value;
            asked = h.may.asked;
            is = h.is;
            part = same_part (flies shape slot round) (begins shape slot p round)
                (relayed (Replica p) (suc (round - first_round shape slot)) (slot_kept shape (log p) slot (round - first_round shape slot)))
                (started slot h.value (Replica p)) (started slot value (Replica p)) test;
          }

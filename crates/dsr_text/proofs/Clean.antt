-- No line feed is in a token, or in texts joined from tokens.
use Rattle.std.proofs.Common.{All, ◌≡◌, ◌≢◌, ℕ, zero, suc, ◌<◌, ◌^◌, Bool, true, false, ◌&&◌, nat_lt, List, [], ◌∷◌, ◌++◌, codes, refl, arith, lit<}
use Rattle.std.specs.Prelude.{if◌then◌else◌}
use Rattle.std.specs.Fmt.{decimal}
use Rattle.std.proofs.lemmas.Bool.{false≢true}
use Rattle.std.proofs.lemmas.Bool.Decides.{nat_tests}
use Rattle.std.proofs.lemmas.List.Elements.{All-nil, All-cons, All-append, All-head, All-tail}
use Rattle.dsr_base.specs.Bits.{is_bit_set}
use Rattle.dsr_base.specs.Joined.{joined, more_joined, joined_or_dash}
use Rattle.dsr_base.specs.Split.{IsAbsent}
use Rattle.dsr_base.proofs.Marks.{decimal_without_low}
use Rattle.dsr_names.specs.Actor.{IsNumbered, actor_text, replica_text}
use Rattle.dsr_names.specs.declared.actor.Actor.{Actor}
use Rattle.dsr_names.specs.declared.actor.Actor.TheVariants.{Replica, Client}
use Rattle.dsr_names.specs.Shape.{Shape}
use Rattle.dsr_names.specs.ShapeText.{shape_text, numbers_below, replicas_of, replicas_text, IsSpelled}

abbrev pub IsClean : List ℕ → Type 0
IsClean = IsAbsent 10

-- ---- texts after each other

pub clean_nil : IsClean []
clean_nil = All-nil (λ b. b ≢ 10)

pub clean_then : (byte : ℕ) (bytes : List ℕ) → 10 < byte → IsClean bytes → IsClean (byte ∷ bytes)
clean_then byte bytes above rest = All-cons (λ b. b ≢ 10) byte bytes (λ e. omega (arith, above, e)) rest

pub clean_append : (xs ys : List ℕ) → IsClean xs → IsClean ys → IsClean (xs ++ ys)
clean_append xs ys first rest = All-append (λ b. b ≢ 10) xs ys first rest

-- whether each byte is above a line feed
abbrev pub are_above : List ℕ → Bool
are_above [] = true
are_above (b ∷ bs) = nat_lt 10 b && are_above bs

above : (b : ℕ) → nat_lt 10 b ≡ true → 10 < b
above b h = grind (arith, nat_tests)

both : (a b : Bool) → (a && b) ≡ true → (a ≡ true) × (b ≡ true)
both true b h = (refl, h)
both false b h = absurd (false≢true h)

-- a word
pub word_clean : (word : List ℕ) → are_above word ≡ true → IsClean word
word_clean [] h = clean_nil
word_clean (b ∷ bs) h =
    let split = both (nat_lt 10 b) (are_above bs) h in
    clean_then b bs (above b split.0) (word_clean bs split.1)

module _ {X : Type 0} (is : X → Type 0) (text : X → List ℕ) (mark : ℕ) (over : 10 < mark) (each : (x : X) → is x → IsClean (text x)) where
  pub more_clean : (xs : List X) → All is xs → IsClean (more_joined mark text xs)
  more_clean [] all = clean_nil
  more_clean (x ∷ xs) all =
      clean_then mark (text x ++ more_joined mark text xs) over
      (clean_append (text x) (more_joined mark text xs) (each x (All-head is x xs all)) (more_clean xs (All-tail is x xs all)))

  pub joined_clean : (xs : List X) → All is xs → IsClean (joined mark text xs)
  joined_clean [] all = clean_nil
  joined_clean (x ∷ xs) all =
      clean_append (text x) (more_joined mark text xs) (each x (All-head is x xs all)) (more_clean xs (All-tail is x xs all))

  pub dashed_clean : (xs : List X) → All is xs → IsClean (joined_or_dash mark text xs)
  dashed_clean [] all = word_clean (codes "-") refl
  dashed_clean (x ∷ xs) all = joined_clean (x ∷ xs) all

-- ---- tokens

pub number_clean : (n : ℕ) → n < 2 ^ 64 → IsClean (decimal n)
number_clean n small = decimal_without_low 10 n (lit< tt) small

pub count_clean : (n : ℕ) → n < 2 ^ 40 → IsClean (decimal n)
count_clean n small = number_clean n (omega (arith, small))

pub replica_clean : (r : ℕ) → r < 16 → IsClean (replica_text r)
replica_clean r small = clean_then 114 (decimal r) (lit< tt) (number_clean r (omega (arith, small)))

pub actor_clean : (a : Actor) → IsNumbered a → IsClean (actor_text a)
actor_clean (Replica r) small = replica_clean r small
actor_clean (Client c) small = clean_then 99 (decimal c) (lit< tt) (number_clean c (omega (arith, small)))

-- fields with a mark between them
pub field_clean : (mark : ℕ) (first rest : List ℕ) → 10 < mark → IsClean first → IsClean rest → IsClean (first ++ mark ∷ rest)
field_clean mark first rest over p q = clean_append first (mark ∷ rest) p (clean_then mark rest over q)

abbrev AreReplicas : List ℕ → Type 0
AreReplicas = All (λ (r : ℕ). r < 16)

numbers_are_below : (test : ℕ → Bool) (n : ℕ) → n < 17 → AreReplicas (numbers_below test n)
numbers_are_below test zero small = All-nil (λ (r : ℕ). r < 16)
numbers_are_below test (suc n) small =
    All-append (λ (r : ℕ). r < 16) (numbers_below test n) _ (numbers_are_below test n (omega (arith, small))) (last (test n))
  where
    last : (b : Bool) → AreReplicas (if b then n ∷ [] else [])
    last true = All-cons (λ (r : ℕ). r < 16) n [] (omega (arith, small)) (All-nil (λ (r : ℕ). r < 16))
    last false = All-nil (λ (r : ℕ). r < 16)

pub shape_clean : (shape : Shape) → IsSpelled shape → IsClean (shape_text shape)
unfolding replicas_of
shape_clean shape spelled =
    let last =
    dashed_clean (λ (r : ℕ). r < 16) replica_text 43 (lit< tt) replica_clean (replicas_of shape.traitors)
    (numbers_are_below (is_bit_set shape.traitors) 16 (lit< tt)) in
    field_clean 32 (decimal shape.n) _ (lit< tt) (count_clean shape.n spelled.n_is_number)
    (field_clean 32 (decimal shape.f) _ (lit< tt) (count_clean shape.f spelled.f_is_number)
    (field_clean 32 (decimal shape.m) (replicas_text (replicas_of shape.traitors)) (lit< tt) (count_clean shape.m spelled.m_is_number) last))

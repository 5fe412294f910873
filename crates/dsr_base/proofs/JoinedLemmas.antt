-- Texts of items joined by a mark, cut at the first mark outside parentheses.
use Rattle.std.proofs.Common.{All, ◌≡◌, ℕ, ◌+◌, ◌-◌, ◌<◌, List, [], ◌∷◌, ◌++◌, Option, None, Some, codes, length, get_or, take, false, refl, sym, ap, ◌∙◌, subst, arith, append_assoc}
use Rattle.std.proofs.lemmas.List.{append-nil, take_more}
use Rattle.std.proofs.lemmas.List.Elements.{All-nil, All-cons, All-append, All-head, All-tail}
use Rattle.dsr_base.specs.Reads.{Reads}
use Rattle.dsr_base.specs.Split.{IsFree, IsPart}
use Rattle.dsr_base.specs.Joined.{joined, more_joined, joined_or_dash, AreFew, AreUpTo}
use Rattle.dsr_base.proofs.ReadsLemmas.{reads_none, reads_some, not_read, was_read, only_read}
use Rattle.dsr_base.proofs.Outside.{not_free, one_cut_outside, part_append}

-- ---- reading

module _ {X : Type 0} (is : X → Type 0) (text : X → List ℕ) (mark : ℕ) (apart : (x : X) → is x → IsPart mark (text x)) (most : ℕ) where
  -- with no mark outside there is one item
  record Alone (bytes : List ℕ) (xs : List X) : Type 0 where
    pub only : X
    pub kind : is only
    pub spelled : bytes ≡ text only
    pub all : only ∷ [] ≡ xs

  alone : (bytes : List ℕ) (xs : List X) → IsFree mark false bytes → AreFew is most xs → bytes ≡ joined mark text xs → Alone bytes xs
  alone bytes [] free few e = let none : ⊥ = omega (arith, few.some) in absurd none
  alone bytes (x ∷ []) free few e = record { only = x; kind = All-head is x [] few.each; spelled = e ∙ append-nil (text x); all = refl }
  alone bytes (x ∷ y ∷ ys) free few e =
      absurd (not_free mark (text x) (joined mark text (y ∷ ys)) (apart x (All-head is x (y ∷ ys) few.each)) (subst (IsFree mark false) e free))

  pub no_item : (bytes : List ℕ) → IsFree mark false bytes → Reads is text bytes None → Reads (AreFew is most) (joined mark text) bytes None
  no_item bytes free reads =
      reads_none (AreFew is most) (joined mark text) bytes (λ xs few e. let one = alone bytes xs free few e in not_read is text bytes reads one.only one.kind one.spelled)

  pub reads_alone : (bytes : List ℕ) (x : X) → 0 < most → IsFree mark false bytes → Reads is text bytes (Some x)
      → Reads (AreFew is most) (joined mark text) bytes (Some (x ∷ []))
  reads_alone bytes x room free reads =
      let read = was_read is text bytes x reads in
      reads_some (AreFew is most) (joined mark text) bytes (x ∷ [])
      (record { some = omega arith; few = omega (arith, room); each = All-cons is x [] read.0 (All-nil is) })
      (read.1 ∙ sym (append-nil (text x)))
      (λ xs few e. let one = alone bytes xs free few e in ap (λ y. y ∷ []) (only_read is text bytes x reads one.only one.kind one.spelled) ∙ one.all)

  -- with a mark outside there is an item before it, and others after it
  record Led (front rest : List ℕ) (xs : List X) : Type 0 where
    pub first : X
    pub kind : is first
    pub spelled : front ≡ text first
    pub others : List X
    pub kinds : AreFew is (most - 1) others
    pub others_spelled : rest ≡ joined mark text others
    pub all : first ∷ others ≡ xs

  led : (front rest : List ℕ) (xs : List X) → IsPart mark front → AreFew is most xs → front ++ mark ∷ rest ≡ joined mark text xs → Led front rest xs
  led front rest [] part few e = let none : ⊥ = omega (arith, few.some) in absurd none
  led front rest (x ∷ []) part few e =
      absurd (not_free mark front rest part (subst (IsFree mark false) (sym (e ∙ append-nil (text x))) (apart x (All-head is x [] few.each)).free))
  led front rest (x ∷ y ∷ ys) part few e =
      let kind = All-head is x (y ∷ ys) few.each in
      let same = one_cut_outside mark front rest (text x) (joined mark text (y ∷ ys)) part (apart x kind) e in
      record {
        first = x;
        kind = kind;
        spelled = same.0;
        others = y ∷ ys;
        kinds = record { some = omega arith; few = omega (arith, few.few); each = All-tail is x (y ∷ ys) few.each };
        others_spelled = same.1;
        all = refl;
      }

  pub no_first : (bytes front rest : List ℕ) → bytes ≡ front ++ mark ∷ rest → IsPart mark front → Reads is text front None
      → Reads (AreFew is most) (joined mark text) bytes None
  no_first bytes front rest parts part reads =
      reads_none (AreFew is most) (joined mark text) bytes
      (λ xs few e. let cut = led front rest xs part few (sym parts ∙ e) in not_read is text front reads cut.first cut.kind cut.spelled)

  pub no_others : (bytes front rest : List ℕ) → bytes ≡ front ++ mark ∷ rest → IsPart mark front
      → Reads (AreFew is (most - 1)) (joined mark text) rest None → Reads (AreFew is most) (joined mark text) bytes None
  no_others bytes front rest parts part reads =
      reads_none (AreFew is most) (joined mark text) bytes
      (λ xs few e. let cut = led front rest xs part few (sym parts ∙ e) in not_read (AreFew is (most - 1)) (joined mark text) rest reads cut.others cut.kinds cut.others_spelled)

  led_text : (x : X) (xs : List X) (rest : List ℕ) → 0 < length xs → rest ≡ joined mark text xs → text x ++ mark ∷ rest ≡ joined mark text (x ∷ xs)
  led_text x [] rest some e = let none : ⊥ = omega (arith, some) in absurd none
  led_text x (y ∷ ys) rest some e = ap (λ ends. text x ++ mark ∷ ends) e

  pub reads_led : (bytes front rest : List ℕ) (x : X) (xs : List X) → 0 < most → bytes ≡ front ++ mark ∷ rest → IsPart mark front
      → Reads is text front (Some x) → Reads (AreFew is (most - 1)) (joined mark text) rest (Some xs)
      → Reads (AreFew is most) (joined mark text) bytes (Some (x ∷ xs))
  reads_led bytes front rest x xs room parts part reads reads_others =
      let one = was_read is text front x reads in
      let others = was_read (AreFew is (most - 1)) (joined mark text) rest xs reads_others in
      reads_some (AreFew is most) (joined mark text) bytes (x ∷ xs)
      (record { some = omega arith; few = omega (arith, others.0.few, room); each = All-cons is x xs one.0 others.0.each })
      (parts ∙ (ap (λ begin. begin ++ mark ∷ rest) one.1 ∙ led_text x xs rest others.0.some others.1))
      (λ ys few e.
      let cut = led front rest ys part few (sym parts ∙ e) in
      let first = only_read is text front x reads cut.first cut.kind cut.spelled in
      let more = only_read (AreFew is (most - 1)) (joined mark text) rest xs reads_others cut.others cut.kinds cut.others_spelled in
      ap (λ y. y ∷ xs) first ∙ ap (λ zs. cut.first ∷ zs) more ∙ cut.all)

-- ---- a dash for no item

module _ {X : Type 0} (is : X → Type 0) (text : X → List ℕ) (mark : ℕ) (begun : (x : X) → is x → 45 < get_or (text x) 0 0) (most : ℕ) where
  begun_all : (begin ends : List ℕ) → 45 < get_or begin 0 0 → codes "-" ≡ begin ++ ends → ⊥
  begun_all [] ends above e = omega arith
  begun_all (b ∷ bs) ends above e = let same : get_or (codes "-") 0 0 ≡ b = ap (λ xs. get_or xs 0 0) e in omega arith

  none_spelled : (bytes : List ℕ) (xs : List X) → bytes ≡ codes "-" → AreUpTo is most xs → bytes ≡ joined_or_dash mark text xs → [] ≡ xs
  none_spelled bytes [] dash some e = refl
  none_spelled bytes (x ∷ xs) dash some e =
      absurd (begun_all (text x) (more_joined mark text xs) (begun x (All-head is x xs some.each)) (sym dash ∙ e))

  pub reads_dash : (bytes : List ℕ) → bytes ≡ codes "-" → Reads (AreUpTo is most) (joined_or_dash mark text) bytes (Some [])
  reads_dash bytes dash =
      reads_some (AreUpTo is most) (joined_or_dash mark text) bytes [] (record { few = omega arith; each = All-nil is }) dash (λ xs some e. none_spelled bytes xs dash some e)

-- the other texts are those of a list of some
module _ {X : Type 0} (is : X → Type 0) (text : X → List ℕ) (mark most : ℕ) where
  pub reads_some_items : (bytes : List ℕ) (r : Option (List X)) → (bytes ≡ codes "-" → ⊥) → Reads (AreFew is most) (joined mark text) bytes r
      → Reads (AreUpTo is most) (joined_or_dash mark text) bytes r
  reads_some_items bytes r other reads [] = (
    λ e. let none : ⊥ = omega (arith, ((reads []).0 e).0.some) in absurd none,
    λ h. absurd (other h.1),
  )
  reads_some_items bytes r other reads (x ∷ xs) = (
    λ e. let read = (reads (x ∷ xs)).0 e in (record { few = read.0.few; each = read.0.each }, read.1),
    λ h. (reads (x ∷ xs)).1 (record { some = omega arith; few = h.0.few; each = h.0.each }, h.1),
  )

-- ---- what is in a joined text

module _ {X : Type 0} (is : X → Type 0) (text : X → List ℕ) (mark : ℕ) where
  more_all : (P : ℕ → Type 0) → P mark → ((x : X) → is x → All P (text x)) → (xs : List X) → All is xs → All P (more_joined mark text xs)
  more_all P here each [] h = All-nil P
  more_all P here each (x ∷ xs) h =
      All-cons P mark (text x ++ more_joined mark text xs) here
      (All-append P (text x) (more_joined mark text xs) (each x (All-head is x xs h)) (more_all P here each xs (All-tail is x xs h)))

  -- what holds for the mark and for each token's bytes holds for all bytes
  pub joined_all : (P : ℕ → Type 0) → P mark → ((x : X) → is x → All P (text x)) → (xs : List X) → All is xs → All P (joined mark text xs)
  joined_all P here each [] h = All-nil P
  joined_all P here each (x ∷ xs) h =
      All-append P (text x) (more_joined mark text xs) (each x (All-head is x xs h)) (more_all P here each xs (All-tail is x xs h))

  more_part : (other : ℕ) → IsPart other (mark ∷ []) → ((x : X) → is x → IsPart other (text x)) → (xs : List X) → All is xs
      → IsPart other (more_joined mark text xs)
  more_part other here each [] h = record { free = tt; closed = refl }
  more_part other here each (x ∷ xs) h =
      part_append other (mark ∷ []) (text x ++ more_joined mark text xs) here
      (part_append other (text x) (more_joined mark text xs) (each x (All-head is x xs h)) (more_part other here each xs (All-tail is x xs h)))

  -- joined parts are a part for another mark
  pub joined_part : (other : ℕ) → IsPart other (mark ∷ []) → ((x : X) → is x → IsPart other (text x)) → (xs : List X) → All is xs
      → IsPart other (joined mark text xs)
  joined_part other here each [] h = record { free = tt; closed = refl }
  joined_part other here each (x ∷ xs) h =
      part_append other (text x) (more_joined mark text xs) (each x (All-head is x xs h)) (more_part other here each xs (All-tail is x xs h))

-- ---- writing

module _ {X : Type 0} (text : X → List ℕ) (mark : ℕ) where
  more_push : (xs : List X) (x : X) → more_joined mark text (xs ++ x ∷ []) ≡ more_joined mark text xs ++ (mark ∷ text x)
  more_push [] x = ap (λ ends. mark ∷ ends) (append-nil (text x))
  more_push (y ∷ ys) x =
      ap (λ ends. mark ∷ (text y ++ ends)) (more_push ys x) ∙ ap (λ ends. mark ∷ ends) (sym (append_assoc (text y) (more_joined mark text ys) (mark ∷ text x)))

  -- one more item is written
  pub more_next : (xs : List X) (i : ℕ) (x : X) → i < length xs → x ≡ get_or xs i x
      → more_joined mark text (take i xs) ++ (mark ∷ text x) ≡ more_joined mark text (take (i + 1) xs)
  more_next xs i x inside is =
      sym (more_push (take i xs) x) ∙ ap (more_joined mark text) (ap (λ y. take i xs ++ y ∷ []) is ∙ sym (take_more xs i x inside))

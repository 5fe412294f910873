-- Texts of two parts with a mark between them, cut at the first mark: any, or the first outside parentheses.
use Rattle.std.proofs.Common.{◌≡◌, ℕ, List, ◌∷◌, ◌++◌, false, None, Some, ap, sym, ◌∙◌, subst, ap₂}
use Rattle.dsr_base.specs.Reads.{Reads}
use Rattle.dsr_base.specs.Split.{IsAbsent, IsFree, IsPart}
use Rattle.dsr_base.proofs.Marks.{not_absent, one_cut}
use Rattle.dsr_base.proofs.Outside.{not_free, one_cut_outside}
use Rattle.dsr_base.proofs.ReadsLemmas.{reads_none, reads_some, not_read, was_read, only_read}

-- what can precede the mark, what a text without such a mark is, and that only one cut of a text is at the mark
pub record Cuts (mark : ℕ) : Type 1 where
  pub IsFront : List ℕ → Type 0
  pub HasNone : List ℕ → Type 0
  pub one : (xs ys us vs : List ℕ) → IsFront xs → IsFront us → xs ++ mark ∷ ys ≡ us ++ mark ∷ vs → (xs ≡ us) × (ys ≡ vs)
  pub none : (us vs : List ℕ) → IsFront us → HasNone (us ++ mark ∷ vs) → ⊥

-- a cut at the first such byte
abbrev pub at_byte : (mark : ℕ) → Cuts mark
at_byte mark = record { IsFront = IsAbsent mark; HasNone = IsAbsent mark; one = one_cut mark; none = λ us vs front h. not_absent mark us vs h }

-- a cut at the first such byte outside parentheses
abbrev pub outside : (mark : ℕ) → Cuts mark
outside mark = record { IsFront = IsPart mark; HasNone = IsFree mark false; one = one_cut_outside mark; none = not_free mark }

module _ {A B : Type 0} (is_a : A → Type 0) (text_a : A → List ℕ) (is_b : B → Type 0) (text_b : B → List ℕ) (mark : ℕ) (cuts : Cuts mark)
    (apart : (a : A) → is_a a → cuts.IsFront (text_a a)) where
  -- both are of their kinds
  abbrev pub AreBoth : A × B → Type 0
  AreBoth p = is_a p.0 × is_b p.1

  -- the text of both
  abbrev pub both_text : A × B → List ℕ
  both_text p = text_a p.0 ++ mark ∷ text_b p.1

  pub no_parts : (bytes : List ℕ) → cuts.HasNone bytes → Reads AreBoth both_text bytes None
  no_parts bytes free =
      reads_none AreBoth both_text bytes (λ p are e. cuts.none (text_a p.0) (text_b p.1) (apart p.0 are.0) (subst cuts.HasNone e free))

  module _ (bytes front rest : List ℕ) (parts : bytes ≡ front ++ mark ∷ rest) (part : cuts.IsFront front) where
    same_cut : (p : A × B) → AreBoth p → bytes ≡ both_text p → (front ≡ text_a p.0) × (rest ≡ text_b p.1)
    same_cut p are e = cuts.one front rest (text_a p.0) (text_b p.1) part (apart p.0 are.0) (sym parts ∙ e)

    pub no_front : Reads is_a text_a front None → Reads AreBoth both_text bytes None
    no_front reads = reads_none AreBoth both_text bytes (λ p are e. not_read is_a text_a front reads p.0 are.0 (same_cut p are e).0)

    pub no_rest : Reads is_b text_b rest None → Reads AreBoth both_text bytes None
    no_rest reads = reads_none AreBoth both_text bytes (λ p are e. not_read is_b text_b rest reads p.1 are.1 (same_cut p are e).1)

    pub reads_parts : (a : A) (b : B) → Reads is_a text_a front (Some a) → Reads is_b text_b rest (Some b) → Reads AreBoth both_text bytes (Some (a, b))
    reads_parts a b reads_a reads_b =
        let one = was_read is_a text_a front a reads_a in
        let other = was_read is_b text_b rest b reads_b in
        reads_some AreBoth both_text bytes (a, b) (one.0, other.0)
        (parts ∙ (ap (λ xs. xs ++ mark ∷ rest) one.1 ∙ ap (λ xs. text_a a ++ mark ∷ xs) other.1))
        (λ p are e.
        let first : a ≡ p.0 = only_read is_a text_a front a reads_a p.0 are.0 (same_cut p are e).0 in
        let second : b ≡ p.1 = only_read is_b text_b rest b reads_b p.1 are.1 (same_cut p are e).1 in
        ap₂ (λ x y. (x, y)) first second)

-- ---- a value made from one that was read

module _ {P X : Type 0} (is_p : P → Type 0) (text_p : P → List ℕ) (is_x : X → Type 0) (text_x : X → List ℕ) (make : P → X) (parts : X → P)
    (back : (x : X) → make (parts x) ≡ x) (kind : (x : X) → is_x x → is_p (parts x)) (same : (x : X) → text_x x ≡ text_p (parts x)) (bytes : List ℕ) where
  pub made_none : Reads is_p text_p bytes None → Reads is_x text_x bytes None
  made_none reads = reads_none is_x text_x bytes (λ x is e. not_read is_p text_p bytes reads (parts x) (kind x is) (e ∙ same x))

  pub reads_made : (p : P) → is_x (make p) → text_x (make p) ≡ text_p p → Reads is_p text_p bytes (Some p) → Reads is_x text_x bytes (Some (make p))
  reads_made p is spelled reads =
      reads_some is_x text_x bytes (make p) is ((was_read is_p text_p bytes p reads).1 ∙ sym spelled)
      (λ x is_too e. ap make (only_read is_p text_p bytes p reads (parts x) (kind x is_too) (e ∙ same x)) ∙ back x)

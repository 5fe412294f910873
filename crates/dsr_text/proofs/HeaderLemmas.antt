-- A text begins with a header in at most one way.
use Rattle.std.proofs.Common.{◌≡◌, ℕ, true, false, List, [], ◌∷◌, ◌++◌, ◌-◌, ◌≤◌, Option, None, Some, IfNone, get_or, take, drop, length, sym, ◌∙◌, ap, ap₂, subst, arith, append_assoc, lit<}
use Rattle.std.specs.Str.{bytes_eq}
use Rattle.std.proofs.Math.Seq.{take-append_seam}
use Rattle.std.proofs.lemmas.Bool.{false≢true}
use Rattle.std.proofs.lemmas.List.{take-append-drop, take_all}
use Rattle.std.proofs.lemmas.Slice.Eq.{bytes_eq-Decides}
use Rattle.dsr_base.specs.Split.{IsAbsent}
use Rattle.dsr_base.proofs.Marks.{one_cut, not_absent}
use Rattle.dsr_names.specs.Shape.{Shape}
use Rattle.dsr_names.specs.ShapeText.{shape_text, IsSpelled}
use Rattle.dsr_text.proofs.Clean.{field_clean, shape_clean}
use Rattle.dsr_text.specs.Header.{BeginsWithHeader, HasNoHeader}

-- ---- the one way in which a text begins with a header

module _ (title text : List ℕ) where
  header_cut : (shape : Shape) (rest : List ℕ) → BeginsWithHeader title text shape rest → text ≡ (title ++ 32 ∷ shape_text shape) ++ 10 ∷ rest
  header_cut shape rest h =
      h.line
      ∙ (append_assoc title (32 ∷ (shape_text shape ++ 10 ∷ [])) rest
      ∙ (ap (λ xs. title ++ 32 ∷ xs) (append_assoc (shape_text shape) (10 ∷ []) rest)
      ∙ sym (append_assoc title (32 ∷ shape_text shape) (10 ∷ rest))))

  -- a text with no line feed
  pub no_header_line : IsAbsent 10 text → HasNoHeader title text
  no_header_line whole shape rest h =
      not_absent 10 (title ++ 32 ∷ shape_text shape) rest (subst (IsAbsent 10) (header_cut shape rest h) whole)

  module _ (line after : List ℕ) (titled : IsAbsent 10 title) (cut : text ≡ line ++ 10 ∷ after) (whole : IsAbsent 10 line) where
    -- the first line is the header's, and what follows it is the rest
    pub same_header : (shape : Shape) (rest : List ℕ) → BeginsWithHeader title text shape rest
        → (line ≡ title ++ 32 ∷ shape_text shape) × (after ≡ rest)
    same_header shape rest h =
        one_cut 10 line after (title ++ 32 ∷ shape_text shape) rest whole
        (field_clean 32 title (shape_text shape) (lit< tt) titled (shape_clean shape h.spelled))
        (sym cut ∙ header_cut shape rest h)

    -- if the line begins with another title
    pub no_titled : ((token : List ℕ) → line ≡ title ++ 32 ∷ token → ⊥) → HasNoHeader title text
    no_titled none shape rest h = none (shape_text shape) (same_header shape rest h).0

    module _ (token : List ℕ) (found : line ≡ title ++ 32 ∷ token) where
      -- the header whose shape's text is the token
      pub made_header : (shape : Shape) → IsSpelled shape → token ≡ shape_text shape → BeginsWithHeader title text shape after
      made_header shape spelled is =
          record {
            spelled = spelled;
            line =
                cut
                ∙ (ap (λ xs. xs ++ 10 ∷ after) (found ∙ ap (λ xs. title ++ 32 ∷ xs) is)
                ∙ (append_assoc title (32 ∷ shape_text shape) (10 ∷ after)
                ∙ (ap (λ xs. title ++ 32 ∷ xs) (sym (append_assoc (shape_text shape) (10 ∷ []) after))
                ∙ sym (append_assoc title (32 ∷ (shape_text shape ++ 10 ∷ [])) after))));
          }

      -- the token is that of the header's shape
      pub same_token : (shape : Shape) (rest : List ℕ) → BeginsWithHeader title text shape rest → token ≡ shape_text shape
      same_token shape rest h = after_same title token (shape_text shape) (sym found ∙ (same_header shape rest h).0)
        where
          after_same : (front xs ys : List ℕ) → front ++ 32 ∷ xs ≡ front ++ 32 ∷ ys → xs ≡ ys
          after_same [] xs ys e = cc
          after_same (b ∷ bs) xs ys e = let tails : bs ++ 32 ∷ xs ≡ bs ++ 32 ∷ ys = cc in after_same bs xs ys tails

-- ---- a line that begins with the title and a space

-- it does not, if another text is in the title's place
pub no_title : {X : Type 0} (title line : List ℕ) (r : Option X) → bytes_eq (take (length title) line) title ≡ false
    → IfNone r ((rest : List ℕ) → line ≡ title ++ 32 ∷ rest → ⊥)
no_title title line None other = λ rest e.
    let begun : take (length title) line ≡ title = ap (take (length title)) e ∙ take-append_seam title (32 ∷ rest) in
    false≢true (sym other ∙ (bytes_eq-Decides (take (length title) line) title).1 begun)
no_title title line (Some x) other = tt

first_and_rest : (rest : List ℕ) → 1 ≤ length rest → get_or rest 0 0 ≡ 32 → rest ≡ 32 ∷ take (length rest - 1) (drop 1 rest)
first_and_rest [] some first = absurd (omega (arith, some))
first_and_rest (b ∷ bs) some first = ap (λ x. x ∷ bs) first ∙ ap (λ xs. 32 ∷ xs) (sym (take_all (length (b ∷ bs) - 1) bs (omega arith)))

-- it does, if the title is there and a space after it
pub titled : (title line rest : List ℕ) → 1 ≤ length rest → get_or rest 0 0 ≡ 32 → bytes_eq (take (length title) line) title ≡ true
    → rest ≡ drop (length title) line → line ≡ title ++ 32 ∷ take (length rest - 1) (drop 1 rest)
titled title line rest some first same after =
    sym (take-append-drop (length title) line)
    ∙ ap₂ (λ xs ys. xs ++ ys) ((bytes_eq-Decides (take (length title) line) title).0 same) (sym after ∙ first_and_rest rest some first)

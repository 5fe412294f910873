-- Boxes in a square with one box changed: it is there, the others are as before, and the square stays one.
use Rattle.std.proofs.Common.{◌≡◌, ◌≢◌, ℕ, ◌<◌, ◌==◌, Bool, true, false, List, [], length, ◌⊎◌, inl, inr, refl, ap, sym, ◌∙◌, arith}
use Rattle.std.specs.Prelude.{slice_set}
use Rattle.std.specs.Bool.{Decides}
use Rattle.std.proofs.lemmas.List.{get_or-set_same, get_or-set_other, length-set}
use Rattle.std.proofs.lemmas.Bool.Decides.{Decides-eqb}
use Rattle.dsr_base.specs.Boxes.{AreSquare, empty_box, box_in, row_of, box_at, with_box}
use Rattle.dsr_base.specs.declared.boxes.MailBox.{MailBox}

-- one number is another, or is not
same_or_not : (b : Bool) (m n : ℕ) → Decides b (m ≡ n) → (m ≡ n) ⊎ (m ≢ n)
same_or_not true m n d = inl (d.0 refl)
same_or_not false m n d = inr (λ p. let e : false ≡ true = d.1 p in absurd cc)

module _ {T : Type 0} where
  -- the changed box
  pub box_same : (n from to : ℕ) (rows : List (List (MailBox T))) (x : MailBox T) → AreSquare n rows → from < n → to < n
      → box_at (with_box rows from to x) from to ≡ x
  box_same n from to rows x square below inside =
      let rows_long : from < length rows = let count = square.count in omega (arith, below, count) in
      let row_long : to < length (row_of rows from) = let count = square.each from below in omega (arith, inside, count) in
      ap (λ row. box_in row to) (get_or-set_same rows from (slice_set (row_of rows from) to x) [] rows_long)
      ∙ get_or-set_same (row_of rows from) to x empty_box row_long

  -- any other box
  pub box_other : (n from to a b : ℕ) (rows : List (List (MailBox T))) (x : MailBox T) → AreSquare n rows → from < n → (a ≡ from → b ≢ to)
      → box_at (with_box rows from to x) a b ≡ box_at rows a b
  box_other n from to a b rows x square below apart = elim (same_or_not (a == from) a from (Decides-eqb a from)) [
    | inr other ↦ ap (λ row. box_in row b) (get_or-set_other rows from a (slice_set (row_of rows from) to x) [] other)
    | inl same ↦
        let rows_long : from < length rows = let count = square.count in omega (arith, below, count) in
        ap (λ k. box_in (row_of (with_box rows from to x) k) b) same
        ∙ (ap (λ row. box_in row b) (get_or-set_same rows from (slice_set (row_of rows from) to x) [] rows_long)
        ∙ (get_or-set_other (row_of rows from) to b x empty_box (apart same)
        ∙ ap (λ k. box_in (row_of rows k) b) (sym same)))
  ]

  pub still_square : (n from to : ℕ) (rows : List (List (MailBox T))) (x : MailBox T) → AreSquare n rows → from < n
      → AreSquare n (with_box rows from to x)
  still_square n from to rows x square below = record {
    count = length-set rows from (slice_set (row_of rows from) to x) ∙ square.count;
    each = λ a inside. elim (same_or_not (a == from) a from (Decides-eqb a from)) [
      | inr other ↦ ap length (get_or-set_other rows from a (slice_set (row_of rows from) to x) [] other) ∙ square.each a inside
      | inl same ↦
          let rows_long : from < length rows = let count = square.count in omega (arith, below, count) in
          ap (λ k. length (row_of (with_box rows from to x) k)) same
          ∙ (ap length (get_or-set_same rows from (slice_set (row_of rows from) to x) [] rows_long)
          ∙ (length-set (row_of rows from) to x ∙ square.each from below))
    ];
  }

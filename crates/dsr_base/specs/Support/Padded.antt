-- A list of at most n items in an array of n places: the places after the items hold one blank.
use Rattle.std.specs.Prelude.{◌≡◌, ℕ, ◌-◌, ◌≤◌, List, ◌++◌, length, take, drop, replicate}
use Rattle.std.proofs.Common.{sym, ◌∙◌, ap, arith, length-take, take-append-drop}

-- the first k places hold the items, and the others the blank
pub record IsPadded {X : Type 0} (n : ℕ) (blank : X) (places : List X) (k : ℕ) : Type 0 where
  pub size : length places ≡ n
  pub within : k ≤ n
  pub rest : drop k places ≡ replicate (n - k) blank

-- the items, and blanks up to n places
abbrev pub padded : {X : Type 0} → ℕ → X → List X → List X
padded n blank items = items ++ replicate (n - length items) blank

-- the items in the first k places are k
pub length_items : {X : Type 0} (n k : ℕ) (blank : X) (places : List X) → IsPadded n blank places k → length (take k places) ≡ k
length_items n k blank places h = simp length-take (omega (arith, h.size, h.within))

-- the items, padded, give the places back
pub padded_items : {X : Type 0} (n k : ℕ) (blank : X) (places : List X) → IsPadded n blank places k → padded n blank (take k places) ≡ places
padded_items n k blank places h =
    ap (λ l. take k places ++ replicate (n - l) blank) (length_items n k blank places h)
    ∙ ap (λ l. take k places ++ l) (sym h.rest) ∙ take-append-drop k places

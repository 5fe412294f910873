-- What keeps words and readings apart.
use Rattle.std.proofs.Common.{◌≡◌, ℕ, ◌↔◌, nat_eq, get_or, false, List, Option, None, Some, ap, arith}
use Rattle.std.proofs.lemmas.Bool.Decides.{nat_tests}

-- if bytes read as nothing and are not the text of `x`, neither side of the equivalence holds
pub reads_nothing : {X : Type 0} {P : Type 0} (r : Option X) (x : X) → r ≡ None → (P → ⊥) → (r ≡ Some x) ↔ P
reads_nothing r x none never = ((λ e. cc), (λ p. absurd (never p)))

-- a text does not read as nothing
pub reads_something : {X : Type 0} {P : Type 0} (x : X) → (None ≡ Some x) ↔ P → P → ⊥
reads_something x h p = let e : None ≡ Some x = h.1 p in cc

-- words with different first letters differ
pub other_word : (xs ys : List ℕ) → nat_eq (get_or xs 0 0) (get_or ys 0 0) ≡ false → xs ≡ ys → ⊥
other_word xs ys differ e =
    let same : get_or xs 0 0 ≡ get_or ys 0 0 = ap (λ zs. get_or zs 0 0) e in
    grind (arith, nat_tests)

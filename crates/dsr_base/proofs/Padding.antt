-- Items that are written over blanks.
use Rattle.std.proofs.Common.{◌≡◌, ℕ, ◌+◌, ◌-◌, ◌<◌, ◌≤◌, List, ◌++◌, length, drop, replicate, ap, sym, ◌∙◌, arith, length-drop, length-append}
use Rattle.std.proofs.Math.ListN.{set, length-set}
use Rattle.std.proofs.lemmas.List.{drop-replicate, drop_at, drop-set-lt, drop-drop, length-replicate}
use Rattle.dsr_base.specs.Support.Padded.{IsPadded}

-- after the items there are blanks up to the array's end
pub items_over_blanks : {X : Type 0} (n k : ℕ) (blank : X) (items : List X) → length items ≡ k → k ≤ n
    → IsPadded n blank (items ++ drop k (replicate n blank)) k
items_over_blanks n k blank items e fits =
    record {
      size = simp (length-append, length-drop, length-replicate) (omega arith);
      within = fits;
      rest = drop_at items (drop k (replicate n blank)) k e ∙ drop-replicate k n blank;
    }

-- an item takes the place of the first blank
pub pushed_on_blanks : {X : Type 0} (n k : ℕ) (blank item : X) (places : List X) → IsPadded n blank places k → k < n
    → IsPadded n blank (set places k item) (k + 1)
pushed_on_blanks n k blank item places h room =
    record {
      size = length-set places k item ∙ h.size;
      within = omega arith;
      rest = drop-set-lt (k + 1) places k item (omega arith) ∙ sym (drop-drop 1 k places) ∙ ap (λ l. drop 1 l) h.rest ∙ drop-replicate 1 (n - k) blank ∙ ap (λ m. replicate m blank) (omega arith);
    }

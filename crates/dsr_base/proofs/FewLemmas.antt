-- An item put at the end of a list of few.
use Rattle.std.proofs.Common.{ℕ, zero, suc, ◌+◌, ◌<◌, List, [], ◌∷◌, length, take, subst, arith, lt_irrefl}
use Rattle.std.proofs.Math.ListN.{set}
use Rattle.dsr_base.specs.Support.Few.{IsFew}
use Rattle.dsr_base.specs.Support.Padded.{length_items}
use Rattle.dsr_base.proofs.Padding.{pushed_on_blanks}

pub pushed_few : {X : Type 0} (n k : ℕ) (item : X) (places : List X) → IsFew n places k → length (take k places) < n → IsFew n (set places k item) (k + 1)
pushed_few n k item [] h room = absurd h
pushed_few n zero item (x ∷ xs) h room = absurd (lt_irrefl 0 h.0)
pushed_few n (suc k) item (x ∷ xs) h room =
    (omega arith, pushed_on_blanks n (suc k) x item (x ∷ xs) h.1 (subst (λ l. l < n) (length_items n (suc k) x (x ∷ xs) h.1) room))

-- What a reader of texts guarantees (this project).
use Rattle.std.specs.Prelude.{◌≡◌, ℕ, ◌↔◌, List, Option, Some}

-- the answer is the value that satisfies `is` and has the bytes as its text; it is `None` exactly if no value does
abbrev pub Reads : {X : Type 0} → (X → Type 0) → (X → List ℕ) → List ℕ → Option X → Type 0
Reads {X} is text bytes answer = (x : X) → (answer ≡ Some x) ↔ (is x × (bytes ≡ text x))

-- Parts of a text: what precedes a mark, within parentheses or without (this project). Parentheses are one level
-- deep: the first `)` ends them.
use Rattle.std.specs.Prelude.{◌≡◌, ◌≢◌, ℕ, Bool, true, false, ◌==◌, if◌then◌else◌, List, [], ◌∷◌, All}

-- the byte is nowhere in the text
abbrev pub IsAbsent : ℕ → List ℕ → Type 0
IsAbsent byte bytes = All (λ b. b ≢ byte) bytes

-- whether what follows the byte is in parentheses, given whether the byte is: `(` begins them, and `)` ends them
abbrev pub is_inside_with : Bool → ℕ → Bool
is_inside_with inside byte = if byte == 40 then true else (if byte == 41 then false else inside)

-- whether what follows the text is in parentheses, given whether its beginning is
abbrev pub is_inside_after : Bool → List ℕ → Bool
is_inside_after inside [] = inside
is_inside_after inside (b ∷ bs) = is_inside_after (is_inside_with inside b) bs

-- the mark is nowhere outside parentheses, given whether the text begins inside them
abbrev pub IsFree : ℕ → Bool → List ℕ → Type 0
IsFree mark inside [] = Unit {0}
IsFree mark inside (b ∷ bs) = (inside ≡ false → b ≢ mark) × IsFree mark (is_inside_with inside b) bs

-- a text that the mark can follow: it has no such mark outside parentheses, and ends outside them
pub record IsPart (mark : ℕ) (bytes : List ℕ) : Type 0 where
  pub free : IsFree mark false bytes
  pub closed : is_inside_after false bytes ≡ false

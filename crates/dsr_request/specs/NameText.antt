-- The names of registers (this project).
use Rattle.std.specs.Prelude.{ℕ, ◌<◌, ◌≤◌, List, length, Bool, ◌||◌, ◌&&◌, nat_le, ◌==◌, All, IsTrue}

-- a byte of `a-z`, `0-9`, `.`, `_` or `-`
abbrev pub is_name_byte : ℕ → Bool
is_name_byte b = (nat_le 97 b && nat_le b 122) || ((nat_le 48 b && nat_le b 57) || (b == 46 || (b == 95 || b == 45)))

-- 1 to 32 such bytes
pub record IsName (bytes : List ℕ) : Type 0 where
  pub some : 0 < length bytes
  pub few : length bytes ≤ 32
  pub allowed : All (λ b. IsTrue (is_name_byte b)) bytes

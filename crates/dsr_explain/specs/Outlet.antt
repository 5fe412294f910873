-- A text that goes out in parts (this project).
use Rattle.std.specs.Prelude.{◌≡◌, Bool, false, ℕ, List, [], ◌++◌, None}
use Rattle.dsr_names.specs.Streams.{Output, SentAll}

-- nothing is known of a sink but what it has taken: not its room, and not that it is steady
abbrev pub IsUnsure : Output → Type 0
IsUnsure output = (output.room ≡ None) × ¬ output.is_steady

-- the first part of a text went out, and the rest did not; nothing went out if it is to go out at once
pub record HasGoneOut (in_parts : Bool) (text rest : List ℕ) (before after : Output) : Type 0 where
  pub first : List ℕ
  pub went_out : SentAll first before after
  pub whole : text ≡ first ++ rest
  pub at_once : in_parts ≡ false → first ≡ []

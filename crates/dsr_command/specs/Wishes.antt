-- Definitions in private contracts about the words that the program reads without `clap`.
use Rattle.std.specs.Prelude.{◌&&◌, Bool, false, List, [], ◌∷◌, ℕ, Option, None, Some, codes, drop, nat_eq}
use Rattle.std.specs.List.{starts_with}
use Rattle.std.specs.Str.{bytes_eq, chars}
use Rattle.dsr_command.specs.Asked.{Asked, help, task, unknown}
use Rattle.dsr_command.specs.declared.Task.TheVariants.{Explain as explained}
use Rattle.dsr_command.specs.declared.narrowing.Wish.{Wish}
use Rattle.dsr_command.specs.declared.narrowing.Wish.TheVariants.{Explain, Help, Unknown}

-- what a wish asks for
abbrev pub asked_by : Wish → Asked
asked_by (Explain narrowing) = task (explained narrowing)
asked_by Help = help
asked_by Unknown = unknown

-- the first of the words; `None` for an empty list
abbrev pub first_of : List (List ℕ) → Option (List ℕ)
first_of [] = None
first_of (word ∷ rest) = Some word

-- the words begin with `explain`
abbrev pub is_for_explain : List (List ℕ) → Bool
is_for_explain [] = false
is_for_explain (word ∷ rest) = bytes_eq word (codes "explain")

-- the only word is `--version`
abbrev pub is_for_version : List (List ℕ) → Bool
is_for_version (word ∷ []) = bytes_eq word (codes "--version")
is_for_version _ = false

-- the word is a hyphen followed by characters that begin with `h`
abbrev pub is_short_help : List ℕ → Bool
is_short_help word = starts_with nat_eq word (codes "-") && starts_with nat_eq (chars (drop 1 word)) (codes "h")

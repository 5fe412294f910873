-- The texts that the program shows for words that ask for the version or the help, or are unknown (this project).
use Rattle.std.specs.Prelude.{◌≡◌, ◌++◌, ◌≤◌, List, ℕ, codes, length}

-- the version line: the program's version, and the logic in which it is proved
abbrev pub version_line : List ℕ
version_line = codes "dsr 1.0.0 (rattle logic dac8208d650f15bf)\n"

-- the first sentence of each help
abbrev pub title : List ℕ
title = codes "dsr keeps a directory of named registers, each free or holding a number."

-- the beginning of each text for unknown words
abbrev pub usage_title : List ℕ
usage_title = codes "error: "

-- the maximum length, in bytes, of a help or of a text for unknown words
abbrev pub most_shown : ℕ
most_shown = 4096

-- the text begins with `begin` and has at most `most_shown` bytes; the rest is open
pub record IsTitled (begin text : List ℕ) : Type 0 where
  pub rest : List ℕ
  pub is : text ≡ begin ++ rest
  pub short : length text ≤ most_shown

-- the text begins with the title of a help, and is short enough
abbrev pub IsHelp : List ℕ → Type 0
IsHelp text = IsTitled title text

-- the text begins with the title of a usage fault, and is short enough
abbrev pub IsUsage : List ℕ → Type 0
IsUsage text = IsTitled usage_title text

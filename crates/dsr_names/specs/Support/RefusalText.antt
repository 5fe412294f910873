-- What a refusal's text has after its words (this project).
use Rattle.std.specs.Prelude.{ℕ, List, [], Option, None, Some}
use Rattle.std.specs.Fmt.{decimal}

-- the end of a refusal's text: the number of a line, or nothing if the refusal does not name one
abbrev pub line_text : Option ℕ → List ℕ
line_text None = []
line_text (Some line) = decimal line

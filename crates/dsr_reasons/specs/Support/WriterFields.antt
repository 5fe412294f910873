-- How the fields of a writer represent all that was put into it. No public contract cites this (this project).
use Rattle.std.specs.Prelude.{◌≡◌, ◌++◌, ◌∷◌, [], false, ℕ, List, string_bytes}
use Rattle.std.specs.Fmt.{decimal}
use Rattle.std.specs.declared.string.String.{String}
use Rattle.dsr_reasons.specs.declared.writer.Piece.{Piece}
use Rattle.dsr_reasons.specs.declared.writer.Piece.TheVariants.{Text, Char, Number, Register, Shown}
use Rattle.dsr_reasons.specs.declared.writer.Writer.TheInside.{Inside}

-- what a piece is; `text` is noted with it
abbrev pub piece_text : Piece → List ℕ → List ℕ
piece_text (Text word) text = word.now
piece_text (Char character) text = character ∷ []
piece_text (Number number) text = decimal number
piece_text (Register name) text = name
piece_text Shown text = text

-- what these pieces are, one after another
abbrev pub pieces_text : {A : Type 0} → List (Piece × String A) → List ℕ
pieces_text [] = []
pieces_text ((piece, text) ∷ more) = piece_text piece (string_bytes text) ++ pieces_text more

-- all that was put into it
abbrev pub put_in : Inside → List ℕ
put_in writer = pieces_text writer.pieces.items

-- unless memory ran out, its text is all that was put
abbrev pub IsWhole : Inside → Type 0
IsWhole writer = writer.is_broken ≡ false → string_bytes writer.text ≡ pieces_text writer.pieces.items

-- Texts that are a header and then lines (this project): serve scripts and plays. Lines are listed newest first: the last line is the
-- first of the list.
use Rattle.std.specs.Prelude.{◌≡◌, ◌≢◌, ◌⊎◌, ℕ, ◌+◌, List, [], ◌∷◌, ◌++◌, length}
use Rattle.dsr_names.specs.Shape.{Shape, IsAllowed}
use Rattle.dsr_names.specs.declared.refusal.Refusal.{Refusal}
use Rattle.dsr_names.specs.declared.refusal.Refusal.TheVariants.{BadShape, BadText, NoMemory}
use Rattle.dsr_text.specs.Header.{BeginsWithHeader, HasNoHeader, HasBadShape}

-- a kind of text: its title, the text of a line without its line feed, the lines that a text can write, and those that can follow
-- earlier lines in a text with this shape
pub record TextKind (Line : Type 0) : Type 1 where
  pub title : List ℕ
  pub line_text : Line → List ℕ
  pub IsLine : Line → Type 0
  pub CanFollow : Shape → List Line → Line → Type 0

-- the text of lines, each with its line feed
abbrev pub lines_text : {Line : Type 0} → TextKind Line → List Line → List ℕ
lines_text kind [] = []
lines_text kind (line ∷ earlier) = lines_text kind earlier ++ (kind.line_text line ++ 10 ∷ [])

-- a line that can be the next one: a text can write it, and it can follow the earlier ones
pub record IsNext {Line : Type 0} (kind : TextKind Line) (shape : Shape) (earlier : List Line) (line : Line) : Type 0 where
  pub is_line : kind.IsLine line
  pub follows : kind.CanFollow shape earlier line

-- each line can be the next one after those before it
abbrev pub AreLines : {Line : Type 0} → TextKind Line → Shape → List Line → Type 0
AreLines kind shape [] = Unit {0}
AreLines kind shape (line ∷ earlier) = IsNext kind shape earlier line × AreLines kind shape earlier

-- the text after a header with this shape is these lines, then the rest; each line can follow those before it
pub record BeginsWithLines {Line : Type 0} (kind : TextKind Line) (text : List ℕ) (shape : Shape) (lines : List Line) (rest : List ℕ)
    : Type 0 where
  pub each : AreLines kind shape lines
  pub cut : text ≡ lines_text kind lines ++ rest

-- the rest does not begin with a line that can be the next one
abbrev pub HasNoNext : {Line : Type 0} → TextKind Line → Shape → List Line → List ℕ → Type 0
HasNoNext {Line} kind shape earlier rest =
    (line : Line) (after : List ℕ) → IsNext kind shape earlier line → rest ≡ (kind.line_text line ++ 10 ∷ []) ++ after → ⊥

-- the first bad line of the text after a header with this shape has this number, counted from 1 with the header: after good lines
-- comes a rest that is not empty, and does not begin with a line that can be the next one
pub record IsBadAfter {Line : Type 0} (kind : TextKind Line) (shape : Shape) (text : List ℕ) (number : ℕ) : Type 0 where
  pub lines : List Line
  pub rest : List ℕ
  pub begins : BeginsWithLines kind text shape lines rest
  pub some : rest ≢ []
  pub none : HasNoNext kind shape lines rest
  pub counted : number ≡ length lines + 2

-- the first bad line of the text has this number, and comes after the header
pub record IsBadLater {Line : Type 0} (kind : TextKind Line) (text : List ℕ) (number : ℕ) : Type 0 where
  pub shape : Shape
  pub after : List ℕ
  pub header : BeginsWithHeader kind.title text shape after
  pub allowed : IsAllowed shape
  pub bad : IsBadAfter kind shape after number

-- the first bad line of the text has this number: 1 if the text does not begin with a header, else that of a later line
abbrev pub IsBadLine : {Line : Type 0} → TextKind Line → List ℕ → ℕ → Type 0
IsBadLine kind text number = ((number ≡ 1) × HasNoHeader kind.title text) ⊎ IsBadLater kind text number

-- what each refusal says about the text: the header's shape is outside the limits, whatever follows it; which line is the first
-- bad one; nothing, if memory ran out; no other refusal comes
abbrev pub IsTextRefusal : {Line : Type 0} → TextKind Line → List ℕ → Refusal → Type 0
IsTextRefusal kind text BadShape = HasBadShape kind.title text
IsTextRefusal kind text (BadText number) = IsBadLine kind text number
IsTextRefusal kind text NoMemory = Unit {0}
IsTextRefusal kind text other = ⊥

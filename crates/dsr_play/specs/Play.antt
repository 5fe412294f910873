-- Plays as contracts see them, and the texts from which they are read (this project).
use Rattle.std.specs.Prelude.{◌≡◌, ℕ, List, []}
use Rattle.dsr_names.specs.Shape.{Shape, IsAllowed}
use Rattle.dsr_names.specs.declared.refusal.Refusal.{Refusal}
use Rattle.dsr_text.specs.Header.{BeginsWithHeader}
use Rattle.dsr_text.specs.Lines.{BeginsWithLines, IsTextRefusal}
use Rattle.dsr_play.specs.declared.event.Event.{Event}
use Rattle.dsr_play.specs.declared.play_line.PlayLine.{PlayLine}
use Rattle.dsr_play.specs.PlayText.{all_events, plays}

-- a shape, and the events that are to happen in a world of that shape, in order
pub record Play : Type 0 where
  pub shape : Shape
  pub events : List Event

-- the text is that of the play: a header with the play's shape, which is allowed, and lines
-- which represent the play's events
pub record Spells (text : List ℕ) (play : Play) : Type 0 where
  pub after : List ℕ
  pub header : BeginsWithHeader plays.title text play.shape after
  pub allowed : IsAllowed play.shape
  pub lines : List PlayLine
  pub begins : BeginsWithLines plays after play.shape lines []
  pub events : play.events ≡ all_events play.shape lines

-- what each refusal says about the text
abbrev pub IsPlayRefusal : List ℕ → Refusal → Type 0
IsPlayRefusal = IsTextRefusal plays

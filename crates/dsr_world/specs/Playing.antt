-- Plays that are played as their text is read (this project).
use Rattle.std.specs.Prelude.{◌≡◌, ℕ, List, []}
use Rattle.dsr_names.specs.Shape.{Shape}
use Rattle.dsr_play.specs.Play.{Play, Spells}
use Rattle.dsr_run.specs.Step.{Step}
use Rattle.dsr_world.specs.Outcome.{HasEnded}
use Rattle.dsr_world.specs.declared.run_end.RunEnd.{RunEnd}

-- the text is that of a play of this shape, whose events made this run of a new stage and ended like this
pub record WasPlayed (text : List ℕ) (shape : Shape) (run : List Step) (end : RunEnd) : Type 0 where
  pub play : Play
  pub spells : Spells text play
  pub shape_is : play.shape ≡ shape
  pub ended : HasEnded shape run [] play.events end

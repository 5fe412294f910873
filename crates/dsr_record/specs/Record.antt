-- Records of runs as contracts see them (this project).
use Rattle.std.specs.Prelude.{List}
use Rattle.dsr_names.specs.Shape.{Shape}
use Rattle.dsr_run.specs.Step.{Step}
use Rattle.dsr_record.specs.declared.version.Version.{Version}

-- the version of its transcript, a shape, and steps in one order, newest first; whether they are a run is another question
pub record Record : Type 0 where
  pub version : Version
  pub shape : Shape
  pub run : List Step

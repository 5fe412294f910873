-- How a history, of which only the letter that was taken last is stored, represents steps (this project).
use Rattle.std.specs.Prelude.{◌≡◌, List, map, reverse}
use Rattle.dsr_envelope.specs.declared.envelope.Envelope.{Envelope}
use Rattle.dsr_envelope.specs.declared.entry.Entry.TheVariants.{Post as PostEntry, Take as TakeEntry}
use Rattle.dsr_run.specs.Step.{Step}
use Rattle.dsr_world.specs.Stage.{last_taken}
use Rattle.dsr_world.specs.declared.steps.Act.{Act}
use Rattle.dsr_world.specs.declared.steps.Act.TheVariants.{Post, Take}
use Rattle.dsr_world.specs.declared.steps.Steps.TheInside.{Inside}

-- the step of an act with this envelope
abbrev pub step_of_act : Act × Envelope → Step
step_of_act (Post from to, x) = (from, PostEntry to x)
step_of_act (Take at from, x) = (at, TakeEntry from x)

-- the steps, newest first
abbrev pub steps_of : Inside → List Step
steps_of a = reverse (map step_of_act a.log.items)

-- the letter that is stored is the one that was taken last
abbrev pub HoldsLastTaken : Inside → Type 0
HoldsLastTaken a = a.taken ≡ last_taken (steps_of a)

use Rattle.std.proofs.Common.{◌≡◌, ◌++◌, ◌+◌, ◌≤◌, ℕ, List, false}
use Rattle.std.specs.Prelude.{take}
use Rattle.dsr_names.specs.declared.refusal.Refusal.TheVariants.{NoMemory}
use Rattle.dsr_explain.specs.Outlet.{HasGoneOut}
use Rattle.dsr_explain.specs.Told.{HasBrokenOff, TellsEvents}
use Rattle.dsr_explain.proofs.story.Story.tell_events.Given as goal

-- the text has the events before this one, and some of it has gone out
abbrev pub invariant-loop-place : goal.invariant-loop-place
invariant-loop-place g l =
    let first = l.initial.self in
    ((told : List ℕ) × TellsEvents first.wanted 0 first.stage.shape l.self.stage.run first.stage.run (take l.place l.events) told
    × HasGoneOut first.outflow.in_parts (first.out ++ told) l.self.out (g.K.Sink.output l.initial.sink) (g.K.Sink.output l.sink))
    × HasBrokenOff first.wanted first.stage.shape first.stage.run l.events first.out NoMemory (g.K.Sink.output l.initial.sink) (g.K.Sink.output l.sink)
    × (first.outflow.in_parts ≡ false → l.sink ≡ l.initial.sink)
    × (l.self.wanted ≡ first.wanted) × (l.self.stage.shape ≡ first.stage.shape) × (l.self.outflow.in_parts ≡ first.outflow.in_parts)
    × ((g.K.Sink.output l.sink).calls + l.self.outflow.calls ≤ (g.K.Sink.output l.initial.sink).calls + first.outflow.calls)

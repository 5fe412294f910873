-- How a story begins, and goes on with an event; no public contract cites this (this project).
use Rattle.std.specs.Prelude.{◌≡◌, ℕ, List, [], ◌++◌, Result, OnOk}
use Rattle.dsr_names.specs.Shape.{Shape}
use Rattle.dsr_names.specs.declared.refusal.Refusal.{Refusal}
use Rattle.dsr_play.specs.declared.event.Event.{Event}
use Rattle.dsr_explain.specs.Told.{TellsEvent, first_line}
use Rattle.dsr_explain.specs.declared.outlet.Outflow.{Outflow}
use Rattle.dsr_explain.specs.declared.story.Story.{Story}
use Rattle.dsr_explain.specs.declared.wanted.Wanted.{Wanted}

-- a story before any event
pub record HasBegun (filter : Wanted) (form : Shape) (flow : Outflow) (story : Story) : Type 0 where
  pub out : story.out ≡ first_line filter.data form
  pub wanted : story.wanted ≡ filter
  pub shape : story.stage.shape ≡ form
  pub empty : story.stage.run ≡ []
  pub outflow : story.outflow ≡ flow

-- how the event with this number changes the story: unless memory runs out, the text about the event is appended; the filter, the outflow and the shape stay
-- the same
pub record GoesOn {T : Type 0} (number : ℕ) (event : Event) (result : Result T Refusal) (before after : Story) : Type 0 where
  pub told : OnOk result ((told : List ℕ)
      × TellsEvent before.wanted number before.stage.shape after.stage.run before.stage.run event told
      × (after.out ≡ before.out ++ told))
  pub wanted : after.wanted ≡ before.wanted
  pub outflow : after.outflow ≡ before.outflow
  pub shape : after.stage.shape ≡ before.stage.shape

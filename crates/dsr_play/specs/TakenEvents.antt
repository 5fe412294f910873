-- What a taker of events took (this project).
use Rattle.std.specs.Prelude.{List, ◌++◌}
use Rattle.dsr_play.specs.declared.event.Event.{Event}

-- after it took the earlier events it also took these
abbrev pub TakesMore : {Taker : Type 0} → (Taker → List Event → Type 0) → Taker → Taker → List Event → Type 0
TakesMore took old new more = (events : List Event) → took old events → took new (events ++ more)

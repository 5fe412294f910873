-- The slot and the word of the box from one actor to another (this project).
use Rattle.std.specs.Prelude.{◌≡◌, ℕ, ◌+◌, ◌*◌}
use Rattle.atomic_table.specs.Seated.{TableId}
use Rattle.dsr_names.specs.Places.{size, place_of}
use Rattle.dsr_names.specs.Shape.{Shape}
use Rattle.dsr_names.specs.declared.actor.Actor.{Actor}

-- the slot of the box: each actor's boxes to all actors follow one another, in order of the places of both
abbrev pub slot_of : Shape → Actor → Actor → ℕ
slot_of shape from to = place_of shape from * size shape + place_of shape to

-- the word of the box: the first four words hold the shape
abbrev pub word_of : Shape → Actor → Actor → ℕ
word_of shape from to = 4 + slot_of shape from to

-- the table has a slot and a word for each box, and four words more; and there is a note for each actor that may sleep
abbrev pub IsSized : Shape → TableId → ℕ → Type 0
IsSized shape id sleepers = (id.words ≡ 4 + size shape * size shape) × (id.slots ≡ size shape * size shape) × (sleepers ≡ size shape)

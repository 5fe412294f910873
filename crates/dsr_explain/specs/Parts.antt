-- The parts of a line. No public contract cites this (this project).
use Rattle.std.specs.Prelude.{ℕ, List, [], ◌∷◌, ◌++◌}
use Rattle.std.specs.Fmt.{decimal}
use Rattle.dsr_names.specs.Actor.{actor_text}
use Rattle.dsr_explain.specs.declared.parts.Part.{Part}
use Rattle.dsr_explain.specs.declared.parts.Part.TheVariants.{Text, Number, Name}

-- what a part is
abbrev pub part_text : Part → List ℕ
part_text (Text text) = text.now
part_text (Number number) = decimal number
part_text (Name actor) = actor_text actor

-- what these parts are, one after another
abbrev pub parts_text : List Part → List ℕ
parts_text [] = []
parts_text (last ∷ []) = part_text last
parts_text (part ∷ (next ∷ more)) = part_text part ++ parts_text (next ∷ more)

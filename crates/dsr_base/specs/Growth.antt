-- Lists that grow.
use Rattle.std.specs.Prelude.{◌≡◌, List, ◌++◌}

-- the later list begins with the earlier one: both are listed oldest first
abbrev pub IsPrefixOf : {A : Type 0} → List A → List A → Type 0
IsPrefixOf {A} earlier later = (more : List A) × (later ≡ earlier ++ more)

-- the later list is the earlier one with newer items: both are listed newest first
abbrev pub Extends : {A : Type 0} → List A → List A → Type 0
Extends {A} later earlier = (newer : List A) × (later ≡ newer ++ earlier)

-- When `==` holds for two lists of signers: exactly if they are equal.
use Rattle.std.specs.Prelude.{◌≡◌, List, Bool}
use Rattle.std.specs.Bool.{Decides}
use Rattle.std.specs.Cmp.Lexicographic.{pointwise}
use Rattle.dsr_base.specs.Support.Equality.{equal_lists}
use Rattle.dsr_names.specs.Support.ActorEquality.{actor_eq, actor_eq-Decides}
use Rattle.dsr_names.specs.declared.actor.Actor.{Actor}

-- whether `==` holds for two lists of signers
abbrev pub signers_eq : List Actor → List Actor → Bool
signers_eq = pointwise actor_eq

-- it holds exactly for equal lists
pub signers_eq-Decides : (xs ys : List Actor) → Decides (signers_eq xs ys) (xs ≡ ys)
signers_eq-Decides xs ys = equal_lists actor_eq-Decides xs ys

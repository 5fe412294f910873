-- How texts write a list of signers (this project): `r0+r1`, or `-` if the list is empty.
use Rattle.std.specs.Prelude.{ℕ, List}
use Rattle.dsr_base.specs.Joined.{joined_or_dash, AreUpTo}
use Rattle.dsr_names.specs.Actor.{actor_text, IsNumbered}
use Rattle.dsr_names.specs.declared.actor.Actor.{Actor}

-- actors joined by plus signs, or a dash if the list is empty
abbrev pub signers_text : List Actor → List ℕ
signers_text = joined_or_dash 43 actor_text

-- at most 16 actors that can be named
abbrev pub IsSigners : List Actor → Type 0
IsSigners = AreUpTo IsNumbered 16

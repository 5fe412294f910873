-- What a host does after its work has ended. No public contract cites this.
use Rattle.std.specs.Prelude.{◌≡◌, Bool, false, Option, None, Some, IsSome}
use Rattle.dsr_rounds.specs.declared.end.End.{End}
use Rattle.dsr_rounds.specs.declared.end.End.TheVariants.{Told, Fault}
use Rattle.dsr_rounds.specs.declared.stop.Told.{Told as WasTold}

-- a host that a refusal ended told the others to stop, whatever its seat; a host that its service told to stop did not, nor did a replica's
-- or traitor's host that did its work
abbrev pub HasTold : Bool → Option End → Option WasTold → Type 0
HasTold is_client (Some (Fault refusal)) told = IsSome told
HasTold is_client (Some Told) told = told ≡ None
HasTold is_client None told = is_client ≡ false → told ≡ None

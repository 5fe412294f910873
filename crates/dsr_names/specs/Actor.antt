-- Actors as contracts see them: a replica or a client by its number (this project).
use Rattle.std.specs.Prelude.{ℕ, ◌<◌, List, ◌++◌, codes}
use Rattle.std.specs.Fmt.{decimal}
use Rattle.dsr_names.specs.declared.actor.Actor.{Actor}
use Rattle.dsr_names.specs.declared.actor.Actor.TheVariants.{Replica, Client}

-- an actor that can be named: a replica below 16, or a client below 32
abbrev pub IsNumbered : Actor → Type 0
IsNumbered (Replica r) = r < 16
IsNumbered (Client c) = c < 32

-- the token of a replica: `r`, and its number
abbrev pub replica_text : ℕ → List ℕ
replica_text r = codes "r" ++ decimal r

-- the token of a client: `c`, and its number
abbrev pub client_text : ℕ → List ℕ
client_text c = codes "c" ++ decimal c

-- the token of an actor: that of a replica, or `c` and the client's number
abbrev pub actor_text : Actor → List ℕ
actor_text (Replica r) = replica_text r
actor_text (Client c) = codes "c" ++ decimal c

-- Logs: what an actor posted and took, the newest entry first; and what a loyal replica does next (this project, on the
-- premise of Dolev and Strong 1983 that replicas receive each round's messages before the round ends).
use Rattle.std.specs.Prelude.{ℕ, suc, ◌-◌, ◌==◌, List, [], ◌∷◌, ◌++◌, length, if◌then◌else◌}
use Rattle.dsr_names.specs.Shape.{Shape}
use Rattle.dsr_names.specs.declared.actor.Actor.{Actor}
use Rattle.dsr_names.specs.declared.actor.Actor.TheVariants.{Replica, Client}
use Rattle.dsr_names.specs.Support.ActorEquality.{actor_eq}
use Rattle.dsr_envelope.specs.declared.envelope.Envelope.{Envelope}
use Rattle.dsr_envelope.specs.declared.entry.Entry.{Entry}
use Rattle.dsr_envelope.specs.declared.entry.Entry.TheVariants.{Post, Take}
use Rattle.dsr_envelope.specs.declared.due.Due.{Due}
use Rattle.dsr_envelope.specs.declared.due.Due.TheVariants.{Post as PostTo, Take as TakeFrom}

-- what was posted to this actor, the oldest first
abbrev pub posted_to : Actor → List Entry → List Envelope
posted_to a [] = []
posted_to a (Post to envelope ∷ older) = if actor_eq to a then posted_to a older ++ envelope ∷ [] else posted_to a older
posted_to a (Take from envelope ∷ older) = posted_to a older

-- what was taken from this actor, the oldest first
abbrev pub taken_from : Actor → List Entry → List Envelope
taken_from a [] = []
taken_from a (Post to envelope ∷ older) = taken_from a older
taken_from a (Take from envelope ∷ older) = if actor_eq from a then taken_from a older ++ envelope ∷ [] else taken_from a older

-- what is due with the replicas: posts to the replicas 0 to n-1, then takes from the replicas 0 to n-1, and so on
abbrev pub due : Shape → List Entry → Due
due shape [] = PostTo 0
due shape (Post (Replica q) envelope ∷ older) = if suc q == shape.n then TakeFrom 0 else PostTo (suc q)
due shape (Post (Client c) envelope ∷ older) = due shape older
due shape (Take (Replica p) envelope ∷ older) = if suc p == shape.n then PostTo 0 else TakeFrom (suc p)
due shape (Take (Client c) envelope ∷ older) = due shape older

-- the number of closed rounds: each take from the last replica closes one
abbrev pub rounds : Shape → List Entry → ℕ
rounds shape log = length (taken_from (Replica (shape.n - 1)) log)

-- Why the tokens of actors can be joined by a plus: none has one in it, and none begins like a dash.
use Rattle.std.proofs.Common.{ℕ, ◌<◌, arith, lit<, lit≤, get_or}
use Rattle.dsr_base.specs.Split.{IsPart}
use Rattle.dsr_base.proofs.Outside.{lettered_part}
use Rattle.dsr_names.specs.Actor.{IsNumbered, actor_text, client_text, replica_text}
use Rattle.dsr_names.specs.declared.actor.Actor.{Actor}
use Rattle.dsr_names.specs.declared.actor.Actor.TheVariants.{Replica, Client}

pub replica_part : (r : ℕ) → r < 16 → IsPart 43 (replica_text r)
replica_part r small = lettered_part 43 114 r (lit< tt) (lit≤ tt) (omega (arith, small))

pub client_part : (c : ℕ) → c < 32 → IsPart 43 (client_text c)
client_part c small = lettered_part 43 99 c (lit< tt) (lit≤ tt) (omega (arith, small))

pub actor_part : (a : Actor) → IsNumbered a → IsPart 43 (actor_text a)
actor_part (Replica r) small = replica_part r small
actor_part (Client c) small = client_part c small

pub actor_begun : (a : Actor) → IsNumbered a → 45 < get_or (actor_text a) 0 0
actor_begun (Replica r) small = lit< tt
actor_begun (Client c) small = lit< tt

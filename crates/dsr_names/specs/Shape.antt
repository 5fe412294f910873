-- Shapes: who takes part, and who of them may be a traitor (the setting of Dolev and Strong 1983: n processors,
-- at most f of them traitors; the clients are this project's).
use Rattle.std.specs.Prelude.{◌≡◌, ℕ, ◌*◌, ◌^◌, ◌%◌, ◌<◌, ◌≤◌, Bool, false}
use Rattle.dsr_base.specs.Bits.{is_bit_set, count_below}
use Rattle.dsr_names.specs.declared.actor.Actor.{Actor}
use Rattle.dsr_names.specs.declared.actor.Actor.TheVariants.{Replica, Client}

-- n replicas, at most f traitors among them, m clients; bit i of `traitors` says that replica i is a traitor
pub record Shape : Type 0 where
  pub n : ℕ
  pub f : ℕ
  pub m : ℕ
  pub traitors : ℕ

-- the shape with these four
abbrev pub shape_of : ℕ → ℕ → ℕ → ℕ → Shape
shape_of n f m traitors = record { n = n; f = f; m = m; traitors = traitors }

-- whether the shape's bits say that this replica is a traitor
abbrev pub is_traitor : Shape → ℕ → Bool
is_traitor shape p = is_bit_set shape.traitors p

-- the number of the replica that sends in a slot: the replicas send in turn (this project)
abbrev pub sender : Shape → ℕ → ℕ
sender shape slot = slot % shape.n

-- at most f of the replicas are traitors
abbrev pub HasFewTraitors : Shape → Type 0
HasFewTraitors shape = count_below (is_traitor shape) shape.n ≤ shape.f

-- a shape within the limits: 1 to 16 replicas, more than twice as many as the traitors that it allows; 1 to 32
-- clients; only replicas are traitors, and at most f of them
pub record IsAllowed (shape : Shape) : Type 0 where
  pub some_replica : 0 < shape.n
  pub few_replicas : shape.n ≤ 16
  pub most_loyal : 2 * shape.f < shape.n
  pub some_client : 0 < shape.m
  pub few_clients : shape.m ≤ 32
  pub replicas_alone : shape.traitors < 2 ^ shape.n
  pub few_traitors : HasFewTraitors shape

-- an actor of the shape: a replica below n, or a client below m
abbrev pub IsActor : Shape → Actor → Type 0
IsActor shape (Replica r) = r < shape.n
IsActor shape (Client c) = c < shape.m

-- an actor of the shape that is not a traitor; all clients are loyal
abbrev pub IsLoyal : Shape → Actor → Type 0
IsLoyal shape (Replica r) = (r < shape.n) × (is_traitor shape r ≡ false)
IsLoyal shape (Client c) = c < shape.m

-- two shapes agree, except perhaps in who the traitors are (this project)
pub record AgreeButForTraitors (shape other : Shape) : Type 0 where
  pub replicas : shape.n ≡ other.n
  pub most_traitors : shape.f ≡ other.f
  pub clients : shape.m ≡ other.m

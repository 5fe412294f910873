-- What an explanation says of who waits for whom when the play ends (this project).
use Rattle.std.specs.Prelude.{◌≡◌, ℕ, zero, suc, ◌&&◌, not, Bool, true, false, List, [], ◌++◌, Option, None, Some}
use Rattle.std.specs.Option.{is_none}
use Rattle.dsr_names.specs.Shape.{Shape, is_traitor}
use Rattle.dsr_names.specs.Support.ActorEquality.{actor_eq}
use Rattle.dsr_names.specs.declared.actor.Actor.{Actor}
use Rattle.dsr_names.specs.declared.actor.Actor.TheVariants.{Replica, Client}
use Rattle.dsr_run.specs.Step.{Logs}
use Rattle.dsr_notes.specs.End.{IsNextOf}
use Rattle.dsr_notes.specs.declared.next.Next.{Next}
use Rattle.dsr_explain.specs.Waiting.{next_line, waits_line}
use Rattle.dsr_explain.specs.declared.wanted.Wanted.{Wanted}

-- whether it is wanted for whom this actor waits: if no actor is wanted, it is so of all, unless a slot or only refused events are wanted
abbrev pub is_waited : Option Actor → Bool → Actor → Bool
is_waited None all actor = all
is_waited (Some wanted) all actor = actor_eq wanted actor

abbrev pub wants_wait : Wanted → Actor → Bool
wants_wait wanted actor = is_waited wanted.actor (is_none wanted.slot && not wanted.refused) actor

-- the line of what a loyal replica does next; none of a traitor, and none if it is not wanted
pub record IsWaitOfReplica (wanted : Wanted) (shape : Shape) (logs : Logs) (p : ℕ) (text : List ℕ) : Type 0 where
  pub told : wants_wait wanted (Replica p) ≡ true → is_traitor shape p ≡ false
      → (next : Next) × IsNextOf shape logs p next × (text ≡ next_line wanted.data p next)
  pub traitor : is_traitor shape p ≡ true → text ≡ []
  pub unwanted : wants_wait wanted (Replica p) ≡ false → text ≡ []

-- in words the line of what a client with an outstanding request waits for; none if data are wanted, or if it is not wanted
pub record IsWaitOfClient (wanted : Wanted) (shape : Shape) (logs : Logs) (c : ℕ) (text : List ℕ) : Type 0 where
  pub told : wanted.data ≡ false → wants_wait wanted (Client c) ≡ true → text ≡ waits_line shape logs c
  pub as_data : wanted.data ≡ true → text ≡ []
  pub unwanted : wants_wait wanted (Client c) ≡ false → text ≡ []

-- the texts of the actors below a number, one after the other, each with what `is` says of it
abbrev pub AreBelow : (ℕ → List ℕ → Type 0) → ℕ → List ℕ → Type 0
AreBelow is zero text = text ≡ []
AreBelow is (suc k) text = (before : List ℕ) × (last : List ℕ) × AreBelow is k before × is k last × (text ≡ before ++ last)

-- the lines of all replicas, and then of all clients
pub record TellsWaits (wanted : Wanted) (shape : Shape) (logs : Logs) (text : List ℕ) : Type 0 where
  pub replicas : List ℕ
  pub clients : List ℕ
  pub of_replicas : AreBelow (IsWaitOfReplica wanted shape logs) shape.n replicas
  pub of_clients : AreBelow (IsWaitOfClient wanted shape logs) shape.m clients
  pub told : text ≡ replicas ++ clients

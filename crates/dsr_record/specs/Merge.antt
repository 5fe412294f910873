-- How the logs of all actors are merged into one order (this project): again and again the next entry of the lowest actor whose next entry
-- can go on.
use Rattle.std.specs.Prelude.{◌≡◌, ℕ, ◌+◌, ◌<◌, List, [], ◌∷◌, ◌++◌, length}
use Rattle.dsr_names.specs.Places.{place_of}
use Rattle.dsr_names.specs.Shape.{Shape, IsActor}
use Rattle.dsr_names.specs.declared.actor.Actor.{Actor}
use Rattle.dsr_names.specs.declared.refusal.Refusal.{Refusal}
use Rattle.dsr_names.specs.declared.refusal.Refusal.TheVariants.{NoMemory, NotARun}
use Rattle.dsr_envelope.specs.declared.entry.Entry.{Entry}
use Rattle.dsr_run.specs.Run.{KeepsBox}
use Rattle.dsr_run.specs.Step.{Step, Logs, log_of}

-- the actor's next entry: the one that its log got after those of its entries that are merged
abbrev pub IsNextOf : Logs → List Step → Actor → Entry → Type 0
IsNextOf logs merged actor entry = (later : List Entry) × (logs actor ≡ later ++ entry ∷ log_of merged actor)

-- the actor's next entry can go on: a post if its box is empty, a take if its box holds that envelope
pub record CanGoOn (logs : Logs) (merged : List Step) (actor : Actor) : Type 0 where
  pub entry : Entry
  pub next : IsNextOf logs merged actor entry
  pub box : KeepsBox (log_of merged) actor entry

-- it is the actor's turn: of those whose next entry can go on, it is the lowest, replicas before clients
pub record HasTurn (shape : Shape) (logs : Logs) (merged : List Step) (actor : Actor) : Type 0 where
  pub is_actor : IsActor shape actor
  pub can : CanGoOn logs merged actor
  pub lowest : (lower : Actor) → IsActor shape lower → place_of shape lower < place_of shape actor → ¬ CanGoOn logs merged lower

-- the steps, newest first, merge the logs as far as they go: each is the next entry of the actor whose turn it was
abbrev pub IsMerge : Shape → Logs → List Step → Type 0
IsMerge shape logs [] = Unit {0}
IsMerge shape logs ((actor, entry) ∷ older) = IsMerge shape logs older × HasTurn shape logs older actor × IsNextOf logs older actor entry

-- each log is merged whole
abbrev pub IsWhole : Logs → List Step → Type 0
IsWhole logs merged = (actor : Actor) → log_of merged actor ≡ logs actor

-- nobody's next entry can go on
abbrev pub IsStuck : Shape → Logs → List Step → Type 0
IsStuck shape logs merged = (actor : Actor) → IsActor shape actor → ¬ CanGoOn logs merged actor

-- the merge of the logs stops if somebody has a next entry and nobody's can go on: at this line of a transcript, whose header is line 1
pub record StopsAt (shape : Shape) (logs : Logs) (line : ℕ) : Type 0 where
  pub merged : List Step
  pub merge : IsMerge shape logs merged
  pub stuck : IsStuck shape logs merged
  pub actor : Actor
  pub is_actor : IsActor shape actor
  pub entry : Entry
  pub next : IsNextOf logs merged actor entry
  pub counted : line ≡ length merged + 2

-- what each refusal says about the logs: the line at which their merge stops; nothing, if memory ran out; no other refusal comes
abbrev pub IsMergeRefusal : Shape → Logs → Refusal → Type 0
IsMergeRefusal shape logs (NotARun line) = StopsAt shape logs line
IsMergeRefusal shape logs NoMemory = Unit {0}
IsMergeRefusal shape logs other = ⊥

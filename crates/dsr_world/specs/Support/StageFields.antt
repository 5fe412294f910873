-- How the fields of a stage represent it (this project).
use Rattle.std.specs.Prelude.{◌≡◌, ◌↔◌, ℕ, zero, suc, ◌+◌, ◌++◌, ◌∷◌, ◌<◌, Bool, true, false, [], List, Option, None, Some, Any, if◌then◌else◌, length, slice_index_or, slice_set}
use Rattle.dsr_names.specs.Places.{place_of}
use Rattle.dsr_names.specs.Shape.{Shape, is_traitor, IsActor, IsLoyal}
use Rattle.dsr_names.specs.declared.actor.Actor.{Actor}
use Rattle.dsr_names.specs.declared.actor.Actor.TheVariants.{Replica, Client}
use Rattle.dsr_names.specs.declared.refusal.Refusal.{Refusal}
use Rattle.dsr_names.specs.declared.refusal.Refusal.TheVariants.{Exhausted, BoxFull}
use Rattle.dsr_desk.specs.Signature.{Signature}
use Rattle.dsr_envelope.specs.declared.envelope.Envelope.{Envelope}
use Rattle.dsr_envelope.specs.Log.{posted_to, taken_from}
use Rattle.dsr_world.specs.Event.{is_full, is_used_up}
use Rattle.dsr_run.specs.Known.{AreKeys, KnowsAll}
use Rattle.dsr_run.specs.Run.{IsRun}
use Rattle.dsr_run.specs.Step.{Step, Logs, log_of}
use Rattle.dsr_base.specs.Boxes.{AreSquare, box_at}
use Rattle.dsr_world.specs.Support.Boxes.{IsBoxOf}
use Rattle.dsr_node.specs.Node.{Plays}
use Rattle.dsr_world.specs.Stage.{Stage}
use Rattle.dsr_base.specs.declared.boxes.MailBox.{MailBox}
use Rattle.dsr_node.specs.declared.node.Node.{Node}
use Rattle.dsr_world.specs.declared.stage.Stage.TheInside.{Inside}

-- there is a node for each actor of the shape, at its place, which plays it
pub record ArePlayed (shape : Shape) (logs : Logs) (nodes : List Node) : Type 0 where
  pub count : length nodes ≡ shape.n + shape.m
  pub each : (who : Actor) → IsActor shape who → (d : Node) → Plays shape who (logs who) (slice_index_or nodes (place_of shape who) d)

-- the boxes are as the logs have left them
pub record AreBoxes (shape : Shape) (logs : Logs) (rows : List (List (MailBox Envelope))) : Type 0 where
  pub square : AreSquare (shape.n + shape.m) rows
  pub each : (from to : Actor) → IsActor shape from → IsActor shape to
      → IsBoxOf (box_at rows (place_of shape from) (place_of shape to)) (posted_to to (logs from)) (taken_from from (logs to))

-- the parts of a stage represent a run: the nodes, the boxes, the traitors' keys, and the known signatures
pub record AreParts (shape : Shape) (run : List Step) (nodes : List Node) (rows : List (List (MailBox Envelope))) (keys : List Actor) (known : List Signature) : Type 0 where
  pub is_run : IsRun shape run
  pub played : ArePlayed shape (log_of run) nodes
  pub boxes : AreBoxes shape (log_of run) rows
  pub held : AreKeys shape keys
  pub knows : KnowsAll shape (log_of run) known

-- there is a place for each actor, and the letter stored for a loyal one, if any, is what it last posted to replica 0
pub record AreLetters (shape : Shape) (logs : Logs) (letters : List (Option Envelope)) : Type 0 where
  pub count : length letters ≡ shape.n + shape.m
  pub last : (who : Actor) → IsLoyal shape who → (x : Envelope) → slice_index_or letters (place_of shape who) None ≡ Some x
      → (older : List Envelope) × (posted_to (Replica 0) (logs who) ≡ older ++ x ∷ [])

-- the letter of a post if it is to be stored: if it is posted to replica 0
abbrev pub kept_of : Actor → Envelope → Option Envelope
kept_of (Replica zero) x = Some x
kept_of (Replica (suc q)) x = None
kept_of (Client c) x = None

-- whether a replica posts to a replica other than replica 0; a loyal one has posted the same to replica 0 already
abbrev pub is_posted_again : Actor → Actor → Bool
is_posted_again (Replica p) (Replica zero) = false
is_posted_again (Replica p) (Replica (suc q)) = true
is_posted_again (Replica p) (Client c) = false
is_posted_again (Client c) to = false

-- the stored letters after a post: a letter to be stored is now at the poster's place
abbrev pub with_letter : ℕ → Option Envelope → List (Option Envelope) → List (Option Envelope)
with_letter place None letters = letters
with_letter place (Some x) letters = slice_set letters place (Some x)

-- the fields of a stage represent the run of its steps
abbrev pub IsStageFields : Inside → Type 0
IsStageFields a = AreParts a.shape a.steps a.nodes.items a.boxes a.keys.items a.known.signatures
    × AreLetters a.shape (log_of a.steps) a.letters.items

-- the shape and the run
abbrev pub stage_of : Inside → Stage
stage_of a = record { shape = a.shape; run = a.steps }

-- the refusal of a post by the box from one actor to another
abbrev pub box_refusal : Logs → Actor → Actor → Option Refusal
box_refusal logs from to =
    if is_used_up logs from to then Some Exhausted
    else if is_full logs from to then Some BoxFull
    else None

-- during the opening of a stage: the actors at the first `k` places have nodes that took no step
pub record AreOpened (shape : Shape) (k : ℕ) (nodes : List Node) : Type 0 where
  pub count : length nodes ≡ k
  pub each : (who : Actor) → IsActor shape who → place_of shape who < k → (d : Node) → Plays shape who [] (slice_index_or nodes (place_of shape who) d)

-- a traitor among the first `k` replicas
abbrev pub IsTraitorBelow : Shape → ℕ → Actor → Type 0
IsTraitorBelow shape k (Replica p) = (p < k) × (is_traitor shape p ≡ true)
IsTraitorBelow shape k (Client c) = ⊥

-- the keys are those of the traitors among the first `k` replicas
abbrev pub AreKeysBelow : Shape → ℕ → List Actor → Type 0
AreKeysBelow shape k keys = (a : Actor) → Any (λ holder. holder ≡ a) keys ↔ IsTraitorBelow shape k a

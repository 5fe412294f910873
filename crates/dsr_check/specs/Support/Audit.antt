-- How an audit represents the run that it has followed (this project).
use Rattle.std.specs.Prelude.{◌≡◌, ◌↔◌, ℕ, zero, suc, ◌+◌, ◌++◌, ◌∷◌, ◌<◌, ◌^◌, Bool, true, false, [], List, Option, None, Some, Any, length, slice_index_or, slice_set}
use Rattle.dsr_base.specs.Boxes.{AreSquare, box_at}
use Rattle.dsr_base.specs.declared.boxes.MailBox.{MailBox}
use Rattle.dsr_names.specs.Places.{place_of}
use Rattle.dsr_names.specs.Shape.{Shape, is_traitor, IsActor}
use Rattle.dsr_names.specs.declared.actor.Actor.{Actor}
use Rattle.dsr_names.specs.declared.actor.Actor.TheVariants.{Replica, Client}
use Rattle.dsr_desk.specs.Signature.{Signature}
use Rattle.dsr_envelope.specs.declared.envelope.Envelope.{Envelope}
use Rattle.dsr_envelope.specs.Envelope.{Carries}
use Rattle.dsr_envelope.specs.declared.entry.Entry.TheVariants.{Post}
use Rattle.dsr_envelope.specs.Limits.{IsEnvelope}
use Rattle.dsr_envelope.specs.Log.{posted_to, taken_from}
use Rattle.dsr_run.specs.Known.{AreKeys, KnowsAll}
use Rattle.dsr_run.specs.OwnStep.{KeepsOwn}
use Rattle.dsr_run.specs.Run.{IsMadeOrPosted, IsRun, IsTraitor}
use Rattle.dsr_run.specs.Step.{Step, Logs, log_of}
use Rattle.dsr_record.specs.Keys.{HasAllKeys}
use Rattle.dsr_check.specs.Support.Party.{Plays}
use Rattle.dsr_check.specs.declared.audit.Audit.{Audit}
use Rattle.dsr_check.specs.declared.held.Held.{Held}
use Rattle.dsr_check.specs.declared.party.Party.{Party}

-- there is a party for each actor of the shape, at its place, which plays it
pub record ArePlayed (shape : Shape) (logs : Logs) (parties : List Party) : Type 0 where
  pub count : length parties ≡ shape.n + shape.m
  pub each : (who : Actor) → IsActor shape who → (d : Party) → Plays shape who (logs who) (slice_index_or parties (place_of shape who) d)

-- the list of what a box holds: one envelope or nothing
abbrev pub held_in : Option Held → List Envelope
held_in None = []
held_in (Some held) = held.envelope ∷ []

-- the box is as these posts and takes have left it, and what it holds is as it was recorded
pub record IsBoxOf (box : MailBox Held) (posted taken : List Envelope) : Type 0 where
  pub count : box.posts ≡ length posted
  pub holds : posted ≡ taken ++ held_in box.item
  pub recorded : (held : Held) → box.item ≡ Some held → held.draft.now ≡ held.envelope

-- the box can get one more envelope: it is empty, and with one more it still counts fewer than 2^40
abbrev pub IsOpen : MailBox Held → Type 0
IsOpen box = (box.item ≡ None) × (suc box.posts < 2 ^ 40)

-- the box holds an envelope that was recorded so
abbrev pub Holds : MailBox Held → Envelope → Type 0
Holds box envelope = (held : Held) × (box.item ≡ Some held) × (held.draft.now ≡ envelope)

-- the boxes are as the logs have left them
pub record AreBoxes (shape : Shape) (logs : Logs) (rows : List (List (MailBox Held))) : Type 0 where
  pub square : AreSquare (shape.n + shape.m) rows
  pub each : (from to : Actor) → IsActor shape from → IsActor shape to
      → IsBoxOf (box_at rows (place_of shape from) (place_of shape to)) (posted_to to (logs from)) (taken_from from (logs to))

-- there is a place for each actor; an envelope stored there equals its recorded draft, and is what the actor last posted to replica 0
pub record AreFirsts (shape : Shape) (logs : Logs) (firsts : List (Option Held)) : Type 0 where
  pub count : length firsts ≡ shape.n + shape.m
  pub last : (who : Actor) → IsActor shape who → (held : Held) → slice_index_or firsts (place_of shape who) None ≡ Some held
      → (held.draft.now ≡ held.envelope) × ((older : List Envelope) × (posted_to (Replica 0) (logs who) ≡ older ++ held.envelope ∷ []))

-- what is stored after a post: an envelope to be stored is now at the poster's place
abbrev pub with_first : List (Option Held) → ℕ → Option Held → List (Option Held)
with_first firsts place None = firsts
with_first firsts place (Some held) = slice_set firsts place (Some held)

-- what is to be stored for this post: a copy of a post to replica 0, nothing for any other
abbrev pub IsFirstOf : Actor → Held → Option Held → Type 0
IsFirstOf (Replica zero) held kept = (first : Held) × (kept ≡ Some first) × (first.draft.now ≡ held.draft.now) × (first.envelope ≡ held.envelope)
IsFirstOf (Replica (suc q)) held kept = kept ≡ None
IsFirstOf (Client c) held kept = kept ≡ None

-- whether a replica posts to a replica other than replica 0; a loyal one has posted the same to replica 0 already
abbrev pub is_posted_again : Actor → Actor → Bool
is_posted_again (Replica p) (Replica zero) = false
is_posted_again (Replica p) (Replica (suc q)) = true
is_posted_again (Replica p) (Client c) = false
is_posted_again (Client c) to = false

-- the box from one actor to another
abbrev pub box_of : Audit → Actor → Actor → MailBox Held
box_of a from to = box_at a.boxes (place_of a.shape from) (place_of a.shape to)

-- if a traitor posts this envelope, it forges nothing; this asks nothing of loyal actors
abbrev pub ForgesNone : Shape → Logs → Actor → Envelope → Type 0
ForgesNone shape logs from envelope = IsTraitor shape from → (s : Signature) → Carries envelope s → IsMadeOrPosted shape logs s

-- the parts of an audit represent a run: the parties, the boxes, the notary's keys, the traitors' keys, the known signatures, and what is
-- stored of posts to replica 0
pub record AreParts (shape : Shape) (run : List Step) (parties : List Party) (rows : List (List (MailBox Held))) (notary keys : List Actor) (known : List Signature) (firsts : List (Option Held)) : Type 0 where
  pub is_run : IsRun shape run
  pub played : ArePlayed shape (log_of run) parties
  pub boxes : AreBoxes shape (log_of run) rows
  pub signs : HasAllKeys shape notary
  pub held : AreKeys shape keys
  pub knows : KnowsAll shape (log_of run) known
  pub kept : AreFirsts shape (log_of run) firsts

-- an actor's party has posted what is held, which may be the next step of this run; all else in the audit is as before that
pub record IsPosted (a : Audit) (run : List Step) (parties : List Party) (from to : Actor) (h : Held) : Type 0 where
  pub before : AreParts a.shape run parties a.boxes a.notary.items a.keys.items a.known.signatures a.firsts.items
  pub party : Party
  pub after : a.parties.items ≡ slice_set parties (place_of a.shape from) party
  pub actor : IsActor a.shape from
  pub other : IsActor a.shape to
  pub opened : IsOpen (box_of a from to)
  pub recorded : h.draft.now ≡ h.envelope
  pub within : IsEnvelope h.envelope
  pub unforged : ForgesNone a.shape (log_of run) from h.envelope
  pub keeps : KeepsOwn a.shape from (log_of run from) (Post to h.envelope)
  pub plays : Plays a.shape from (Post to h.envelope ∷ log_of run from) party

-- the audit has followed this run
abbrev pub StandsFor : Audit → List Step → Type 0
StandsFor a run = AreParts a.shape run a.parties.items a.boxes a.notary.items a.keys.items a.known.signatures a.firsts.items

-- the audit has followed some run
abbrev pub Stands : Audit → Type 0
Stands a = (run : List Step) × StandsFor a run

-- during the casting: the actors at the first `k` places have parties that took no step
pub record AreCast (shape : Shape) (k : ℕ) (parties : List Party) : Type 0 where
  pub count : length parties ≡ k
  pub each : (who : Actor) → IsActor shape who → place_of shape who < k → (d : Party) → Plays shape who [] (slice_index_or parties (place_of shape who) d)

-- a traitor among the first `k` replicas
abbrev pub IsTraitorBelow : Shape → ℕ → Actor → Type 0
IsTraitorBelow shape k (Replica p) = (p < k) × (is_traitor shape p ≡ true)
IsTraitorBelow shape k (Client c) = ⊥

-- the keys are those of the traitors among the first `k` replicas
abbrev pub AreKeysBelow : Shape → ℕ → List Actor → Type 0
AreKeysBelow shape k keys = (a : Actor) → Any (λ holder. holder ≡ a) keys ↔ IsTraitorBelow shape k a

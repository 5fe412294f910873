-- The refusal of an event, and the step that it is if nothing refuses it (this project).
use Rattle.std.specs.Prelude.{◌≡◌, ◌⊎◌, suc, ◌^◌, ◌&&◌, ◌||◌, not, nat_lt, Bool, List, [], ◌∷◌, Option, None, Some, length, slice_get, if◌then◌else◌}
use Rattle.std.specs.Option.{option_map, is_none}
use Rattle.dsr_names.specs.Shape.{Shape}
use Rattle.dsr_names.specs.declared.actor.Actor.{Actor}
use Rattle.dsr_names.specs.declared.actor.Actor.TheVariants.{Replica, Client}
use Rattle.dsr_names.specs.declared.refusal.Refusal.{Refusal}
use Rattle.dsr_names.specs.declared.refusal.Refusal.TheVariants.{NoActor, WrongRole, NotDue, Exhausted, BoxFull, BoxEmpty, Forged, NoMemory}
use Rattle.dsr_ledger.specs.declared.reply.Reply.{Reply as AReply}
use Rattle.dsr_envelope.specs.declared.envelope.Envelope.{Envelope}
use Rattle.dsr_envelope.specs.declared.envelope.Envelope.TheVariants.{Seen}
use Rattle.dsr_envelope.specs.declared.entry.Entry.TheVariants.{Post as PostEntry, Take as TakeEntry}
use Rattle.dsr_envelope.specs.Log.{posted_to, taken_from}
use Rattle.dsr_node.specs.Conduct.{post_of, is_exhausted, is_undue, is_actor, is_traitor_of, are_clients, is_own_client, are_two_clients, AcceptsBy}
use Rattle.dsr_play.specs.declared.event.Event.{Event}
use Rattle.dsr_play.specs.declared.event.Event.TheVariants.{Post, Plant, Take, Tell}
use Rattle.dsr_run.specs.History.{accepted_by, seen_by}
use Rattle.dsr_run.specs.Run.{ForgesNothing}
use Rattle.dsr_run.specs.Step.{Step, Logs, log_of}

-- ---- boxes

-- the envelope in the box from one actor to another: the first that was posted there and not taken
abbrev pub in_box : Logs → Actor → Actor → Option Envelope
in_box logs from to = slice_get (posted_to to (logs from)) (length (taken_from from (logs to)))

-- whether the box from one actor to another holds an envelope
abbrev pub is_full : Logs → Actor → Actor → Bool
is_full logs from to = nat_lt (length (taken_from from (logs to))) (length (posted_to to (logs from)))

-- whether as many envelopes were posted into the box as a box may have
abbrev pub is_used_up : Logs → Actor → Actor → Bool
is_used_up logs from to = not (nat_lt (suc (length (posted_to to (logs from)))) (2 ^ 40))

-- ---- refusals

-- the refusals of an event in their order, each with the test under which it comes; besides these only `Forged` and `NoMemory`
-- come, after all of them
abbrev pub refusals : Shape → Logs → Event → List (Bool × Refusal)
refusals shape logs (Post from to pick) =
    (not (is_actor shape from && is_actor shape to), NoActor)
    ∷ (is_traitor_of shape from || are_clients from to, WrongRole)
    ∷ (is_none (post_of shape (logs from) from to pick), NotDue)
    ∷ (is_exhausted shape (logs from) from to pick || is_used_up logs from to, Exhausted)
    ∷ (is_full logs from to, BoxFull)
    ∷ []
refusals shape logs (Plant from to draft) =
    (not (is_actor shape from && is_actor shape to), NoActor)
    ∷ (not (is_traitor_of shape from), WrongRole)
    ∷ (is_used_up logs from to, Exhausted)
    ∷ (is_full logs from to, BoxFull)
    ∷ []
refusals shape logs (Take at from) =
    (not (is_actor shape at && is_actor shape from), NoActor)
    ∷ (is_own_client at from, WrongRole)
    ∷ (is_undue shape (logs at) at from, NotDue)
    ∷ (not (is_full logs from at), BoxEmpty)
    ∷ []
refusals shape logs (Tell from to) =
    (not (is_actor shape from && is_actor shape to), NoActor)
    ∷ (not (are_two_clients from to), WrongRole)
    ∷ (is_used_up logs from to, Exhausted)
    ∷ (is_full logs from to, BoxFull)
    ∷ []

-- the first refusal whose test holds
abbrev pub first_of : List (Bool × Refusal) → Option Refusal
first_of [] = None
first_of (row ∷ rest) = if row.0 then Some row.1 else first_of rest

-- the refusal of an event; none if it passes all of these tests
abbrev pub refusal_of : Shape → Logs → Event → Option Refusal
refusal_of shape logs event = first_of (refusals shape logs event)

-- the step that an event is: an entry of the actor's log
abbrev pub step_of : Shape → Logs → Event → Option Step
step_of shape logs (Post from to pick) = option_map (λ envelope. (from, PostEntry to envelope)) (post_of shape (logs from) from to pick)
step_of shape logs (Plant from to draft) = Some (from, PostEntry to draft)
step_of shape logs (Take at from) = option_map (λ envelope. (at, TakeEntry from envelope)) (in_box logs from at)
step_of shape logs (Tell (Client c) to) = Some (Client c, PostEntry to (Seen (seen_by shape logs c)))
step_of shape logs (Tell (Replica p) to) = None

-- ---- replies

-- the reply that a client accepts with a step, if any: what the client accepted grew by it
abbrev pub Answers : Shape → Logs → Logs → Step → Option AReply → Type 0
Answers shape later earlier (Replica p, entry) reply = reply ≡ None
Answers shape later earlier (Client c, entry) reply = AcceptsBy reply (accepted_by shape later c) (accepted_by shape earlier c)

-- the run went on by the step that the event is, and this is the reply that was accepted with it
pub record HasDone (shape : Shape) (later earlier : List Step) (event : Event) (reply : Option AReply) : Type 0 where
  pub step : Step
  pub is_event : step_of shape (log_of earlier) event ≡ Some step
  pub went_on : later ≡ step ∷ earlier
  pub answers : Answers shape (log_of later) (log_of earlier) step reply

-- what a traitor is to post has a forged signature; in no other event can there be one
abbrev pub IsForged : Shape → Logs → Event → Type 0
IsForged shape logs (Post from to pick) = ⊥
IsForged shape logs (Plant from to draft) = ¬ ForgesNothing shape logs (PostEntry to draft)
IsForged shape logs (Take at from) = ⊥
IsForged shape logs (Tell from to) = ⊥

-- only a forged signature refuses it
abbrev pub IsForgedAtLast : Shape → Logs → Event → Type 0
IsForgedAtLast shape logs event = (refusal_of shape logs event ≡ None) × IsForged shape logs event

-- nothing refuses it, and no signature is forged
abbrev pub MayBeDone : Shape → Logs → Event → Type 0
MayBeDone shape logs event = (refusal_of shape logs event ≡ None) × (¬ IsForged shape logs event)

-- the event is refused with this: by the tests in their order; else as forged; else because memory ran out
abbrev pub IsRefusedBy : Shape → Logs → Event → Refusal → Type 0
IsRefusedBy shape logs event refusal =
    (refusal_of shape logs event ≡ Some refusal)
    ⊎ ((refusal ≡ Forged) × IsForgedAtLast shape logs event)
    ⊎ ((refusal ≡ NoMemory) × MayBeDone shape logs event)

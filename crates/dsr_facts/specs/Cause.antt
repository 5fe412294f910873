-- Why an event of a play is refused (this project).
use Rattle.std.specs.Prelude.{◌≡◌, ◌⊎◌, ◌<◌, ◌^◌, ℕ, true, false, List, Option, None, Some}
use Rattle.std.specs.Option.{option_map}
use Rattle.dsr_names.specs.Shape.{Shape, is_traitor}
use Rattle.dsr_names.specs.declared.actor.Actor.{Actor}
use Rattle.dsr_names.specs.declared.actor.Actor.TheVariants.{Replica, Client}
use Rattle.dsr_names.specs.declared.refusal.Refusal.{Refusal}
use Rattle.dsr_names.specs.declared.refusal.Refusal.TheVariants as refusal
use Rattle.dsr_desk.specs.Signature.{signed}
use Rattle.dsr_envelope.specs.Envelope.{Carries}
use Rattle.dsr_envelope.specs.declared.entry.Entry.{Entry}
use Rattle.dsr_envelope.specs.declared.pick.Pick.{Pick}
use Rattle.dsr_envelope.specs.declared.pick.Pick.TheVariants.{Plain, From, Begin}
use Rattle.dsr_envelope.specs.Log.{due, rounds}
use Rattle.dsr_replica.specs.Conduct.{reply_to}
use Rattle.dsr_client.specs.Conduct.{next_number}
use Rattle.dsr_client.specs.State.{outstanding}
use Rattle.dsr_node.specs.Conduct.{is_actor, is_traitor_of, is_exhausted, are_clients, is_own_client, are_two_clients, takes_from}
use Rattle.dsr_play.specs.declared.event.Event.{Event}
use Rattle.dsr_play.specs.declared.event.Event.TheVariants.{Post, Plant, Take, Tell}
use Rattle.dsr_run.specs.Run.{IsMadeOrPosted}
use Rattle.dsr_run.specs.Step.{Logs}
use Rattle.dsr_world.specs.Event.{is_full, is_used_up, refusal_of}
use Rattle.dsr_facts.specs.Undue.{IsUndueRound}
use Rattle.dsr_facts.specs.declared.cause.Cause.{Cause}
use Rattle.dsr_facts.specs.declared.cause.Cause.TheVariants.{NoActor, WrongRole, NotDue, Exhausted, BoxFull, BoxEmpty, Forged}
use Rattle.dsr_facts.specs.declared.cause.Part.{Part}
use Rattle.dsr_facts.specs.declared.cause.Part.TheVariants.{Traitor, Loyal, BothClients, FromItself, NotTwoClients}
use Rattle.dsr_facts.specs.declared.cause.Limit.{Limit}
use Rattle.dsr_facts.specs.declared.cause.Limit.TheVariants.{Rounds, Numbers, Posts}
use Rattle.dsr_facts.specs.declared.undue.Undue.{Undue}
use Rattle.dsr_facts.specs.declared.undue.Undue.TheVariants.{First, NothingActed, NoChoice, ProposesNothing, Outstanding, NothingOutstanding}

-- the refusal that a cause explains
abbrev pub refusal_by : Cause → Refusal
refusal_by (NoActor actor) = refusal.NoActor
refusal_by (WrongRole part) = refusal.WrongRole
refusal_by (NotDue why) = refusal.NotDue
refusal_by (Exhausted limit) = refusal.Exhausted
refusal_by BoxFull = refusal.BoxFull
refusal_by BoxEmpty = refusal.BoxEmpty
refusal_by (Forged s) = refusal.Forged

-- the refusal by the tests that come before the signatures are looked at; none for a forged signature
abbrev pub tested_as : Cause → Option Refusal
tested_as (NoActor actor) = Some refusal.NoActor
tested_as (WrongRole part) = Some refusal.WrongRole
tested_as (NotDue why) = Some refusal.NotDue
tested_as (Exhausted limit) = Some refusal.Exhausted
tested_as BoxFull = Some refusal.BoxFull
tested_as BoxEmpty = Some refusal.BoxEmpty
tested_as (Forged s) = None

-- the actor is the first of these two that is not one of the shape
abbrev pub IsOutsider : Shape → Actor → Actor → Actor → Type 0
IsOutsider shape one other actor =
    ((actor ≡ one) × (is_actor shape one ≡ false)) ⊎ ((actor ≡ other) × (is_actor shape one ≡ true) × (is_actor shape other ≡ false))

-- why the event is not its actor's part: a traitor posts only by `Plant`; a client posts to another only by `Tell`; only traitors
-- plant; a client takes nothing from itself; `Tell` is only from a client to another
abbrev pub IsNoPart : Shape → Event → Part → Type 0
IsNoPart shape (Post from to pick) Traitor = is_traitor_of shape from ≡ true
IsNoPart shape (Post from to pick) BothClients = (is_traitor_of shape from ≡ false) × (are_clients from to ≡ true)
IsNoPart shape (Plant from to draft) Loyal = is_traitor_of shape from ≡ false
IsNoPart shape (Take at from) FromItself = is_own_client at from ≡ true
IsNoPart shape (Tell from to) NotTwoClients = are_two_clients from to ≡ false
IsNoPart shape event part = ⊥

-- why a loyal replica does not post to this client by this choice: no request of the client acted there; or something is chosen
abbrev pub IsUndueReply : Shape → List Entry → ℕ → Pick → Undue → Type 0
IsUndueReply shape log c Plain NothingActed = reply_to shape log c ≡ None
IsUndueReply shape log c (From clients) NoChoice = Unit {0}
IsUndueReply shape log c (Begin op) NoChoice = Unit {0}
IsUndueReply shape log c pick why = ⊥

-- why a client does not ask by this choice: no request is outstanding, or this one is; a client proposes nothing
abbrev pub IsUndueAsk : Shape → List Entry → Pick → Undue → Type 0
IsUndueAsk shape log Plain NothingOutstanding = outstanding shape log ≡ None
IsUndueAsk shape log (Begin op) (Outstanding number) = option_map (λ ask. ask.request.number) (outstanding shape log) ≡ Some number
IsUndueAsk shape log (From clients) ProposesNothing = Unit {0}
IsUndueAsk shape log pick why = ⊥

-- why the event is not due by its actor's log; for a take by a loyal replica from a replica, that something else is due first
abbrev pub IsUndue : Shape → Logs → Event → Undue → Type 0
IsUndue shape logs (Post (Replica p) (Replica q) pick) why = IsUndueRound shape (Replica p) (logs (Replica p)) q pick why
IsUndue shape logs (Post (Replica p) (Client c) pick) why = IsUndueReply shape (logs (Replica p)) c pick why
IsUndue shape logs (Post (Client c) (Replica q) pick) why = IsUndueAsk shape (logs (Client c)) pick why
IsUndue shape logs (Take (Replica p) (Replica q)) (First next) =
    (is_traitor shape p ≡ false) × (due shape (logs (Replica p)) ≡ next) × (takes_from next q ≡ false)
IsUndue shape logs event why = ⊥

-- which counter would pass its limit: the replica's rounds, the client's numbers; else the posts in the box
abbrev pub IsSpent : Shape → Logs → Event → Limit → Type 0
IsSpent shape logs (Post (Replica p) (Replica q) pick) Rounds = rounds shape (logs (Replica p)) < 2 ^ 36 → ⊥
IsSpent shape logs (Post (Client c) to (Begin op)) Numbers = next_number shape (logs (Client c)) < 2 ^ 40 → ⊥
IsSpent shape logs (Post from to pick) Posts = (is_exhausted shape (logs from) from to pick ≡ false) × (is_used_up logs from to ≡ true)
IsSpent shape logs (Plant from to draft) Posts = is_used_up logs from to ≡ true
IsSpent shape logs (Tell from to) Posts = is_used_up logs from to ≡ true
IsSpent shape logs event limit = ⊥

-- what the cause says holds
abbrev pub IsWhy : Shape → Logs → Event → Cause → Type 0
IsWhy shape logs (Post from to pick) (NoActor actor) = IsOutsider shape from to actor
IsWhy shape logs (Plant from to draft) (NoActor actor) = IsOutsider shape from to actor
IsWhy shape logs (Take at from) (NoActor actor) = IsOutsider shape at from actor
IsWhy shape logs (Tell from to) (NoActor actor) = IsOutsider shape from to actor
IsWhy shape logs event (WrongRole part) = IsNoPart shape event part
IsWhy shape logs event (NotDue why) = IsUndue shape logs event why
IsWhy shape logs event (Exhausted limit) = IsSpent shape logs event limit
IsWhy shape logs (Post from to pick) BoxFull = is_full logs from to ≡ true
IsWhy shape logs (Plant from to draft) BoxFull = is_full logs from to ≡ true
IsWhy shape logs (Tell from to) BoxFull = is_full logs from to ≡ true
IsWhy shape logs (Take at from) BoxEmpty = is_full logs from at ≡ false
IsWhy shape logs (Plant from to draft) (Forged s) =
    Carries draft (signed s.signer s.statement) × (IsMadeOrPosted shape logs (signed s.signer s.statement) → ⊥)
IsWhy shape logs event cause = ⊥

-- the event is refused with the cause's refusal, and what the cause says holds
pub record HoldsCause (shape : Shape) (logs : Logs) (event : Event) (cause : Cause) : Type 0 where
  pub refused : refusal_of shape logs event ≡ tested_as cause
  pub why : IsWhy shape logs event cause

-- What a seat's own log refuses, and what only the box or the memory can refuse after it (this project).
use Rattle.std.specs.Prelude.{◌≡◌, ◌⊎◌, ℕ, suc, ◌^◌, ◌||◌, not, nat_lt, Bool, List, Option, None, Some, length, if◌then◌else◌}
use Rattle.std.specs.Option.{is_none}
use Rattle.dsr_base.specs.Member.{In}
use Rattle.dsr_names.specs.Shape.{Shape}
use Rattle.dsr_names.specs.declared.actor.Actor.{Actor}
use Rattle.dsr_names.specs.declared.actor.Actor.TheVariants.{Replica}
use Rattle.dsr_names.specs.declared.refusal.Refusal.{Refusal}
use Rattle.dsr_names.specs.declared.refusal.Refusal.TheVariants.{NoActor, WrongRole, NotDue, Exhausted, NoMemory}
use Rattle.dsr_chain.specs.declared.signed_request.SignedRequest.{SignedRequest}
use Rattle.dsr_envelope.specs.declared.envelope.Envelope.TheVariants.{Ask}
use Rattle.dsr_envelope.specs.declared.entry.Entry.{Entry}
use Rattle.dsr_envelope.specs.declared.entry.Entry.TheVariants.{Post}
use Rattle.dsr_envelope.specs.declared.pick.Pick.{Pick}
use Rattle.dsr_envelope.specs.Log.{posted_to}
use Rattle.dsr_client.specs.State.{outstanding}
use Rattle.dsr_node.specs.Conduct.{post_of, is_exhausted, is_undue, is_actor, are_clients, is_own_client, are_two_clients}
use Rattle.dsr_mail.specs.Seats.{is_client}

-- whether no post to this actor is left: the log has 2^40 - 1 posts to it, or more
abbrev pub is_spent : List Entry → Actor → Bool
is_spent log to = not (nat_lt (suc (length (posted_to to log))) (2 ^ 40))

-- the own log's refusal of a loyal actor's post by this choice, if any
abbrev pub post_refused : Shape → Actor → List Entry → Actor → Pick → Option Refusal
post_refused shape me log to pick =
    if not (is_actor shape to) then Some NoActor
    else if are_clients me to then Some WrongRole
    else if is_none (post_of shape log me to pick) then Some NotDue
    else if is_exhausted shape log me to pick || is_spent log to then Some Exhausted
    else None

-- the own log's refusal of a take, if any
abbrev pub take_refused : Shape → Actor → List Entry → Actor → Option Refusal
take_refused shape me log from =
    if not (is_actor shape from) then Some NoActor
    else if is_own_client me from then Some WrongRole
    else if is_undue shape log me from then Some NotDue
    else None

-- the own log's refusal of a client's post of its seen front to another client, if any
abbrev pub tell_refused : Shape → Actor → List Entry → Actor → Option Refusal
tell_refused shape me log to =
    if not (is_actor shape to) then Some NoActor
    else if not (are_two_clients me to) then Some WrongRole
    else if is_spent log to then Some Exhausted
    else None

-- the own log's refusal of a traitor's post, whatever the envelope, if any
abbrev pub plant_refused : Shape → List Entry → Actor → Option Refusal
plant_refused shape log to =
    if not (is_actor shape to) then Some NoActor
    else if is_spent log to then Some Exhausted
    else None

-- the refusal is the own log's or, if the own log refuses nothing, comes from the box or from memory
abbrev pub IsRefusedBy : Option Refusal → Refusal → Refusal → Type 0
IsRefusedBy own box refusal = (own ≡ Some refusal) ⊎ ((own ≡ None) × ((refusal ≡ box) ⊎ (refusal ≡ NoMemory)))

-- the refusal of a wait for this actor, unless it is a replica of the shape
abbrev pub wait_refused : Shape → Actor → Option Refusal
wait_refused shape other =
    if not (is_actor shape other) then Some NoActor
    else if is_client shape other then Some WrongRole
    else None

-- a request is outstanding with the client, and was posted to this replica
abbrev pub HasAsked : Shape → List Entry → ℕ → Type 0
HasAsked shape log q = (ask : SignedRequest) × (outstanding shape log ≡ Some ask) × In (Post (Replica q) (Ask ask)) log

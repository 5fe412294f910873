-- What an actor's own log has due, and what a box holds, as texts (this project).
use Rattle.std.specs.Prelude.{ℕ, Bool, List, [], ◌++◌, Option, None, Some, codes, if◌then◌else◌}
use Rattle.std.specs.Fmt.{decimal}
use Rattle.std.specs.Option.{option_map}
use Rattle.dsr_names.specs.Actor.{actor_text, client_text, replica_text}
use Rattle.dsr_names.specs.Shape.{Shape, is_traitor}
use Rattle.dsr_names.specs.declared.actor.Actor.{Actor}
use Rattle.dsr_names.specs.declared.actor.Actor.TheVariants.{Replica, Client}
use Rattle.dsr_envelope.specs.Log.{due}
use Rattle.dsr_envelope.specs.declared.due.Due.{Due}
use Rattle.dsr_envelope.specs.declared.due.Due.TheVariants.{Post as PostTo, Take as TakeFrom}
use Rattle.dsr_envelope.specs.declared.entry.Entry.{Entry}
use Rattle.dsr_envelope.specs.declared.entry.Entry.TheVariants.{Post, Take}
use Rattle.dsr_envelope.specs.declared.envelope.Envelope.{Envelope}
use Rattle.dsr_client.specs.State.{outstanding}
use Rattle.dsr_node.specs.Conduct.{is_actor}
use Rattle.dsr_run.specs.Step.{Logs}
use Rattle.dsr_script.specs.EnvelopeText.{envelope_text}
use Rattle.dsr_world.specs.Event.{in_box}
use Rattle.dsr_reasons.specs.Reason.{one_of}

-- ---- what is due

-- the number of the outstanding request; a replica has none
abbrev pub own_number : Shape → Logs → Actor → Option ℕ
own_number shape logs (Replica p) = None
own_number shape logs (Client c) = option_map (λ ask. ask.request.number) (outstanding shape (logs (Client c)))

-- the same, for an actor of the shape
abbrev pub current_number : Shape → Logs → Actor → Option ℕ
current_number shape logs actor = if is_actor shape actor then own_number shape logs actor else None

-- what a loyal replica does next with the replicas
abbrev pub next_text : Bool → Due → List ℕ
next_text is_data (PostTo to) = one_of is_data (codes " post ") (codes ": the post to ") ++ (replica_text to ++ codes "\n")
next_text is_data (TakeFrom from) = one_of is_data (codes " take ") (codes ": the take from ") ++ (replica_text from ++ codes "\n")

-- that nothing is due for a traitor
abbrev pub traitor_text : Bool → List ℕ
traitor_text is_data = one_of is_data (codes " -\n") (codes ": nothing, since it is a traitor\n")

-- which request of a client is outstanding
abbrev pub number_text : Bool → Option ℕ → List ℕ
number_text is_data None = one_of is_data (codes " -\n") (codes ": nothing\n")
number_text is_data (Some number) = one_of is_data (codes " ") (codes ": request ") ++ (decimal number ++ codes "\n")

-- what an actor's log has due
abbrev pub due_line : Bool → Shape → Logs → Actor → List ℕ
due_line is_data shape logs (Replica p) =
    one_of is_data (codes "due ") (codes "    due at ")
    ++ (replica_text p ++ (if is_traitor shape p then traitor_text is_data else next_text is_data (due shape (logs (Replica p)))))
due_line is_data shape logs (Client c) =
    one_of is_data (codes "due ") (codes "    outstanding at ") ++ (client_text c ++ number_text is_data (own_number shape logs (Client c)))

-- the same; no line if the actor is not one of the shape
abbrev pub standing_line : Bool → Shape → Logs → Actor → List ℕ
standing_line is_data shape logs actor = if is_actor shape actor then due_line is_data shape logs actor else []

-- ---- what a box holds

-- that a box is empty, or holds this envelope
abbrev pub held_text : Bool → Option Envelope → List ℕ
held_text is_data None = one_of is_data (codes " -\n") (codes ": nothing\n")
held_text is_data (Some held) = one_of is_data (codes " ") (codes ": ") ++ (envelope_text held ++ codes "\n")

-- what the box from one actor to another holds; no line if one of the two is not an actor of the shape
abbrev pub box_line : Bool → Shape → Logs → Actor → Actor → List ℕ
box_line is_data shape logs from to =
    if is_actor shape from
    then (if is_actor shape to
    then one_of is_data (codes "box ") (codes "    in the box from ") ++ (actor_text from
    ++ (one_of is_data (codes " ") (codes " to ") ++ (actor_text to ++ held_text is_data (in_box logs from to))))
    else [])
    else []

-- what the box holds into which this entry of the actor's log posts, or from which it takes
abbrev pub entry_box_line : Bool → Shape → Logs → Actor → Entry → List ℕ
entry_box_line is_data shape logs actor (Post to envelope) = box_line is_data shape logs actor to
entry_box_line is_data shape logs actor (Take from envelope) = box_line is_data shape logs from actor

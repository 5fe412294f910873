-- The text of the cause of a refused event (this project): a word, and the numbers and names that belong to it, if data are wanted; otherwise a
-- sentence.
use Rattle.std.specs.Prelude.{◌≡◌, ℕ, Bool, List, ◌++◌, codes, if◌then◌else◌}
use Rattle.std.specs.Fmt.{decimal}
use Rattle.dsr_names.specs.Actor.{actor_text, client_text, replica_text}
use Rattle.dsr_names.specs.Shape.{Shape}
use Rattle.dsr_names.specs.declared.actor.Actor.{Actor}
use Rattle.dsr_desk.specs.StatementText.{statement_text}
use Rattle.dsr_desk.specs.declared.statement.Statement.{Statement}
use Rattle.dsr_envelope.specs.declared.due.Due.{Due}
use Rattle.dsr_envelope.specs.declared.due.Due.TheVariants.{Post as PostTo, Take as TakeFrom}
use Rattle.dsr_play.specs.declared.event.Event.{Event}
use Rattle.dsr_play.specs.declared.event.Event.TheVariants.{Post, Plant, Take, Tell}
use Rattle.dsr_run.specs.Step.{Logs}
use Rattle.dsr_facts.specs.Cause.{HoldsCause}
use Rattle.dsr_facts.specs.declared.cause.Cause.{Cause}
use Rattle.dsr_facts.specs.declared.cause.Cause.TheVariants.{NoActor, WrongRole, NotDue, Exhausted, BoxFull, BoxEmpty, Forged}
use Rattle.dsr_facts.specs.declared.cause.Part.{Part}
use Rattle.dsr_facts.specs.declared.cause.Part.TheVariants.{Traitor, Loyal, BothClients, FromItself, NotTwoClients}
use Rattle.dsr_facts.specs.declared.cause.Limit.{Limit}
use Rattle.dsr_facts.specs.declared.cause.Limit.TheVariants.{Rounds, Numbers, Posts}
use Rattle.dsr_facts.specs.declared.undue.Undue.{Undue}
use Rattle.dsr_facts.specs.declared.undue.Undue.TheVariants.{First, ChosenBefore, OtherSender, NothingHeld, BeginsNothing, NothingActed, NoChoice, ProposesNothing, Outstanding, NothingOutstanding}

-- the actor that posts, takes or tells
abbrev pub actor_of : Event → Actor
actor_of (Post from to pick) = from
actor_of (Plant from to draft) = from
actor_of (Take at from) = at
actor_of (Tell from to) = from

-- the actor to which it posts or tells, or from which it takes
abbrev pub other_of : Event → Actor
other_of (Post from to pick) = to
other_of (Plant from to draft) = to
other_of (Take at from) = from
other_of (Tell from to) = to

-- the first text if data are wanted, otherwise the second
abbrev pub one_of : Bool → List ℕ → List ℕ → List ℕ
one_of is_data word sentence = if is_data then word else sentence

-- the word and the name if data are wanted, otherwise the name between the two parts of a sentence
abbrev pub named : Bool → List ℕ → List ℕ → List ℕ → List ℕ → List ℕ
named is_data word before name after = one_of is_data (word ++ (codes " " ++ name)) (before ++ (name ++ after))

-- why an event is not this actor's part
abbrev pub part_text : Bool → Actor → Part → List ℕ
part_text is_data actor Traitor =
    named is_data (codes "traitor") (codes "") (actor_text actor) (codes " is a traitor: what it posts is planted")
part_text is_data actor Loyal = named is_data (codes "loyal") (codes "") (actor_text actor) (codes " is loyal: only traitors plant")
part_text is_data actor BothClients = one_of is_data (codes "both-clients") (codes "clients post nothing to each other: they tell")
part_text is_data actor FromItself = one_of is_data (codes "from-itself") (codes "a client takes nothing from itself")
part_text is_data actor NotTwoClients = one_of is_data (codes "not-two-clients") (codes "only a client tells, and only another client")

-- which counter would pass its limit
abbrev pub limit_text : Bool → Limit → List ℕ
limit_text is_data Rounds = one_of is_data (codes "exhausted-rounds") (codes "it has closed 2^36 rounds, and closes no more")
limit_text is_data Numbers =
    one_of is_data (codes "exhausted-numbers") (codes "its last request had the number 2^40-1, and there is no greater one")
limit_text is_data Posts = one_of is_data (codes "exhausted-posts") (codes "2^40-1 envelopes were posted there, and no more may be")

-- which step with the replicas is due first
abbrev pub due_text : Bool → Due → List ℕ
due_text is_data (PostTo to) =
    named is_data (codes "due-post") (codes "it must first post to ") (replica_text to) (codes "")
due_text is_data (TakeFrom from) =
    named is_data (codes "due-take") (codes "it must first take from ") (replica_text from) (codes "")

-- which slot begins with the round, and who is its sender
abbrev pub sender_text : Bool → ℕ → ℕ → List ℕ
sender_text is_data slot sender =
    one_of is_data (codes "other-sender " ++ (decimal slot ++ (codes " " ++ replica_text sender)))
    (codes "the slot that begins with this round, " ++ (decimal slot ++ (codes ", has the sender " ++ replica_text sender)))

-- the number of the request that is outstanding
abbrev pub outstanding_text : Bool → ℕ → List ℕ
outstanding_text is_data number =
    one_of is_data (codes "outstanding " ++ decimal number) (codes "its request " ++ (decimal number ++ codes " is outstanding"))

-- why an actor's protocol has no such step with this other actor now
abbrev pub undue_text : Bool → Actor → Undue → List ℕ
undue_text is_data other (First next) = due_text is_data next
undue_text is_data other ChosenBefore = one_of is_data (codes "chosen-before") (codes "what it proposes is chosen at its post to r0")
undue_text is_data other (OtherSender slot sender) = sender_text is_data slot sender
undue_text is_data other (NothingHeld client) = named is_data (codes "nothing-held") (codes "it holds no ask of ") (client_text client) (codes "")
undue_text is_data other BeginsNothing = one_of is_data (codes "begins-nothing") (codes "a replica begins no request")
undue_text is_data other NothingActed =
    named is_data (codes "nothing-acted") (codes "no request of ") (actor_text other) (codes " has acted there yet")
undue_text is_data other NoChoice = one_of is_data (codes "no-choice") (codes "a replica has no choice at a post to a client")
undue_text is_data other ProposesNothing = one_of is_data (codes "proposes-nothing") (codes "a client proposes nothing")
undue_text is_data other (Outstanding number) = outstanding_text is_data number
undue_text is_data other NothingOutstanding = one_of is_data (codes "nothing-outstanding") (codes "no request of it is outstanding")

-- which signature is forged
abbrev pub forged_text : Bool → Actor → Statement → List ℕ
forged_text is_data signer statement =
    one_of is_data (codes "forged " ++ (actor_text signer ++ (codes " " ++ statement_text statement)))
    (codes "the signature of " ++ (actor_text signer ++ (codes " on " ++ (statement_text statement
    ++ (codes " is forged: " ++ (actor_text signer ++ codes " is no traitor of this shape, and has not posted it"))))))

-- why an event of this actor with this other one is refused
abbrev pub reason_text : Bool → Actor → Actor → Cause → List ℕ
reason_text is_data actor other (NoActor outsider) = named is_data (codes "no-actor") (codes "") (actor_text outsider) (codes " is no actor of this shape")
reason_text is_data actor other (WrongRole part) = part_text is_data actor part
reason_text is_data actor other (NotDue why) = undue_text is_data other why
reason_text is_data actor other (Exhausted limit) = limit_text is_data limit
reason_text is_data actor other BoxFull = one_of is_data (codes "box-full") (codes "what was posted there before has not been taken")
reason_text is_data actor other BoxEmpty = one_of is_data (codes "box-empty") (codes "no envelope is waiting there")
reason_text is_data actor other (Forged s) = forged_text is_data s.signer s.statement

-- the line that says so
abbrev pub reason_line : Bool → Actor → Actor → Cause → List ℕ
reason_line is_data actor other cause =
    one_of is_data (codes "why ") (codes "    because ") ++ (reason_text is_data actor other cause ++ codes "\n")

-- the new text is the old one followed by the line of a cause that holds of the event
pub record TellsCause (shape : Shape) (logs : Logs) (event : Event) (is_data : Bool) (old new : List ℕ) : Type 0 where
  pub cause : Cause
  pub holds : HoldsCause shape logs event cause
  pub told : new ≡ old ++ reason_line is_data (actor_of event) (other_of event) cause

-- What an explanation of a play says (this project). It is spelled here, but for the number of an event's line in the play, for how an envelope is spelled,
-- and for what words say of counts, slots and boxes at the end: of these nothing is claimed but in tests.
use Rattle.std.specs.Prelude.{◌≡◌, ◌≢◌, ◌⊎◌, ℕ, suc, Bool, true, false, List, [], ◌∷◌, ◌++◌, Option, None, Some, filter, codes, length, if◌then◌else◌}
use Rattle.std.specs.Io.KnownBytes.{Keeps}
use Rattle.std.specs.Fmt.{decimal}
use Rattle.dsr_names.specs.Actor.{actor_text}
use Rattle.dsr_names.specs.Refusal.{code_of, word_of}
use Rattle.dsr_names.specs.Shape.{Shape}
use Rattle.dsr_names.specs.ShapeText.{shape_text}
use Rattle.dsr_names.specs.Streams.{Output, CanFailToTake, SentAll, SentPrefix}
use Rattle.dsr_names.specs.declared.refusal.Refusal.{Refusal}
use Rattle.dsr_names.specs.declared.refusal.Refusal.TheVariants.{NoMemory, WriteFailed}
use Rattle.dsr_ledger.specs.declared.reply.Reply.{Reply as AReply}
use Rattle.dsr_play.specs.Play.{IsPlayRefusal, Play, Spells}
use Rattle.dsr_play.specs.declared.event.Event.{Event}
use Rattle.dsr_play.specs.declared.event.Event.TheVariants.{Post, Plant, Take, Tell}
use Rattle.dsr_chain.specs.Chain.{Chain}
use Rattle.dsr_envelope.specs.declared.envelope.Envelope.{Envelope}
use Rattle.dsr_envelope.specs.declared.envelope.Envelope.TheVariants.{Empty, Round, Ask, Reply, Seen}
use Rattle.dsr_run.specs.Run.{envelope_of}
use Rattle.dsr_run.specs.Step.{Step, log_of}
use Rattle.dsr_world.specs.Event.{HasDone, IsRefusedBy, MayBeDone}
use Rattle.dsr_notes.specs.Notes.{IsNoted}
use Rattle.dsr_notes.specs.declared.note.Note.{Note}
use Rattle.dsr_reasons.specs.Reason.{TellsCause, actor_of, other_of, one_of}
use Rattle.dsr_explain.specs.Lines.{note_lines}
use Rattle.dsr_explain.specs.Waits.{TellsWaits}
use Rattle.dsr_explain.specs.Wanted.{WantsDone, WantsRefused, wants_note}
use Rattle.dsr_explain.specs.declared.verb.Verb.{Verb}
use Rattle.dsr_explain.specs.declared.verb.Verb.TheVariants.{Posts, Plants, Takes, Tells}
use Rattle.dsr_explain.specs.declared.wanted.Wanted.{Wanted}

-- ---- the line of an event

-- what an actor does in this event
abbrev pub verb_of : Event → Verb
verb_of (Post from to pick) = Posts
verb_of (Plant from to draft) = Plants
verb_of (Take at from) = Takes
verb_of (Tell from to) = Tells

-- what that is called
abbrev pub verb_text : Bool → Verb → List ℕ
verb_text is_data Posts = one_of is_data (codes "post") (codes " posts to ")
verb_text is_data Plants = one_of is_data (codes "plant") (codes " plants for ")
verb_text is_data Takes = one_of is_data (codes "take") (codes " takes from ")
verb_text is_data Tells = one_of is_data (codes "tell") (codes " tells ")

-- who does what to whom
abbrev pub doing : Bool → Event → List ℕ
doing is_data event =
    one_of is_data
    (verb_text is_data (verb_of event) ++ (codes " " ++ (actor_text (actor_of event) ++ (codes " " ++ actor_text (other_of event)))))
    (codes ": " ++ (actor_text (actor_of event) ++ (verb_text is_data (verb_of event) ++ actor_text (other_of event))))

-- the event's number, counted from 0, and the line of the play that represents it
abbrev pub place_text : Bool → ℕ → ℕ → List ℕ
place_text is_data number line =
    one_of is_data
    (codes "event " ++ (decimal number ++ (codes " " ++ (decimal line ++ codes " "))))
    (codes "line " ++ (decimal line ++ (codes ", event " ++ decimal number)))

-- the line of an event that was done; `shown` is the envelope
abbrev pub done_line : Bool → ℕ → ℕ → Event → List ℕ → List ℕ
done_line is_data number line event shown = place_text is_data number line ++ (doing is_data event ++ (one_of is_data (codes " done") [] ++ shown))

-- how an event was refused, and what it did not do
abbrev pub refusal_text : Bool → Event → Refusal → List ℕ
refusal_text is_data event refusal =
    if is_data
    then doing true event ++ (codes " E" ++ decimal (code_of refusal))
    else codes ": refused, E" ++ (decimal (code_of refusal) ++ (codes " " ++ (word_of refusal ++ doing false event)))

-- the line of an event that was refused; `shown` is what was to be posted
abbrev pub refused_line : Bool → ℕ → ℕ → Event → Refusal → List ℕ → List ℕ
refused_line is_data number line event refusal shown = place_text is_data number line ++ (refusal_text is_data event refusal ++ shown)

-- ---- events

-- the chains of an envelope
abbrev pub chains_in : Envelope → List Chain
chains_in Empty = []
chains_in (Round round chains) = chains
chains_in (Ask ask) = []
chains_in (Reply reply) = []
chains_in (Seen front) = []

-- the envelope that was posted or taken last
abbrev pub last_envelope : List Step → Option Envelope
last_envelope [] = None
last_envelope (step ∷ older) = Some (envelope_of step.1)

-- the chains of this envelope; none if there is no envelope
abbrev pub chains_in_some : Option Envelope → List Chain
chains_in_some None = []
chains_in_some (Some envelope) = chains_in envelope

-- the chains of the envelope that was posted or taken last
abbrev pub last_chains : List Step → List Chain
last_chains run = chains_in_some (last_envelope run)

-- an event that was done, and under it its wanted notes, by the run after it; `shown` spells the envelope, and `texts` its chains
pub record TellsNotes (wanted : Wanted) (number : ℕ) (shape : Shape) (later : List Step) (event : Event) (notes : List Note) (text : List ℕ) : Type 0 where
  pub line : ℕ
  pub shown : List ℕ
  pub texts : List (List ℕ)
  pub told :
      text ≡ done_line wanted.data number line event shown
      ++ note_lines wanted.data shape (log_of later) (actor_of event) (other_of event) (last_chains later) texts (filter (wants_note wanted) notes)

-- the text has them if the filter wants the event, and otherwise is empty
pub record TellsWanted (wanted : Wanted) (number : ℕ) (shape : Shape) (later : List Step) (event : Event) (notes : List Note) (text : List ℕ) : Type 0 where
  pub told : WantsDone wanted event notes → TellsNotes wanted number shape later event notes text
  pub other : ¬ WantsDone wanted event notes → text ≡ []

-- the notes of an event that was done are exactly what came of it
pub record TellsNoted (wanted : Wanted) (number : ℕ) (shape : Shape) (later earlier : List Step) (event : Event) (text : List ℕ) : Type 0 where
  pub notes : List Note
  pub noted : IsNoted shape earlier event notes
  pub tells : TellsWanted wanted number shape later event notes text

-- an event that nothing refuses, and that was done: what came of it, unless only refused events are wanted
pub record TellsDone (wanted : Wanted) (number : ℕ) (shape : Shape) (later earlier : List Step) (event : Event) (text : List ℕ) : Type 0 where
  pub reply : Option AReply
  pub may : MayBeDone shape (log_of earlier) event
  pub done : HasDone shape later earlier event reply
  pub noted : wanted.refused ≡ false → TellsNoted wanted number shape later earlier event text
  pub unwanted : wanted.refused ≡ true → text ≡ []

-- the line of an event that is refused, and of a cause that holds, if the filter wants the event; and otherwise nothing
pub record TellsRefusal (wanted : Wanted) (number : ℕ) (shape : Shape) (run : List Step) (event : Event) (refusal : Refusal) (text : List ℕ) : Type 0 where
  pub told : WantsRefused wanted event → (line : ℕ) × (shown : List ℕ)
      × TellsCause shape (log_of run) event wanted.data (refused_line wanted.data number line event refusal shown) text
  pub other : ¬ WantsRefused wanted event → text ≡ []

-- an event that was refused, and not for lack of memory, changes nothing
pub record TellsRefused (wanted : Wanted) (number : ℕ) (shape : Shape) (later earlier : List Step) (event : Event) (text : List ℕ) : Type 0 where
  pub refusal : Refusal
  pub refused : IsRefusedBy shape (log_of earlier) event refusal
  pub not_starved : refusal ≢ NoMemory
  pub same : later ≡ earlier
  pub tells : TellsRefusal wanted number shape earlier event refusal text

-- the text tells the event with this number, which leads from one run to another
abbrev pub TellsEvent : Wanted → ℕ → Shape → (later earlier : List Step) → Event → List ℕ → Type 0
TellsEvent wanted number shape later earlier event text =
    TellsDone wanted number shape later earlier event text ⊎ TellsRefused wanted number shape later earlier event text

-- the text tells these events in turn, the first of which has this number, each in the run that was reached
abbrev pub TellsEvents : Wanted → ℕ → Shape → (later earlier : List Step) → List Event → List ℕ → Type 0
TellsEvents wanted number shape later earlier [] text = (later ≡ earlier) × (text ≡ [])
TellsEvents wanted number shape later earlier (event ∷ events) text =
    (next : List Step) × (first : List ℕ) × (rest : List ℕ)
    × TellsEvent wanted number shape next earlier event first
    × TellsEvents wanted (suc number) shape later next events rest
    × (text ≡ first ++ rest)

-- ---- the play

-- the first line: of data the version and the shape; in words there is none
abbrev pub first_line : Bool → Shape → List ℕ
first_line is_data shape = one_of is_data (codes "dsr-explain 1 " ++ (shape_text shape ++ codes "\n")) []

-- the text explains the play: each of its events in turn, in a stage that begins with nothing done; and then who waits for whom, and in words what became
-- of the slots, and what was not taken
pub record TellsPlay (wanted : Wanted) (play : Play) (text : List ℕ) : Type 0 where
  pub run : List Step
  pub events : List ℕ
  pub slots : List ℕ
  pub waits : List ℕ
  pub boxes : List ℕ
  pub each : TellsEvents wanted 0 play.shape run [] play.events events
  pub end : TellsWaits wanted play.shape (log_of run) waits
  pub as_data : wanted.data ≡ true → (slots ≡ []) × (boxes ≡ [])
  pub told : text ≡ first_line wanted.data play.shape ++ (events ++ (slots ++ (waits ++ boxes)))

-- the text encodes a play, which the other explains
abbrev pub Explains : List ℕ → Wanted → List ℕ → Type 0
Explains play_text wanted text = (play : Play) × Spells play_text play × TellsPlay wanted play text

-- ---- explanations that break off

-- the text tells some of these events, from the first on, in turn
pub record TellsSome (wanted : Wanted) (shape : Shape) (earlier : List Step) (events : List Event) (text : List ℕ) : Type 0 where
  pub run : List Step
  pub first : List Event
  pub rest : List Event
  pub of_events : events ≡ first ++ rest
  pub each : TellsEvents wanted 0 shape run earlier first text

-- what went out of a text, which begins so and then tells these events, when it broke off: if memory ran out, nothing, or all that it had told of some of
-- them; if writing failed, a prefix of that; no other refusal breaks it off
abbrev pub HasBrokenOff : Wanted → Shape → (earlier : List Step) → List Event → List ℕ → Refusal → (before after : Output) → Type 0
HasBrokenOff wanted shape earlier events start NoMemory before after =
    Keeps before.contents after.contents ⊎ ((text : List ℕ) × TellsSome wanted shape earlier events text × SentAll (start ++ text) before after)
HasBrokenOff wanted shape earlier events start WriteFailed before after =
    (text : List ℕ) × TellsSome wanted shape earlier events text × SentPrefix (start ++ text) before after
HasBrokenOff wanted shape earlier events start other before after = ⊥

-- the text begins to explain the play: it tells some of its events
pub record BeginsPlay (wanted : Wanted) (play : Play) (text : List ℕ) : Type 0 where
  pub events : List ℕ
  pub some : TellsSome wanted play.shape [] play.events events
  pub told : text ≡ first_line wanted.data play.shape ++ events

-- the text encodes a play, which the other begins to explain
abbrev pub Begins : List ℕ → Wanted → List ℕ → Type 0
Begins play_text wanted text = (play : Play) × Spells play_text play × BeginsPlay wanted play text

-- what each refusal leaves of an explanation of this play: if memory ran out, nothing, or its beginning; if writing failed, a prefix of it or of its
-- beginning, and the sink was one that may not take all of that; no other refusal occurs
abbrev pub LeftOfExplanation : Wanted → Play → Refusal → (before after : Output) → Type 0
LeftOfExplanation wanted play NoMemory before after =
    Keeps before.contents after.contents ⊎ ((text : List ℕ) × BeginsPlay wanted play text × SentAll text before after)
LeftOfExplanation wanted play WriteFailed before after =
    (text : List ℕ) × (TellsPlay wanted play text ⊎ BeginsPlay wanted play text) × CanFailToTake (length text) before × SentPrefix text before after
LeftOfExplanation wanted play other before after = ⊥

-- what each refusal leaves of the description of this fault: it went out, and the refusal is the fault; or a prefix of it went out, and the sink was one
-- that may not take all of it
abbrev pub LeftAfterFault : Refusal → Refusal → (before after : Output) → Type 0
LeftAfterFault fault refusal before after =
    ((refusal ≡ fault) × ((text : List ℕ) × SentAll text before after))
    ⊎ ((refusal ≡ WriteFailed) × ((text : List ℕ) × CanFailToTake (length text) before × SentPrefix text before after))

-- what each refusal leaves of an explanation of a text: if the text encodes a play, what it leaves of the play's explanation; if the text has a fault, which
-- is not lack of memory, what it leaves of the fault's description; or memory ran out before that, and nothing went out
abbrev pub LeftAfterTelling : List ℕ → Wanted → Refusal → (before after : Output) → Type 0
LeftAfterTelling play_text wanted refusal before after =
    ((play : Play) × Spells play_text play × LeftOfExplanation wanted play refusal before after)
    ⊎ (((fault : Refusal) × (fault ≢ NoMemory) × IsPlayRefusal play_text fault × LeftAfterFault fault refusal before after)
    ⊎ ((refusal ≡ NoMemory) × Keeps before.contents after.contents))

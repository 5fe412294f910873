-- Who waits for whom at the end of a play, as lines (this project).
use Rattle.std.specs.Prelude.{ℕ, zero, suc, ◌+◌, Bool, List, [], ◌++◌, Option, None, Some, codes, if◌then◌else◌}
use Rattle.std.specs.Fmt.{decimal}
use Rattle.std.specs.Option.{option_map}
use Rattle.dsr_names.specs.Actor.{client_text, replica_text}
use Rattle.dsr_names.specs.Shape.{Shape}
use Rattle.dsr_names.specs.declared.actor.Actor.TheVariants.{Client}
use Rattle.dsr_client.specs.State.{outstanding}
use Rattle.dsr_envelope.specs.declared.due.Due.{Due}
use Rattle.dsr_envelope.specs.declared.due.Due.TheVariants.{Post as PostTo, Take as TakeFrom}
use Rattle.dsr_run.specs.Step.{Logs}
use Rattle.dsr_notes.specs.End.{standing}
use Rattle.dsr_notes.specs.declared.next.Next.{Next}
use Rattle.dsr_notes.specs.declared.standing.Standing.{Standing}
use Rattle.dsr_notes.specs.declared.standing.Standing.TheVariants.{Voted, IsTraitor, ReplyLies, CanReply, OtherLies, Holds, AskLies, OlderLies, Unasked}

-- ---- what a replica does next

-- as data: what is due at a replica with another one in this round
abbrev pub due_data : ℕ → List ℕ → ℕ → ℕ → List ℕ
due_data p word with round = codes "waits " ++ (replica_text p ++ (word ++ (replica_text with ++ (codes " " ++ (decimal round ++ codes "\n")))))

-- the post or take that is due, and the round in progress
abbrev pub next_data : ℕ → ℕ → Due → List ℕ
next_data p round (PostTo to) = due_data p (codes " post ") to round
next_data p round (TakeFrom from) = due_data p (codes " take ") from round

-- in words, after its name: that it posts, by whether the box of the post holds an envelope
abbrev pub post_words : ℕ → Bool → ℕ → List ℕ
post_words round is_there to =
    if is_there
    then codes ": posts its envelope of round " ++ (decimal round ++ (codes " to " ++ (replica_text to
    ++ (codes " once " ++ (replica_text to ++ codes " has taken the one before\n")))))
    else codes ": next it posts its envelope of round " ++ (decimal round ++ (codes " to " ++ (replica_text to ++ codes "\n")))

-- that it takes, or waits for that, by whether the box of the take holds an envelope
abbrev pub take_words : ℕ → Bool → ℕ → List ℕ
take_words round is_there from =
    codes ": in round " ++ (decimal round
    ++ (if is_there
    then codes ", next it takes what " ++ (replica_text from ++ codes " posted to it, which is there\n")
    else codes ", it waits for " ++ (replica_text from ++ codes " to post to it\n")))

-- in words: what it does next, or for whom it waits
abbrev pub next_words : ℕ → ℕ → Bool → Due → List ℕ
next_words p round is_there (PostTo to) = replica_text p ++ post_words round is_there to
next_words p round is_there (TakeFrom from) = replica_text p ++ take_words round is_there from

-- what a replica does next with the replicas
abbrev pub next_line : Bool → ℕ → Next → List ℕ
next_line is_data p next = if is_data then next_data p next.round next.due else next_words p next.round next.is_there next.due

-- ---- what a client waits for

-- how far a replica is with a request
abbrev pub standing_text : Standing → List ℕ
standing_text Voted = codes "has replied, and its reply has been taken"
standing_text IsTraitor = codes "is a traitor"
standing_text ReplyLies = codes "has replied, and its reply has not been taken"
standing_text CanReply = codes "can reply"
standing_text OtherLies = codes "can reply once what it posted before has been taken"
standing_text Holds = codes "holds it, and no slot that it decided has it"
standing_text AskLies = codes "has not taken the ask"
standing_text OlderLies = codes "has not taken an older ask, which is in the way"
standing_text Unasked = codes "was not asked"

-- how far a replica is with the client's request of this number
abbrev pub standing_part : Shape → Logs → ℕ → ℕ → ℕ → List ℕ
standing_part shape logs client number p = codes "; " ++ (replica_text p ++ (codes " " ++ standing_text (standing shape logs client number p)))

-- how far each of the replicas below a number is with the client's request of this number
abbrev pub standings_text : Shape → Logs → ℕ → ℕ → ℕ → List ℕ
standings_text shape logs client number zero = []
standings_text shape logs client number (suc p) =
    standings_text shape logs client number p ++ standing_part shape logs client number p

-- that a client waits for this many matching replies to its request
abbrev pub waits_begin : ℕ → ℕ → ℕ → List ℕ
waits_begin client needed number =
    client_text client ++ (codes ": waits for " ++ (decimal needed ++ (codes " matching replies to request " ++ decimal number)))

-- what a client with an outstanding request of this number waits for; no line if none is outstanding
abbrev pub waits_line_for : Shape → Logs → ℕ → Option ℕ → List ℕ
waits_line_for shape logs client None = []
waits_line_for shape logs client (Some number) =
    waits_begin client (shape.f + 1) number ++ (standings_text shape logs client number shape.n ++ codes "\n")

-- what a client waits for: f+1 matching replies to its outstanding request, and how far each replica is with it
abbrev pub waits_line : Shape → Logs → ℕ → List ℕ
waits_line shape logs client =
    waits_line_for shape logs client (option_map (λ ask. ask.request.number) (outstanding shape (logs (Client client))))

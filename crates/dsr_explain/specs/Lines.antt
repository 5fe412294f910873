-- The line of each note, which tells what came of an event (this project): a line of data if `is_data`, otherwise one of words. The actor `at` posts or
-- takes, and `other` is the other end.
use Rattle.std.specs.Prelude.{ℕ, zero, suc, nat_lt, not, ◌&&◌, Bool, true, false, List, [], ◌∷◌, ◌++◌, length, Option, None, Some, codes, slice_get, if◌then◌else◌}
use Rattle.std.specs.Fmt.{decimal}
use Rattle.dsr_names.specs.Actor.{actor_text, replica_text}
use Rattle.dsr_names.specs.Shape.{Shape, is_traitor, sender}
use Rattle.dsr_names.specs.declared.actor.Actor.{Actor}
use Rattle.dsr_names.specs.declared.actor.Actor.TheVariants.{Replica, Client}
use Rattle.dsr_request.specs.AnswerText.{answer_text}
use Rattle.dsr_request.specs.Request.{Request}
use Rattle.dsr_request.specs.RequestText.{request_token}
use Rattle.dsr_ledger.specs.declared.reply.Reply.{Reply}
use Rattle.dsr_rotation.specs.Calendar.{closed_slots}
use Rattle.dsr_desk.specs.ContentText.{content_text}
use Rattle.dsr_desk.specs.Signature.{Signature}
use Rattle.dsr_desk.specs.SignersText.{signers_text}
use Rattle.dsr_desk.specs.StatementText.{statement_text}
use Rattle.dsr_desk.specs.declared.statement.Statement.{Statement}
use Rattle.dsr_desk.specs.Support.StatementEquality.{statement_eq}
use Rattle.dsr_chain.specs.Chain.{Chain, link_after, signers_of}
use Rattle.dsr_chain.specs.Content.{content}
use Rattle.dsr_chain.specs.declared.fault.ChainFault.{ChainFault}
use Rattle.dsr_chain.specs.declared.fault.ChainFault.TheVariants.{OtherSlot, WrongCount, WrongSender, NoReplica, SignedTwice, Misfit, BadRequest}
use Rattle.dsr_chain.specs.declared.slot_value.SlotValue.{SlotValue}
use Rattle.dsr_slot.specs.declared.fate.Fate.{Fate}
use Rattle.dsr_slot.specs.declared.fate.Fate.TheVariants.{First, Second, NotNew, OneTooMany, Improper}
use Rattle.dsr_slot.specs.declared.kept.Kept.{Kept}
use Rattle.dsr_envelope.specs.Log.{rounds}
use Rattle.dsr_replica.specs.Decided.{slot_decided}
use Rattle.dsr_run.specs.Step.{Logs}
use Rattle.dsr_reasons.specs.Reason.{one_of}
use Rattle.dsr_notes.specs.declared.note.ChainFate.{ChainFate}
use Rattle.dsr_notes.specs.declared.note.ChainFate.TheVariants.{Read, NotInFlight}
use Rattle.dsr_notes.specs.declared.note.NoVote.{NoVote}
use Rattle.dsr_notes.specs.declared.note.NoVote.TheVariants.{NoReply, NothingOutstanding, OtherNumber, HasVoted}
use Rattle.dsr_notes.specs.declared.note.Note.{Note}
use Rattle.dsr_notes.specs.declared.note.Note.TheVariants.{OtherRound, Chain as ChainNote, Kept as KeptNote, Closed, Decided, Acted, Stale, Held, Vote, NoVote as NoVoteNote, Accepted, Unproposed}

-- the beginning of a line: a word, the actor and a number if data are wanted, otherwise the actor, a verb and the number
abbrev pub about : Bool → List ℕ → Actor → List ℕ → ℕ → List ℕ
about is_data word at verb number =
    one_of is_data word (codes "    ") ++ (actor_text at ++ (one_of is_data (codes " ") verb ++ decimal number))

-- ---- what a replica makes of an envelope

-- that an envelope is not one of the round in progress
abbrev pub other_round_line : Bool → Actor → ℕ → List ℕ
other_round_line is_data at round =
    about is_data (codes "silence ") at (codes " is in round ") round
    ++ one_of is_data (codes "\n") (codes ": this is not its envelope, and counts as no chains\n")

-- why a chain is not proper
abbrev pub fault_text : Bool → ChainFault → List ℕ
fault_text is_data OtherSlot = one_of is_data (codes "other-slot") (codes "not proper (other-slot): the chain is of another slot")
fault_text is_data WrongCount =
    one_of is_data (codes "wrong-count") (codes "not proper (wrong-count): the chain does not have as many signatures as the round's number")
fault_text is_data WrongSender =
    one_of is_data (codes "wrong-sender") (codes "not proper (wrong-sender): the first signer is not the sender of the slot")
fault_text is_data NoReplica = one_of is_data (codes "no-replica") (codes "not proper (no-replica): a signer is no replica of the shape")
fault_text is_data SignedTwice = one_of is_data (codes "signed-twice") (codes "not proper (signed-twice): a signer signed twice")
fault_text is_data Misfit = one_of is_data (codes "misfit") (codes "not proper (misfit): a signature is on a statement that does not fit its place")
fault_text is_data BadRequest =
    one_of is_data (codes "bad-request") (codes "not proper (bad-request): a request is not signed by its client, a client of the shape")

-- what becomes of a chain that is read
abbrev pub fate_text : Bool → Fate → List ℕ
fate_text is_data First = one_of is_data (codes "first") (codes "kept, as the first content")
fate_text is_data Second = one_of is_data (codes "second") (codes "kept, as the second content: the slot will be idle")
fate_text is_data NotNew = one_of is_data (codes "not-new") (codes "not new, as its content is kept already")
fate_text is_data OneTooMany = one_of is_data (codes "one-too-many") (codes "one too many, as two other contents are kept already")
fate_text is_data (Improper fault) = fault_text is_data fault

-- who signed a statement that does not fit its place, this statement, and the one that would fit there
abbrev pub misfit_told : Signature → Statement → List ℕ
misfit_told s link =
    codes ": " ++ (actor_text s.signer ++ (codes " signed " ++ (statement_text s.statement ++ (codes ", where "
    ++ (statement_text link ++ codes " fits")))))

-- the same of the first statement that does not fit; these signatures come after those of the signers `before`
abbrev pub misfit_text : ℕ → SlotValue → List Actor → List Signature → List ℕ
misfit_text slot value before [] = []
misfit_text slot value before (s ∷ more) =
    if statement_eq s.statement (link_after slot value before)
    then misfit_text slot value (before ++ s.signer ∷ []) more
    else misfit_told s (link_after slot value before)

-- the details of a chain's fault: how many signatures the chain has, who is the sender of its slot, or which statement does not fit
abbrev pub fault_detail : Shape → Chain → ChainFault → List ℕ
fault_detail shape chain OtherSlot = []
fault_detail shape chain WrongCount = codes ", but " ++ decimal (length chain.signatures)
fault_detail shape chain WrongSender = codes ", which is " ++ replica_text (sender shape chain.slot)
fault_detail shape chain NoReplica = []
fault_detail shape chain SignedTwice = []
fault_detail shape chain Misfit = misfit_text chain.slot chain.value [] chain.signatures
fault_detail shape chain BadRequest = []

-- the details of a chain's fate
abbrev pub fate_detail : Shape → Option Chain → Fate → List ℕ
fate_detail shape None fate = []
fate_detail shape (Some chain) First = []
fate_detail shape (Some chain) Second = []
fate_detail shape (Some chain) NotNew = []
fate_detail shape (Some chain) OneTooMany = []
fate_detail shape (Some chain) (Improper fault) = fault_detail shape chain fault

-- the content of a chain with this fate; only the text of the envelope shows a content that is kept already
abbrev pub fate_content : Option Chain → Fate → List ℕ
fate_content None fate = []
fate_content (Some chain) First = codes ", for " ++ content_text (content chain.value)
fate_content (Some chain) Second = codes ", for " ++ content_text (content chain.value)
fate_content (Some chain) NotNew = []
fate_content (Some chain) OneTooMany = codes ", for " ++ content_text (content chain.value)
fate_content (Some chain) (Improper fault) = codes ", for " ++ content_text (content chain.value)

-- what becomes of a chain that is read in this round of its slot, in words
abbrev pub read_end : Shape → Option Chain → ℕ → Fate → List ℕ
read_end shape chain round fate =
    fate_content chain fate ++ (codes ", in its round " ++ (decimal round ++ (codes ": " ++ (fate_text false fate ++ fate_detail shape chain fate))))

-- the end of a chain's line of words
abbrev pub chain_end : Shape → Option Chain → ChainFate → List ℕ
chain_end shape chain NotInFlight = codes ": dropped, as the slot is not in flight"
chain_end shape chain (Read round fate) = read_end shape chain round fate

-- the round of its slot in which a chain is read; 0 if its slot is not in flight
abbrev pub round_of : ChainFate → ℕ
round_of (Read round fate) = round
round_of NotInFlight = 0

-- the word for what becomes of a chain
abbrev pub chain_word : ChainFate → List ℕ
chain_word (Read round fate) = fate_text true fate
chain_word NotInFlight = codes "not-in-flight"

-- what becomes of a chain of this slot, as data, after whose chain it is
abbrev pub chain_data_end : List ℕ → ℕ → ChainFate → List ℕ
chain_data_end shown slot fate = codes " " ++ (decimal slot ++ (codes " " ++ (decimal (round_of fate) ++ (shown ++ (chain_word fate ++ codes "\n")))))

-- what becomes of a chain of this slot, which this actor took, as data
abbrev pub chain_data : Actor → List ℕ → ℕ → ChainFate → List ℕ
chain_data at shown slot fate = codes "chain " ++ (actor_text at ++ chain_data_end shown slot fate)

-- the same in words
abbrev pub chain_words : Shape → Option Chain → List ℕ → ℕ → ChainFate → List ℕ
chain_words shape chain shown slot fate = codes "    chain of slot " ++ (decimal slot ++ (shown ++ (chain_end shape chain fate ++ codes "\n")))

-- what becomes of a chain of this slot; `shown` is a text that describes the chain, about which this definition claims nothing
abbrev pub chain_line : Bool → Shape → Actor → Option Chain → List ℕ → ℕ → ChainFate → List ℕ
chain_line is_data shape at chain shown slot fate = if is_data then chain_data at shown slot fate else chain_words shape chain shown slot fate

-- the end of the line of a chain whose content is not new in this round of its slot: the whole line in words, and in data what follows the actor
abbrev pub not_new_end : Bool → List ℕ → ℕ → ℕ → List ℕ
not_new_end is_data shown slot round =
    if is_data
    then chain_data_end shown slot (Read round NotNew)
    else codes "    chain of slot " ++ (decimal slot ++ (shown ++ ((codes ", in its round " ++ (decimal round ++ (codes ": " ++ fate_text false NotNew))) ++ codes "\n")))

-- a text that describes a chain, as data: its signers and its content
abbrev pub shown_data : Chain → List ℕ
shown_data chain = codes " " ++ (signers_text (signers_of chain.signatures) ++ (codes " " ++ (content_text (content chain.value) ++ codes " ")))

-- the same in words: its signers alone
abbrev pub shown_words : Chain → List ℕ
shown_words chain = codes ", signed by " ++ signers_text (signers_of chain.signatures)

-- ---- what a replica does when a round closes

-- how a chain was kept, as data: the round of its slot in which it was read, its signers and its content
abbrev pub kept_data : Kept → List ℕ
kept_data kept =
    codes " " ++ (decimal kept.round ++ (codes " " ++ (signers_text (signers_of kept.chain.signatures)
    ++ (codes " " ++ content_text (content kept.chain.value)))))

-- the same in words
abbrev pub kept_words : Kept → List ℕ
kept_words kept =
    codes ": " ++ (content_text (content kept.chain.value) ++ (codes ", read in the slot's round " ++ (decimal kept.round
    ++ (codes ", signed by " ++ signers_text (signers_of kept.chain.signatures)))))

-- a chain that was kept
abbrev pub kept_line : Bool → Actor → Kept → List ℕ
kept_line is_data at kept =
    about is_data (codes "kept ") at (codes " has kept of slot ") kept.chain.slot ++ ((if is_data then kept_data kept else kept_words kept) ++ codes "\n")

-- that a round is closed
abbrev pub closed_line : Bool → Actor → ℕ → List ℕ
closed_line is_data at round =
    about is_data (codes "close ") at (codes " has taken from all replicas, and closes round ") round ++ codes "\n"

-- the content that a replica has decided for a slot: idle if it is no loyal replica of the shape, or has not closed the slot
abbrev pub decided_content : Shape → Logs → Actor → ℕ → Option (List Request)
decided_content shape logs (Replica p) slot =
    if nat_lt p shape.n && not (is_traitor shape p) && nat_lt slot (closed_slots shape (rounds shape (logs (Replica p))))
    then content (slot_decided shape (logs (Replica p)) slot)
    else None
decided_content shape logs (Client c) slot = None

-- why a slot has its content, by how many chains were kept for it
abbrev pub kept_text : ℕ → List ℕ
kept_text zero = codes ", as it kept no chain"
kept_text (suc zero) = codes ", the one content that it kept"
kept_text (suc (suc more)) = codes ", as it kept two contents"

-- what was decided for a slot, for which this many chains were kept
abbrev pub decided_line : Bool → Actor → ℕ → ℕ → Option (List Request) → List ℕ
decided_line is_data at slot kept decided =
    about is_data (codes "decide ") at (codes " decides slot ") slot
    ++ (if is_data
    then codes " " ++ (decimal kept ++ (codes " " ++ (content_text decided ++ codes "\n")))
    else codes ": " ++ (content_text decided ++ (kept_text kept ++ codes "\n")))

-- that a request acted, at this place of the history
abbrev pub acted_line : Bool → Actor → ℕ → Request → List ℕ
acted_line is_data at place request =
    if is_data
    then codes "act " ++ (actor_text at ++ (codes " " ++ (decimal place ++ (codes " " ++ (request_token request ++ codes "\n")))))
    else codes "    " ++ (request_token request ++ (codes " acts at " ++ (actor_text at ++ (codes ", at place " ++ (decimal place
    ++ codes " of the history\n")))))

-- that a request did not act
abbrev pub stale_line : Bool → Actor → Request → List ℕ
stale_line is_data at request =
    if is_data
    then codes "stale " ++ (actor_text at ++ (codes " " ++ (request_token request ++ codes "\n")))
    else codes "    " ++ (request_token request ++ (codes " does not act at " ++ (actor_text at
    ++ codes ": a request of its client with this number or a greater one has acted already\n")))

-- ---- what else a replica does

-- that a replica holds a request
abbrev pub held_line : Bool → Actor → Request → List ℕ
held_line is_data at request =
    one_of is_data (codes "hold ") (codes "    ") ++ (actor_text at
    ++ (one_of is_data (codes " ") (codes " holds the request ") ++ (request_token request ++ codes "\n")))

-- that a replica proposes nothing in a slot, though it holds a request
abbrev pub unproposed_line : Bool → Actor → ℕ → Request → List ℕ
unproposed_line is_data at slot request =
    about is_data (codes "unproposed ") at (codes " proposes nothing in slot ") slot
    ++ (one_of is_data (codes " ") (codes ", though it holds ") ++ (request_token request ++ codes "\n"))

-- ---- what a client makes of a reply

-- the beginning of a line about a reply: a word and both actors if data are wanted, otherwise the words, and both in the other order
abbrev pub about_reply : Bool → List ℕ → Actor → List ℕ → Actor → List ℕ
about_reply is_data word at words other =
    if is_data
    then word ++ (actor_text at ++ (codes " " ++ (actor_text other ++ codes " ")))
    else words ++ (actor_text other ++ (codes " at " ++ (actor_text at ++ codes ": ")))

-- that a reply is a vote: how many there are for it then, and how many are needed
abbrev pub vote_line : Bool → Actor → Actor → ℕ → ℕ → List ℕ
vote_line is_data at other count needed =
    if is_data
    then codes "vote " ++ (actor_text at ++ (codes " " ++ (actor_text other ++ (codes " " ++ (decimal count ++ (codes " "
    ++ (decimal needed ++ codes "\n")))))))
    else codes "    a vote of " ++ (actor_text other ++ (codes " at " ++ (actor_text at ++ (codes ": " ++ (decimal count ++ (codes " of "
    ++ (decimal needed ++ codes " needed\n")))))))

-- why an envelope is not a vote
abbrev pub no_vote_text : Bool → NoVote → List ℕ
no_vote_text is_data NoReply = one_of is_data (codes "no-reply") (codes "it is no reply")
no_vote_text is_data NothingOutstanding = one_of is_data (codes "nothing-outstanding") (codes "no request is outstanding")
no_vote_text is_data (OtherNumber number) =
    one_of is_data (codes "other-number ") (codes "request ") ++ (decimal number ++ one_of is_data [] (codes " is outstanding"))
no_vote_text is_data HasVoted = one_of is_data (codes "has-voted") (codes "it has voted, and only its first reply counts")

-- that an envelope is not a vote
abbrev pub no_vote_line : Bool → Actor → Actor → NoVote → List ℕ
no_vote_line is_data at other why =
    if is_data
    then codes "no-vote " ++ (actor_text at ++ (codes " " ++ (actor_text other ++ (codes " " ++ (no_vote_text true why ++ codes "\n")))))
    else codes "    no vote of " ++ (actor_text other ++ (codes " at " ++ (actor_text at ++ (codes ": " ++ (no_vote_text false why ++ codes "\n")))))

-- that a client accepts a reply
abbrev pub accepted_line : Bool → Actor → Reply → List ℕ
accepted_line is_data at reply =
    about is_data (codes "accept ") at (codes " accepts the reply to its request ") reply.number
    ++ (if is_data
    then codes " " ++ (decimal reply.place ++ (codes " " ++ (answer_text reply.answer ++ codes "\n")))
    else codes ": " ++ (answer_text reply.answer ++ (codes ", at place " ++ (decimal reply.place ++ codes "\n"))))

-- ---- all notes

-- the text; an empty one if there is none
abbrev pub or_empty : Option (List ℕ) → List ℕ
or_empty None = []
or_empty (Some text) = text

-- the text at this place; an empty one if there is none
abbrev pub shown_at : List (List ℕ) → ℕ → List ℕ
shown_at texts place = or_empty (slice_get texts place)

-- the line of a note: the logs are those after the event, `chains` are the chains of the envelope that was posted or taken, and `texts` are texts that
-- describe them, about which this definition claims nothing
abbrev pub note_line : Bool → Shape → Logs → Actor → Actor → List Chain → List (List ℕ) → Note → List ℕ
note_line is_data shape logs at other chains texts (OtherRound round) = other_round_line is_data at round
note_line is_data shape logs at other chains texts (ChainNote place slot fate) =
    chain_line is_data shape at (slice_get chains place) (shown_at texts place) slot fate
note_line is_data shape logs at other chains texts (KeptNote kept) = kept_line is_data at kept
note_line is_data shape logs at other chains texts (Closed round) = closed_line is_data at round
note_line is_data shape logs at other chains texts (Decided slot kept) = decided_line is_data at slot kept (decided_content shape logs at slot)
note_line is_data shape logs at other chains texts (Acted slot place request) = acted_line is_data at place request
note_line is_data shape logs at other chains texts (Stale slot request) = stale_line is_data at request
note_line is_data shape logs at other chains texts (Held request) = held_line is_data at request
note_line is_data shape logs at other chains texts (Vote count needed) = vote_line is_data at other count needed
note_line is_data shape logs at other chains texts (NoVoteNote why) = no_vote_line is_data at other why
note_line is_data shape logs at other chains texts (Accepted reply) = accepted_line is_data at reply
note_line is_data shape logs at other chains texts (Unproposed slot request) = unproposed_line is_data at slot request

-- the lines of these notes, one after another
abbrev pub note_lines : Bool → Shape → Logs → Actor → Actor → List Chain → List (List ℕ) → List Note → List ℕ
note_lines is_data shape logs at other chains texts [] = []
note_lines is_data shape logs at other chains texts (note ∷ more) =
    note_line is_data shape logs at other chains texts note ++ note_lines is_data shape logs at other chains texts more

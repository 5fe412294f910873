-- Why a recorded step may not follow, as a text (this project): a line with a word, and the names and numbers that belong to it, if data are
-- wanted; otherwise a sentence.
use Rattle.std.specs.Prelude.{◌≡◌, ◌⊎◌, ◌+◌, ℕ, nat_lt, Bool, List, [], ◌++◌, Option, None, Some, codes, if◌then◌else◌, slice_get}
use Rattle.std.specs.Fmt.{decimal}
use Rattle.dsr_names.specs.Actor.{actor_text}
use Rattle.dsr_names.specs.Shape.{Shape}
use Rattle.dsr_names.specs.declared.actor.Actor.{Actor}
use Rattle.dsr_names.specs.declared.actor.Actor.TheVariants.{Client}
use Rattle.dsr_desk.specs.SignersText.{signers_text}
use Rattle.dsr_desk.specs.StatementText.{statement_text}
use Rattle.dsr_desk.specs.declared.statement.Statement.{Statement}
use Rattle.dsr_chain.specs.Chain.{Chain, signers_of}
use Rattle.dsr_envelope.specs.Limits.{IsEnvelope}
use Rattle.dsr_envelope.specs.declared.envelope.Envelope.{Envelope}
use Rattle.dsr_envelope.specs.declared.envelope.Envelope.TheVariants.{Empty, Round, Ask, Reply, Seen}
use Rattle.dsr_run.specs.Step.{Logs}
use Rattle.dsr_script.specs.EnvelopeText.{envelope_text}
use Rattle.dsr_facts.specs.declared.difference.Difference.{Difference}
use Rattle.dsr_facts.specs.declared.difference.Difference.TheVariants.{OtherKind, OtherRound, Chains, OtherAsk, OtherReply, OtherFront}
use Rattle.dsr_facts.specs.declared.difference.Parting.{Parting}
use Rattle.dsr_facts.specs.declared.difference.Parting.TheVariants.{TooMany, Missing, Misplaced, OtherContent}
use Rattle.dsr_reasons.specs.Reason.{one_of, TellsCause}
use Rattle.dsr_lines.specs.declared.line_fault.LineFault.{LineFault}
use Rattle.dsr_lines.specs.declared.line_fault.LineFault.TheVariants.{Refused, OtherHeld, OtherPosted, SignedOutside, ClientTwice}
use Rattle.dsr_transcripts.specs.Standing.{current_number}

-- ---- how an envelope differs from the one that the actor posts there

-- the round of an envelope, if it is of one
abbrev pub round_in : Envelope → Option ℕ
round_in Empty = None
round_in (Round round chains) = Some round
round_in (Ask ask) = None
round_in (Reply reply) = None
round_in (Seen front) = None

-- the number of the request that an envelope asks for, if it is an ask
abbrev pub number_in : Envelope → Option ℕ
number_in Empty = None
number_in (Round round chains) = None
number_in (Ask ask) = Some ask.request.number
number_in (Reply reply) = None
number_in (Seen front) = None

-- the chains of an envelope; only one of a round has any
abbrev pub chains_in : Envelope → List Chain
chains_in Empty = []
chains_in (Round round chains) = chains
chains_in (Ask ask) = []
chains_in (Reply reply) = []
chains_in (Seen front) = []

-- a word and two numbers, or a sentence with both
abbrev pub numbers_text : Bool → List ℕ → List ℕ → ℕ → List ℕ → ℕ → List ℕ
numbers_text is_data word before number between other =
    one_of is_data word before ++ (decimal number ++ (one_of is_data (codes " ") between ++ decimal other))

-- the round in progress, and that of the envelope; two envelopes of rounds have both
abbrev pub rounds_text : Bool → Option ℕ → Option ℕ → List ℕ
rounds_text is_data (Some ours) (Some theirs) =
    numbers_text is_data (codes "other-round ") (codes "it is in round ") ours (codes ", and the envelope is of round ") theirs
rounds_text is_data ours theirs = []

-- the word for what is wrong with a chain
abbrev pub parting_word : Parting → List ℕ
parting_word TooMany = codes "chain-too-many "
parting_word Missing = codes "chain-missing "
parting_word Misplaced = codes "chain-misplaced "
parting_word OtherContent = codes "chain-other-content "

-- the end of the sentence about it
abbrev pub parting_end : Parting → List ℕ
parting_end TooMany = codes ", is one too many"
parting_end Missing = codes ", is missing"
parting_end Misplaced = codes ", is in the wrong place"
parting_end OtherContent = codes ", has another content or signature there"

-- what is wrong with the chain that has this number in its envelope, counted from 1: then its slot and its signers
abbrev pub chain_text : Bool → ℕ → Chain → Parting → List ℕ
chain_text is_data number chain how =
    one_of is_data (parting_word how) (codes "its chain ") ++ (decimal number
    ++ (one_of is_data (codes " ") (codes ", of slot ") ++ (decimal chain.slot
    ++ (one_of is_data (codes " ") (codes " and signed by ") ++ (signers_text (signers_of chain.signatures)
    ++ one_of is_data [] (parting_end how))))))

-- what is wrong with the chain at a place, counted from 0; lists that part there have one
abbrev pub parted_text : Bool → ℕ → Option Chain → Parting → List ℕ
parted_text is_data place (Some chain) how = chain_text is_data (place + 1) chain how
parted_text is_data place None how = []

-- of a wanted and a posted envelope, the one that has the wrong chain: a missing chain is one of the wanted envelope, any
-- other chain one of the posted envelope
abbrev pub parted_of : {X : Type 0} → Parting → X → X → X
parted_of TooMany wanted posted = posted
parted_of Missing wanted posted = wanted
parted_of Misplaced wanted posted = posted
parted_of OtherContent wanted posted = posted

-- what is wrong with an ask if no request is outstanding: its number is below or above that of the client's next request, or it is the same, and
-- the request or its signature is not the client's own
abbrev pub new_ask_text : Bool → ℕ → ℕ → List ℕ
new_ask_text is_data next number =
    if nat_lt number next
    then numbers_text is_data (codes "number-used ") (codes "its request ") number (codes " is answered, and its next one is ") next
    else if nat_lt next number
    then numbers_text is_data (codes "number-too-high ") (codes "the number ") number (codes " is too high: its next request is ") next
    else one_of is_data (codes "not-own") (codes "the request or its signature is not its own")

-- what is wrong with an ask, by the number of the outstanding request, that of the request for which the client asks there, and that of the ask; two
-- asks have the last two
abbrev pub ask_text : Bool → Option ℕ → Option ℕ → Option ℕ → List ℕ
ask_text is_data None (Some next) (Some number) = new_ask_text is_data next number
ask_text is_data (Some current) (Some next) (Some number) =
    numbers_text is_data (codes "other-outstanding ") (codes "its ask ") number (codes " is not for its outstanding request ") next
ask_text is_data current next number = []

-- how the posted envelope differs from the wanted one; `current` is the number of the actor's outstanding request
abbrev pub difference_text : Bool → Option ℕ → Envelope → Envelope → Difference → List ℕ
difference_text is_data current wanted posted OtherKind =
    one_of is_data (codes "other-kind") (codes "it posts an envelope of another kind there")
difference_text is_data current wanted posted OtherRound = rounds_text is_data (round_in wanted) (round_in posted)
difference_text is_data current wanted posted (Chains place how) =
    parted_text is_data place (slice_get (chains_in (parted_of how wanted posted)) place) how
difference_text is_data current wanted posted OtherAsk = ask_text is_data current (number_in wanted) (number_in posted)
difference_text is_data current wanted posted OtherReply = one_of is_data (codes "other-reply") (codes "it gives another reply there")
difference_text is_data current wanted posted OtherFront = one_of is_data (codes "other-front") (codes "its seen front is another")

-- ---- the whole reason

-- the line of a reason
abbrev pub why_line : Bool → List ℕ → List ℕ
why_line is_data reason = one_of is_data (codes "why ") (codes "    because ") ++ (reason ++ codes "\n")

-- the text is that of the envelope; a dash for one beyond the limits, which has none
abbrev pub IsShown : Envelope → List ℕ → Type 0
IsShown envelope text = (IsEnvelope envelope × (text ≡ envelope_text envelope)) ⊎ ((¬ IsEnvelope envelope) × (text ≡ codes "-"))

-- the text says how the posted envelope differs from the wanted one, and shows the wanted one
pub record TellsDifference (is_data : Bool) (current : Option ℕ) (wanted posted : Envelope) (how : Difference) (text : List ℕ) : Type 0 where
  pub shown : List ℕ
  pub is : IsShown wanted shown
  pub told :
      text ≡ why_line is_data (difference_text is_data current wanted posted how)
      ++ (one_of is_data (codes "wanted ") (codes "    it posts there: ") ++ (shown ++ codes "\n"))

-- that the box holds another envelope than the one that is taken
abbrev pub other_held_text : Bool → List ℕ
other_held_text is_data = one_of is_data (codes "other-held") (codes "the box holds another envelope")

-- whose signature on what it is that nobody of the shape can make
abbrev pub outside_text : Bool → Actor → Statement → List ℕ
outside_text is_data signer statement =
    one_of is_data (codes "signed-outside ") (codes "it carries a signature of ") ++ (actor_text signer
    ++ (one_of is_data (codes " ") (codes ", who is no actor of this shape, on ") ++ statement_text statement))

-- that the replica begins a slot of its own with more than one request of this client
abbrev pub twice_text : Bool → ℕ → List ℕ
twice_text is_data c = one_of is_data (codes "client-twice ") (codes "it begins its slot with more than one request of ") ++ actor_text (Client c)

-- the text says why a step of this actor may not follow: a cause that holds of the event that it would be, in the words of `dsr_reasons`; that the box
-- holds another envelope; how the envelope differs from the one that the actor posts there; which signature nobody of the shape can make; or of which
-- client the replica begins its slot with more than one request
abbrev pub IsWhy : Bool → Shape → Logs → Actor → LineFault → List ℕ → Type 0
IsWhy is_data shape logs actor (Refused event cause) text = TellsCause shape logs event is_data [] text
IsWhy is_data shape logs actor OtherHeld text = text ≡ why_line is_data (other_held_text is_data)
IsWhy is_data shape logs actor (OtherPosted wanted posted how) text = TellsDifference is_data (current_number shape logs actor) wanted posted how text
IsWhy is_data shape logs actor (SignedOutside s) text = text ≡ why_line is_data (outside_text is_data s.signer s.statement)
IsWhy is_data shape logs actor (ClientTwice c) text = text ≡ why_line is_data (twice_text is_data c)

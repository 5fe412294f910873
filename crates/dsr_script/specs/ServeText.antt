-- How texts write serve scripts (this project): a header `dsr-serve 1 n f m traitors`, then lines in any order, `ask C OPERATION` and
-- `script R ROUND TO ENVELOPE`. Lines are listed newest first: the last line is the first of the list.
use Rattle.std.specs.Prelude.{◌≡◌, ℕ, ◌<◌, ◌^◌, true, nat_eq, if◌then◌else◌, List, [], ◌∷◌, ◌++◌, codes, Option, None, Some}
use Rattle.std.specs.Fmt.{decimal}
use Rattle.dsr_names.specs.Actor.{IsNumbered, actor_text, replica_text}
use Rattle.dsr_names.specs.declared.actor.Actor.TheVariants.{Client}
use Rattle.dsr_names.specs.Shape.{Shape, IsActor, is_traitor}
use Rattle.dsr_request.specs.declared.op.Op.{Op}
use Rattle.dsr_request.specs.OpText.{op_text, IsOp}
use Rattle.dsr_envelope.specs.declared.envelope.Envelope.{Envelope}
use Rattle.dsr_script.specs.declared.place.Place.{Place}
use Rattle.dsr_script.specs.declared.serve_line.ServeLine.{ServeLine}
use Rattle.dsr_script.specs.declared.serve_line.ServeLine.TheVariants.{Ask, Post}
use Rattle.dsr_script.specs.EnvelopeText.{envelope_text, IsSpelledEnvelope}
use Rattle.dsr_text.specs.Lines.{TextKind}
use Rattle.dsr_script.specs.Support.PlaceEquality.{place_eq}

-- ---- one line

-- the first word of a line
abbrev pub line_word : ServeLine → List ℕ
line_word (Ask client op) = codes "ask"
line_word (Post place envelope) = codes "script"

-- what follows the word and a space: a client and its operation, or the traitor, the round, the other end and the envelope
abbrev pub line_rest : ServeLine → List ℕ
line_rest (Ask client op) = actor_text (Client client) ++ 32 ∷ op_text 32 op
line_rest (Post place envelope) =
    replica_text place.from ++ 32 ∷ (decimal place.round ++ 32 ∷ (actor_text place.to ++ 32 ∷ envelope_text envelope))

-- the text of a line, without its line feed
abbrev pub line_text : ServeLine → List ℕ
line_text line = line_word line ++ 32 ∷ line_rest line

-- a line that a text can write
abbrev pub IsLine : ServeLine → Type 0
IsLine (Ask client op) = (client < 32) × IsOp op
IsLine (Post place envelope) = (place.from < 16) × (place.round < 2 ^ 40) × IsNumbered place.to × IsSpelledEnvelope envelope

-- ---- what lines give

-- the operations that lines give to a client, in the order of the lines
abbrev pub asked_by : List ServeLine → ℕ → List Op
asked_by [] client = []
asked_by (Ask of op ∷ earlier) client = if nat_eq of client then asked_by earlier client ++ op ∷ [] else asked_by earlier client
asked_by (Post at envelope ∷ earlier) client = asked_by earlier client

-- the envelope that lines have at a place
abbrev pub drafted_at : List ServeLine → Place → Option Envelope
drafted_at [] place = None
drafted_at (Ask of op ∷ earlier) place = drafted_at earlier place
drafted_at (Post at envelope ∷ earlier) place = if place_eq at place then Some envelope else drafted_at earlier place

-- ---- lines one after another

-- a replica of the shape that is a traitor
abbrev pub IsTraitor : Shape → ℕ → Type 0
IsTraitor shape r = (r < shape.n) × (is_traitor shape r ≡ true)

-- a line that can follow these: its client is of the shape; its traitor is one of the shape, the other end is of the shape, and
-- no earlier line is for the same place
abbrev pub CanFollow : Shape → List ServeLine → ServeLine → Type 0
CanFollow shape earlier (Ask client op) = IsActor shape (Client client)
CanFollow shape earlier (Post place envelope) = IsTraitor shape place.from × IsActor shape place.to × (drafted_at earlier place ≡ None)

-- serve scripts: texts that consist of a header and lines
abbrev pub serve_scripts : TextKind ServeLine
serve_scripts = record { title = codes "dsr-serve 1"; line_text = line_text; IsLine = IsLine; CanFollow = CanFollow }

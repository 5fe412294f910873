-- What `explain` leaves, by what it returns, and by what of a play is to be explained, as data or in words (this project).
use Rattle.std.specs.Prelude.{◌≡◌, ◌≢◌, ◌⊎◌, ◌≤◌, ◌==◌, Bool, true, false, List, ℕ, Option, None, Some, codes, length}
use Rattle.std.specs.Io.KnownBytes.{Keeps}
use Rattle.std.specs.List.{starts_with}
use Rattle.dsr_names.specs.Limits.{most_bytes}
use Rattle.dsr_names.specs.Streams.{Output, Streams, CanFailToGive, CanFailToTake, SentAll, SentPrefix}
use Rattle.dsr_names.specs.declared.refusal.Refusal.{Refusal}
use Rattle.dsr_names.specs.declared.refusal.Refusal.TheVariants.{BadShape, BadText, NoMemory, NotARun, ReadFailed, WriteFailed}
use Rattle.dsr_history.specs.Applied.{IsTextOf}
use Rattle.dsr_command.specs.declared.narrowing.Narrowing.{Narrowing}
use Rattle.dsr_cli.specs.Served.{IsAfterTelling}
use Rattle.dsr_explain.specs.Told.{Begins, Explains}
use Rattle.dsr_explain.specs.declared.wanted.Wanted.{Wanted}
use Rattle.dsr_play.specs.Play.{IsPlayRefusal}
use Rattle.dsr_transcripts.specs.Account.{TellsTranscript}

-- whether the text begins with the title of a transcript, of any version
abbrev pub is_transcript : List ℕ → Bool
is_transcript text = starts_with (◌==◌) text (codes "dsr-transcript ")

-- what is wanted of a play by the words of a command line
abbrev pub wanted_of : Narrowing → Wanted
wanted_of narrowing = record { slot = narrowing.slot; actor = narrowing.actor; refused = narrowing.refused; «data» = narrowing.as_data }

-- what `told` says about a text that is no transcript: it explains the play that the text encodes; and a fault, if there is one, is a reason to refuse the
-- text as a play, other than lack of memory
abbrev pub TellsOfPlay : List ℕ → Wanted → Option Refusal → List ℕ → Type 0
TellsOfPlay text wanted None told = Explains text wanted told
TellsOfPlay text wanted (Some fault) told = (fault ≢ NoMemory) × IsPlayRefusal text fault

-- what `told` says about a text that has this fault: of a transcript that its steps are a run, or where and why they stop being one; of any other text
-- what came of a play
abbrev pub IsExplained : List ℕ → Narrowing → Option Refusal → List ℕ → Type 0
IsExplained text narrowing fault told =
    ((is_transcript text ≡ true) × TellsTranscript text narrowing.as_data fault told)
    ⊎ ((is_transcript text ≡ false) × TellsOfPlay text (wanted_of narrowing) fault told)

-- `told` begins to explain the play that the text encodes
abbrev pub IsBegun : List ℕ → Narrowing → List ℕ → Type 0
IsBegun text narrowing told = (is_transcript text ≡ false) × Begins text (wanted_of narrowing) told

-- all of an explanation of the text that the source gave went out
pub record ExplainedTo (narrowing : Narrowing) (fault : Option Refusal) (s : Streams) : Type 0 where
  pub text : List ℕ
  pub short : length text ≤ most_bytes
  pub given : IsTextOf s.input.left text
  pub told : List ℕ
  pub explained : IsExplained text narrowing fault told
  pub went_out : SentAll told s.output s.written

-- the beginning of an explanation of the text went out, and no more
pub record ExplainedSome (narrowing : Narrowing) (s : Streams) : Type 0 where
  pub text : List ℕ
  pub short : length text ≤ most_bytes
  pub given : IsTextOf s.input.left text
  pub told : List ℕ
  pub begun : IsBegun text narrowing told
  pub went_out : SentAll told s.output s.written

-- a prefix of an explanation of the text, or of the beginning of one, went out; the sink was one that may not take all of that
pub record ExplainedPart (narrowing : Narrowing) (s : Streams) : Type 0 where
  pub text : List ℕ
  pub short : length text ≤ most_bytes
  pub given : IsTextOf s.input.left text
  pub told : List ℕ
  pub explained : ((fault : Option Refusal) × IsExplained text narrowing fault told) ⊎ IsBegun text narrowing told
  pub too_many : CanFailToTake (length told) s.output
  pub went_out : SentPrefix told s.output s.written

-- all of an explanation went out, and no fault is reported
abbrev pub ExplainedAll : Narrowing → Streams → Type 0
ExplainedAll narrowing s = ExplainedTo narrowing None s

-- what each refusal leaves: a text that is neither a play nor a transcript is refused by what is wrong with it, and a transcript whose steps are not a
-- run by the line at which they stop being one: an explanation was written; if memory ran out, the beginning of one was, or nothing; if reading failed,
-- which a steady source does only for too many bytes, nothing was written; if writing failed, a prefix was; no other refusal occurs
abbrev pub LeftAfterExplain : Narrowing → Refusal → Streams → Type 0
LeftAfterExplain narrowing BadShape s = ExplainedTo narrowing (Some BadShape) s
LeftAfterExplain narrowing (BadText line) s = ExplainedTo narrowing (Some (BadText line)) s
LeftAfterExplain narrowing (NotARun line) s = ExplainedTo narrowing (Some (NotARun line)) s
LeftAfterExplain narrowing NoMemory s = Keeps s.output.contents s.written.contents ⊎ ExplainedSome narrowing s
LeftAfterExplain narrowing ReadFailed s = CanFailToGive s.input × Keeps s.output.contents s.written.contents
LeftAfterExplain narrowing WriteFailed s = ExplainedPart narrowing s
LeftAfterExplain narrowing other s = ⊥

-- what each refusal leaves of an explanation of a transcript, which goes out at once; no public contract cites this: if memory ran out, nothing; otherwise
-- what is left after writing
abbrev pub LeftAfterSteps : List ℕ → Bool → Refusal → (before after : Output) → Type 0
LeftAfterSteps text is_data refusal before after =
    ((refusal ≡ NoMemory) × Keeps before.contents after.contents)
    ⊎ ((fault : Option Refusal) × (told : List ℕ) × TellsTranscript text is_data fault told × IsAfterTelling told fault before after refusal)

-- What is left after an explanation that was written, or could not be.
use Rattle.std.proofs.Common.{◌≡◌, ◌≢◌, ◌⊎◌, ◌≤◌, ℕ, Bool, true, false, List, length, inl, inr, refl, subst, sym}
use Rattle.std.specs.Prelude.{Option, None, Some, Result, Ok, Err, IfErr, OnOk}
use Rattle.dsr_names.specs.Limits.{most_bytes}
use Rattle.dsr_names.specs.Streams.{Streams, CanFailToTake, SentAll, SentPrefix}
use Rattle.dsr_names.specs.declared.refusal.Refusal.{Refusal}
use Rattle.dsr_names.specs.declared.refusal.Refusal.TheVariants.{BadShape, BadName, BadNumber, Busy, NotDue, BoxFull, BoxEmpty, Forged, Exhausted, Stopped, Unanswered, NoMemory, BadText, NotARun, NoActor, WrongRole, ReadFailed, WriteFailed, NoThread}
use Rattle.dsr_command.specs.declared.narrowing.Narrowing.{Narrowing}
use Rattle.dsr_history.specs.Applied.{IsTextOf}
use Rattle.dsr_explain.specs.Told.{Explains, LeftAfterFault, LeftOfExplanation, LeftAfterTelling}
use Rattle.dsr_play.specs.Play.{IsPlayRefusal, Play, Spells}
use Rattle.dsr_record.specs.Record.{Record}
use Rattle.dsr_record.specs.RecordText.{IsRecordRefusal}
use Rattle.dsr_transcripts.specs.Account.{TellsRecord, TellsTranscript}
use Rattle.dsr_cli.specs.Explained.{ExplainedAll, ExplainedPart, ExplainedTo, IsBegun, IsExplained, LeftAfterExplain, LeftAfterSteps, is_transcript, wanted_of}
use Rattle.dsr_cli.specs.Served.{IsAfterTelling}
use Rattle.dsr_reports.proofs.PlayedLemmas.{kept}

-- what follows of a result that is good, and of one that is bad
pub from_ok : (r : Result (Unit {0}) Refusal) (P Q : Type 0) → (P → Q) → OnOk r P → OnOk r Q
from_ok (Ok nothing) P Q more p = more p
from_ok (Err refusal) P Q more p = tt

pub from_err : (r : Result (Unit {0}) Refusal) (P Q : Refusal → Type 0) → ((refusal : Refusal) → P refusal → Q refusal) → IfErr r P → IfErr r Q
from_err (Ok nothing) P Q more p = tt
from_err (Err refusal) P Q more p = more refusal p

-- no text has a fault for which neither plays nor transcripts are refused, and which tells nothing about a record; lack of memory is no fault
module _ (fault : Refusal) (play : (text : List ℕ) → (fault ≢ NoMemory) × IsPlayRefusal text fault → ⊥)
    (transcript : (text : List ℕ) → (fault ≢ NoMemory) × IsRecordRefusal text fault → ⊥)
    (steps : (is_data : Bool) (recorded : Record) (told : List ℕ) → TellsRecord is_data recorded (Some fault) told → ⊥) where
  untold : (text : List ℕ) (narrowing : Narrowing) (told : List ℕ) → IsExplained text narrowing (Some fault) told → ⊥
  untold text narrowing told (inl (is, inl t)) = steps narrowing.as_data t.recorded told t.tells
  untold text narrowing told (inl (is, inr u)) = transcript text u
  untold text narrowing told (inr (is, p)) = play text p

  impossible : (narrowing : Narrowing) (s : Streams) → ExplainedTo narrowing (Some fault) s → LeftAfterExplain narrowing fault s
  impossible narrowing s h = absurd (untold h.text narrowing h.told h.explained)

-- an explanation of a text with this fault is what the refusal with that name leaves; other faults are impossible
fault_left : (narrowing : Narrowing) (s : Streams) (fault : Refusal) → ExplainedTo narrowing (Some fault) s → LeftAfterExplain narrowing fault s
fault_left narrowing s BadShape h = h
fault_left narrowing s (BadText line) h = h
fault_left narrowing s (NotARun line) h = h
fault_left narrowing s NoMemory h = impossible NoMemory (λ text x. x.0 refl) (λ text x. x.0 refl) (λ d r told x. x) narrowing s h
fault_left narrowing s Exhausted h = impossible Exhausted (λ text x. x.1) (λ text x. x.1) (λ d r told x. x) narrowing s h
fault_left narrowing s Unanswered h = impossible Unanswered (λ text x. x.1) (λ text x. x.1) (λ d r told x. x) narrowing s h
fault_left narrowing s NoThread h = impossible NoThread (λ text x. x.1) (λ text x. x.1) (λ d r told x. x) narrowing s h
fault_left narrowing s Stopped h = impossible Stopped (λ text x. x.1) (λ text x. x.1) (λ d r told x. x) narrowing s h
fault_left narrowing s BadName h = impossible BadName (λ text x. x.1) (λ text x. x.1) (λ d r told x. x) narrowing s h
fault_left narrowing s BadNumber h = impossible BadNumber (λ text x. x.1) (λ text x. x.1) (λ d r told x. x) narrowing s h
fault_left narrowing s Busy h = impossible Busy (λ text x. x.1) (λ text x. x.1) (λ d r told x. x) narrowing s h
fault_left narrowing s NotDue h = impossible NotDue (λ text x. x.1) (λ text x. x.1) (λ d r told x. x) narrowing s h
fault_left narrowing s BoxFull h = impossible BoxFull (λ text x. x.1) (λ text x. x.1) (λ d r told x. x) narrowing s h
fault_left narrowing s BoxEmpty h = impossible BoxEmpty (λ text x. x.1) (λ text x. x.1) (λ d r told x. x) narrowing s h
fault_left narrowing s Forged h = impossible Forged (λ text x. x.1) (λ text x. x.1) (λ d r told x. x) narrowing s h
fault_left narrowing s NoActor h = impossible NoActor (λ text x. x.1) (λ text x. x.1) (λ d r told x. x) narrowing s h
fault_left narrowing s WrongRole h = impossible WrongRole (λ text x. x.1) (λ text x. x.1) (λ d r told x. x) narrowing s h
fault_left narrowing s ReadFailed h = impossible ReadFailed (λ text x. x.1) (λ text x. x.1) (λ d r told x. x) narrowing s h
fault_left narrowing s WriteFailed h = impossible WriteFailed (λ text x. x.1) (λ text x. x.1) (λ d r told x. x) narrowing s h

module _ (s : Streams) (text : List ℕ) (narrowing : Narrowing) (short : length text ≤ most_bytes) (given : IsTextOf s.input.left text) where
  -- all of an explanation went out
  all_told : (fault : Option Refusal) (told : List ℕ) → IsExplained text narrowing fault told → SentAll told s.output s.written → ExplainedTo narrowing fault s
  all_told fault told explained out = record { text = text; short = short; given = given; told = told; explained = explained; went_out = out }

  -- a prefix of an explanation, or of its beginning, went out
  part_told : (told : List ℕ) → ((fault : Option Refusal) × IsExplained text narrowing fault told) ⊎ IsBegun text narrowing told
      → CanFailToTake (length told) s.output → SentPrefix told s.output s.written → ExplainedPart narrowing s
  part_told told explained many out =
      record { text = text; short = short; given = given; told = told; explained = explained; too_many = many; went_out = out }

  -- what each refusal left of an explanation that was to be written
  left : (fault : Option Refusal) (told : List ℕ) → IsExplained text narrowing fault told → (refusal : Refusal)
      → IsAfterTelling told fault s.output s.written refusal → LeftAfterExplain narrowing refusal s
  left fault told explained refusal (inl all) =
      fault_left narrowing s refusal (subst (λ (f : Option Refusal). ExplainedTo narrowing f s) all.0 (all_told fault told explained all.1))
  left fault told explained refusal (inr (inl part)) = subst (λ e. LeftAfterExplain narrowing e s) (sym part.0)
      (part_told told (inl (fault, explained)) part.1 part.2)
  left fault told explained refusal (inr (inr none)) =
      subst (λ e. LeftAfterExplain narrowing e s) (sym none.0) (inl (kept s.output.contents s.written.contents none.1))

  -- ---- a transcript

  module _ (is : is_transcript text ≡ true) where
    pub steps_explained : (told : List ℕ) × TellsTranscript text narrowing.as_data None told × SentAll told s.output s.written → ExplainedAll narrowing s
    steps_explained (told, tells, out) = all_told None told (inl (is, tells)) out

    pub steps_left : (refusal : Refusal) → LeftAfterSteps text narrowing.as_data refusal s.output s.written → LeftAfterExplain narrowing refusal s
    steps_left refusal (inl (e, none)) = subst (λ r. LeftAfterExplain narrowing r s) (sym e) (inl none)
    steps_left refusal (inr (fault, told, tells, after)) = left fault told (inl (is, tells)) refusal after

  -- ---- a play

  module _ (other : is_transcript text ≡ false) where
    pub play_explained : (told : List ℕ) × Explains text (wanted_of narrowing) told × SentAll told s.output s.written → ExplainedAll narrowing s
    play_explained (told, tells, out) = all_told None told (inr (other, tells)) out

    of_play : (play : Play) → Spells text play → (refusal : Refusal) → LeftOfExplanation (wanted_of narrowing) play refusal s.output s.written
        → LeftAfterExplain narrowing refusal s
    of_play play spells NoMemory (inl none) = inl none
    of_play play spells NoMemory (inr (told, begins, out)) =
        inr (record { text = text; short = short; given = given; told = told; begun = (other, (play, spells, begins)); went_out = out })
    of_play play spells WriteFailed (told, inl tells, many, out) = part_told told (inl (None, inr (other, (play, spells, tells)))) many out
    of_play play spells WriteFailed (told, inr begins, many, out) = part_told told (inr (other, (play, spells, begins))) many out
    of_play play spells BadShape h = absurd h
    of_play play spells BadName h = absurd h
    of_play play spells BadNumber h = absurd h
    of_play play spells Busy h = absurd h
    of_play play spells NotDue h = absurd h
    of_play play spells BoxFull h = absurd h
    of_play play spells BoxEmpty h = absurd h
    of_play play spells Forged h = absurd h
    of_play play spells Exhausted h = absurd h
    of_play play spells Stopped h = absurd h
    of_play play spells Unanswered h = absurd h
    of_play play spells NoActor h = absurd h
    of_play play spells WrongRole h = absurd h
    of_play play spells ReadFailed h = absurd h
    of_play play spells NoThread h = absurd h
    of_play play spells (BadText line) h = absurd h
    of_play play spells (NotARun line) h = absurd h

    of_fault : (fault : Refusal) → (fault ≢ NoMemory) × IsPlayRefusal text fault → (refusal : Refusal) → LeftAfterFault fault refusal s.output s.written
        → LeftAfterExplain narrowing refusal s
    of_fault fault is refusal (inl (e, all)) =
        subst (λ r. LeftAfterExplain narrowing r s) (sym e) (fault_left narrowing s fault (all_told (Some fault) all.0 (inr (other, is)) all.1))
    of_fault fault is refusal (inr (e, part)) = subst (λ r. LeftAfterExplain narrowing r s) (sym e)
        (part_told part.0 (inl (Some fault, inr (other, is))) part.1 part.2)

    pub play_left : (refusal : Refusal) → LeftAfterTelling text (wanted_of narrowing) refusal s.output s.written → LeftAfterExplain narrowing refusal s
    play_left refusal (inl (play, spells, after)) = of_play play spells refusal after
    play_left refusal (inr (inl (fault, starved, is, after))) = of_fault fault (starved, is) refusal after
    play_left refusal (inr (inr (e, none))) = subst (λ r. LeftAfterExplain narrowing r s) (sym e) (inl none)

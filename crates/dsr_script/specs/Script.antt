-- Scripts as contracts see them, and the texts from which they are read (this project).
use Rattle.std.specs.Prelude.{◌≡◌, ℕ, List, [], get_or, Option}
use Rattle.std.specs.Map.{lookup}
use Rattle.dsr_names.specs.Shape.{Shape, IsAllowed}
use Rattle.dsr_names.specs.declared.actor.Actor.{Actor}
use Rattle.dsr_names.specs.declared.refusal.Refusal.{Refusal}
use Rattle.dsr_request.specs.declared.op.Op.{Op}
use Rattle.dsr_envelope.specs.declared.envelope.Envelope.{Envelope}
use Rattle.dsr_text.specs.Header.{BeginsWithHeader}
use Rattle.dsr_text.specs.Lines.{BeginsWithLines, IsTextRefusal}
use Rattle.dsr_script.specs.declared.place.Place.{Place}
use Rattle.dsr_script.specs.declared.serve_line.ServeLine.{ServeLine}
use Rattle.dsr_script.specs.ServeText.{asked_by, drafted_at, serve_scripts}
use Rattle.dsr_script.specs.Support.PlaceEquality.{place_eq}

-- a shape, the operations of each client, and the drafts by their places
pub record Script : Type 0 where
  pub shape : Shape
  pub ops : List (List Op)
  pub drafts : List (Place × Envelope)

-- a client's operations, in order; none for a client outside the shape
abbrev pub ops_of : Script → ℕ → List Op
ops_of script client = get_or script.ops client []

-- the place with these three
abbrev pub place_of : ℕ → ℕ → Actor → Place
place_of from round to = record { from = from; round = round; to = to }

-- the draft at a place; `None` for a place without one
abbrev pub draft_at : Script → Place → Option Envelope
draft_at script place = lookup (place_eq place) script.drafts

-- two scripts that nobody can tell apart: with one shape, the same operations for each client and the same drafts
pub record SaysTheSame (script other : Script) : Type 0 where
  pub shape : script.shape ≡ other.shape
  pub ops : (client : ℕ) → ops_of script client ≡ ops_of other client
  pub drafts : (place : Place) → draft_at script place ≡ draft_at other place

-- the script has what these lines give: each client's operations, and the draft at each place
pub record Gives (lines : List ServeLine) (script : Script) : Type 0 where
  pub ops : (client : ℕ) → ops_of script client ≡ asked_by lines client
  pub drafts : (place : Place) → draft_at script place ≡ drafted_at lines place

-- the text is that of the script: a header with the script's shape, which is allowed, and lines which give the script
pub record Spells (text : List ℕ) (script : Script) : Type 0 where
  pub after : List ℕ
  pub header : BeginsWithHeader serve_scripts.title text script.shape after
  pub allowed : IsAllowed script.shape
  pub lines : List ServeLine
  pub begins : BeginsWithLines serve_scripts after script.shape lines []
  pub gives : Gives lines script

-- what each refusal says about the text
abbrev pub IsScriptRefusal : List ℕ → Refusal → Type 0
IsScriptRefusal = IsTextRefusal serve_scripts

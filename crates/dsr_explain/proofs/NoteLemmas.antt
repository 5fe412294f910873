-- The lines of several notes.
use Rattle.std.proofs.Common.{◌≡◌, ◌∙◌, ℕ, Bool, true, false, List, [], ◌∷◌, ◌++◌, append_assoc, Option, None, Some, ap, codes, refl, sym, if◌then◌else◌}
use Rattle.std.proofs.lemmas.List.{append-nil}
use Rattle.dsr_names.specs.Shape.{Shape}
use Rattle.dsr_names.specs.Actor.{actor_text}
use Rattle.dsr_names.specs.declared.actor.Actor.{Actor}
use Rattle.dsr_chain.specs.Chain.{Chain}
use Rattle.dsr_slot.specs.declared.fate.Fate.TheVariants.{NotNew}
use Rattle.dsr_run.specs.Step.{Logs}
use Rattle.dsr_notes.specs.declared.note.ChainFate.{ChainFate}
use Rattle.dsr_notes.specs.declared.note.ChainFate.TheVariants.{Read}
use Rattle.dsr_notes.specs.declared.note.Note.{Note}
use Rattle.dsr_explain.specs.Lines.{chain_line, not_new_end, note_line, note_lines}

-- a chain's line, by equal parts
pub same_line : (is_data : Bool) (shape other : Shape) (at by : Actor) (chain found : Option Chain) (shown text : List ℕ) (slot : ℕ) (fate : ChainFate)
    → shape ≡ other → at ≡ by → chain ≡ found → shown ≡ text
    → chain_line is_data shape at chain shown slot fate ≡ chain_line is_data other by found text slot fate
same_line is_data shape other at by chain found shown text slot fate a b d e = rw (a, b, d, e) refl

-- the line of a chain that is not new is its end, and before that of data the actor
pub not_new_line : (is_data : Bool) (shape : Shape) (at : Actor) (chain : Option Chain) (shown : List ℕ) (slot round : ℕ)
    → chain_line is_data shape at chain shown slot (Read round NotNew)
    ≡ (if is_data then codes "chain " ++ (actor_text at ++ not_new_end is_data shown slot round) else not_new_end is_data shown slot round)
not_new_line true shape at chain shown slot round = refl
not_new_line false shape at None shown slot round = refl
not_new_line false shape at (Some chain) shown slot round = refl

module _ (is_data : Bool) (shape : Shape) (logs : Logs) (at other : Actor) (chains : List Chain) (texts : List (List ℕ)) where
  -- the lines with one more note
  pub lines_more : (notes : List Note) (note : Note)
      → note_lines is_data shape logs at other chains texts (notes ++ note ∷ [])
      ≡ note_lines is_data shape logs at other chains texts notes ++ note_line is_data shape logs at other chains texts note
  lines_more [] note = append-nil (note_line is_data shape logs at other chains texts note)
  lines_more (first ∷ notes) note =
      ap (λ t. note_line is_data shape logs at other chains texts first ++ t) (lines_more notes note)
      ∙ sym (append_assoc (note_line is_data shape logs at other chains texts first) (note_lines is_data shape logs at other chains texts notes)
      (note_line is_data shape logs at other chains texts note))

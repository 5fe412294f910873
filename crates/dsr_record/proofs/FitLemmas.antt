-- Steps that can be in a transcript, in the order of the record and in that of the run.
use Rattle.std.proofs.Common.{◌↔◌, List, [], ◌∷◌, sym, subst}
use Rattle.std.specs.Prelude.{All, reverse}
use Rattle.std.proofs.lemmas.List.{reverse-append, reverse-reverse}
use Rattle.std.proofs.lemmas.List.Elements.{All-nil, All-cons, All-head, All-tail, All-push}
use Rattle.dsr_names.specs.Shape.{Shape}
use Rattle.dsr_text.specs.Lines.{AreLines}
use Rattle.dsr_run.specs.Step.{Step}
use Rattle.dsr_record.specs.declared.version.Version.{Version}
use Rattle.dsr_record.specs.RecordText.{transcripts, IsStepOf}

-- what holds of each element holds of each in the other order
module _ {X : Type 0} (P : X → Type 0) where
  pub all_reverse : (xs : List X) → All P xs → All P (reverse xs)
  all_reverse [] each = All-nil P
  all_reverse (x ∷ xs) each =
      subst (All P) (sym (reverse-append (x ∷ []) xs))
      (All-push P (reverse xs) x (all_reverse xs (All-tail P x xs each)) (All-head P x xs each))

  pub all_reversed : (xs : List X) → All P (reverse xs) → All P xs
  all_reversed xs each = subst (All P) (reverse-reverse xs) (all_reverse (reverse xs) each)

-- any steps of the version are its lines
module _ (version : Version) (shape : Shape) where
  pub all_lines : (run : List Step) → All (IsStepOf version) run → AreLines (transcripts version) shape run
  all_lines [] each = tt
  all_lines (step ∷ earlier) each = (
    record { is_line = All-head (IsStepOf version) step earlier each; follows = tt },
    all_lines earlier (All-tail (IsStepOf version) step earlier each),
  )

  pub lines_all : (run : List Step) → AreLines (transcripts version) shape run → All (IsStepOf version) run
  lines_all [] each = All-nil (IsStepOf version)
  lines_all (step ∷ earlier) each = let first = each.0 in All-cons (IsStepOf version) step earlier first.is_line (lines_all earlier each.1)

  pub fits : (steps : List Step) → All (IsStepOf version) steps ↔ AreLines (transcripts version) shape (reverse steps)
  fits steps = (
    λ each. all_lines (reverse steps) (all_reverse (IsStepOf version) steps each),
    λ are. all_reversed (IsStepOf version) steps (lines_all (reverse steps) are),
  )

-- Answers with different words have different texts.
use Rattle.std.proofs.Common.{◌≡◌, ℕ, ◌↔◌, nat_eq, get_or, false, List, ◌++◌, codes, Option, Some, refl, sym, ◌∙◌, ap}
use Rattle.std.proofs.lemmas.List.{append_cancel_left}
use Rattle.std.proofs.lemmas.Option.{same_Some}
use Rattle.dsr_names.specs.Token.{IsOld, old_text}
use Rattle.dsr_request.specs.AnswerText.{IsAnswer, answer_text}
use Rattle.dsr_request.specs.declared.answer.Answer.{Answer}
use Rattle.dsr_request.specs.declared.answer.Answer.TheVariants.{Held, Written, Swapped, Kept, Full, Removed}
use Rattle.dsr_request.proofs.Words.{other_word}

-- what reads the token after the word reads both
pub token_after : (bytes word rest : List ℕ) (r : Option (Option ℕ)) (old : Option ℕ) → bytes ≡ word ++ rest
    → (r ≡ Some old) ↔ (IsOld old × (rest ≡ old_text old))
    → (r ≡ Some old) ↔ (IsOld old × (bytes ≡ word ++ old_text old))
token_after bytes word rest r old cut token = (
  (λ e.
      let both = token.0 e in
      (both.0, cut ∙ ap (λ xs. word ++ xs) both.1)),
  (λ h. token.1 (h.0, append_cancel_left word rest (old_text old) (sym cut ∙ h.1))),
)

-- the token after this word reads as this
abbrev ReadsAfter : List ℕ → List ℕ → Option ℕ → Type 0
ReadsAfter bytes word old = (o : Option ℕ) → (Some old ≡ Some o) ↔ (IsOld o × (bytes ≡ word ++ old_text o))

-- the answer is the one whose text the bytes are
abbrev Reads : List ℕ → Answer → Answer → Type 0
Reads bytes found a = (Some found ≡ Some a) ↔ (IsAnswer a × (bytes ≡ answer_text a))

reads_other : (bytes : List ℕ) (found a : Answer) → nat_eq (get_or (answer_text found) 0 0) (get_or (answer_text a) 0 0) ≡ false
    → bytes ≡ answer_text found → Reads bytes found a
reads_other bytes found a differ e = (
  (λ same. absurd (other_word (answer_text found) (answer_text a) differ (ap answer_text (same_Some found a same)))),
  (λ h. absurd (other_word (answer_text found) (answer_text a) differ (sym e ∙ h.1))),
)

pub reads_held : (bytes : List ℕ) (old : Option ℕ) → ReadsAfter bytes (codes "held ") old → (a : Answer) → Reads bytes (Held old) a
reads_held bytes old h (Held o) = ((λ e. let same : old ≡ o = cc in (h o).0 (ap Some same)), (λ p. ap (λ x. Some (Held x)) (same_Some old o ((h o).1 p))))
reads_held bytes old h Written = reads_other bytes (Held old) Written refl ((h old).0 refl).1
reads_held bytes old h Swapped = reads_other bytes (Held old) Swapped refl ((h old).0 refl).1
reads_held bytes old h (Kept o) = reads_other bytes (Held old) (Kept o) refl ((h old).0 refl).1
reads_held bytes old h Full = reads_other bytes (Held old) Full refl ((h old).0 refl).1
reads_held bytes old h (Removed o) = reads_other bytes (Held old) (Removed o) refl ((h old).0 refl).1

pub reads_kept : (bytes : List ℕ) (old : Option ℕ) → ReadsAfter bytes (codes "kept ") old → (a : Answer) → Reads bytes (Kept old) a
reads_kept bytes old h (Held o) = reads_other bytes (Kept old) (Held o) refl ((h old).0 refl).1
reads_kept bytes old h Written = reads_other bytes (Kept old) Written refl ((h old).0 refl).1
reads_kept bytes old h Swapped = reads_other bytes (Kept old) Swapped refl ((h old).0 refl).1
reads_kept bytes old h (Kept o) = ((λ e. let same : old ≡ o = cc in (h o).0 (ap Some same)), (λ p. ap (λ x. Some (Kept x)) (same_Some old o ((h o).1 p))))
reads_kept bytes old h Full = reads_other bytes (Kept old) Full refl ((h old).0 refl).1
reads_kept bytes old h (Removed o) = reads_other bytes (Kept old) (Removed o) refl ((h old).0 refl).1

-- The step in a line of a transcript.
use Rattle.std.proofs.Common.{◌≡◌, List, [], ◌∷◌, ◌++◌, Some, length, append_assoc, ap, refl, sym, ◌∙◌}
use Rattle.std.specs.Prelude.{reverse, slice_get}
use Rattle.std.proofs.lemmas.List.{length-reverse, reverse-append, reverse-reverse}
use Rattle.dsr_run.specs.Step.{Step}

past_end : (ys xs : List Step) → slice_get (ys ++ xs) (length ys) ≡ slice_get xs 0
past_end [] xs = refl
past_end (y ∷ ys) xs = past_end ys xs

-- the recorded steps, in order, have it after as many as come before it
pub step_placed : (items run before later : List Step) (step : Step) → reverse items ≡ run → run ≡ later ++ step ∷ before
    → slice_get items (length before) ≡ Some step
step_placed items run before later step turned parts =
    let whole : items ≡ reverse before ++ (step ∷ reverse later) =
    sym (reverse-reverse items)
    ∙ (ap reverse (turned ∙ parts)
    ∙ (reverse-append later (step ∷ before)
    ∙ (ap (λ l. l ++ reverse later) (reverse-append (step ∷ []) before) ∙ append_assoc (reverse before) (step ∷ []) (reverse later)))) in
    ap (slice_get items) (sym (length-reverse before))
    ∙ (ap (λ l. slice_get l (length (reverse before))) whole ∙ past_end (reverse before) (step ∷ reverse later))

-- Which line makes recorded steps no run.
use Rattle.std.proofs.Common.{◌≡◌, ℕ, ◌+◌, ◌<◌, ◌≤◌, List, [], ◌∷◌, ◌++◌, length, length-append, inl, inr, ap, sym, ◌∙◌, arith}
use Rattle.std.specs.Prelude.{drop, reverse, slice_index_or, take}
use Rattle.std.proofs.lemmas.Bool.{cases_lt}
use Rattle.std.proofs.lemmas.List.{length-reverse, length-take-le, reverse-append, take-append-drop, take_more}
use Rattle.dsr_names.specs.Shape.{Shape}
use Rattle.dsr_run.specs.Run.{IsNextStep, IsRun}
use Rattle.dsr_run.specs.Step.{Step, log_of}
use Rattle.dsr_run.proofs.Lemmas.{run_before}
use Rattle.dsr_record.specs.FirstBad.{IsFirstBad}

-- of two ends of one list the longer one ends with the shorter one
ends_with : (us a vs b : List Step) → us ++ a ≡ vs ++ b → length a ≤ length b → (more : List Step) × (b ≡ more ++ a)
ends_with us a [] b e fewer = (us, sym e)
ends_with [] a (v ∷ vs) b e fewer = let size = ap length e in absurd (omega (arith, size, fewer, length-append vs b))
ends_with (u ∷ us) a (v ∷ vs) b e fewer = ends_with us a vs b (rest (us ++ a) (vs ++ b) e) fewer
  where
    rest : (xs ys : List Step) → u ∷ xs ≡ v ∷ ys → xs ≡ ys
    rest xs ys e = cc

-- ---- steps in their order

-- one more step
pub reverse_more : (steps : List Step) (i : ℕ) (step : Step) → i < length steps → step ≡ slice_index_or steps i step
    → reverse (take (i + 1) steps) ≡ step ∷ reverse (take i steps)
reverse_more steps i step inside is =
    ap reverse (take_more steps i step inside)
    ∙ (reverse-append (take i steps) (slice_index_or steps i step ∷ []) ∙ ap (λ s. s ∷ reverse (take i steps)) (sym is))

-- the step at place i is the first bad one
pub first_bad : (shape : Shape) (steps : List Step) (i : ℕ) (step : Step) (line : ℕ) → i < length steps → step ≡ slice_index_or steps i step
    → IsRun shape (reverse (take i steps)) → ¬ IsNextStep shape (log_of (reverse (take i steps))) step → line ≡ i + 2
    → IsFirstBad shape (reverse steps) line
first_bad shape steps i step line inside is run stops counted = record {
  before = reverse (take i steps);
  step = step;
  later = reverse (drop (i + 1) steps);
  parts =
      ap reverse (sym (take-append-drop (i + 1) steps))
      ∙ (reverse-append (take (i + 1) steps) (drop (i + 1) steps)
      ∙ ap (λ l. reverse (drop (i + 1) steps) ++ l) (reverse_more steps i step inside is));
  counted =
      let size = length-reverse (take i steps) ∙ length-take-le i steps (omega (arith, inside)) in
      omega (arith, counted, size);
  run = run;
  stops = stops;
}

-- ---- the line

module _ (shape : Shape) (recorded : List Step) where
  -- a run has no such line
  pub none_bad : IsRun shape recorded → (line : ℕ) → IsFirstBad shape recorded line → ⊥
  none_bad is line bad =
      bad.stops (run_before shape recorded (bad.step ∷ bad.before) is (bad.later, bad.parts)).1

  not_earlier : (line other : ℕ) → (bad : IsFirstBad shape recorded line) → (worse : IsFirstBad shape recorded other) → length bad.before < length worse.before → ⊥
  not_earlier line other bad worse earlier =
      let ends = ends_with bad.later (bad.step ∷ bad.before) worse.later (worse.step ∷ worse.before) (sym bad.parts ∙ worse.parts) (omega (arith, earlier)) in
      let inside = ends_in ends.0 ends.1 in
      bad.stops (run_before shape worse.before (bad.step ∷ bad.before) worse.run inside).1
    where
      ends_in : (more : List Step) → worse.step ∷ worse.before ≡ more ++ bad.step ∷ bad.before
          → (newer : List Step) × (worse.before ≡ newer ++ bad.step ∷ bad.before)
      ends_in [] e = let size = ap length e in absurd (omega (arith, size, earlier))
      ends_in (x ∷ more) e = (more, cc)

  -- there is one such line at most
  pub same_line : (line other : ℕ) → IsFirstBad shape recorded line → IsFirstBad shape recorded other → line ≡ other
  same_line line other bad worse =
      let first = bad.counted in
      let second = worse.counted in
      elim (cases_lt (length bad.before) (length worse.before)) [
        | inl earlier ↦ absurd (not_earlier line other bad worse earlier)
        | inr late ↦ elim (cases_lt (length worse.before) (length bad.before)) [
          | inl earlier ↦ absurd (not_earlier other line worse bad earlier)
          | inr later ↦ omega (arith, first, second, late, later)
        ]
      ]

-- Where recorded steps stop being a run.
use Rattle.std.proofs.Common.{◌≡◌, ℕ, ◌+◌, ◌<◌, List, [], ◌∷◌, ◌++◌, Option, None, Some, length, ap, sym, ◌∙◌, subst, arith}
use Rattle.std.specs.Prelude.{drop, reverse, slice_index_or, take, IfSome, OnSome}
use Rattle.std.proofs.lemmas.Option.{none-some, same_Some}
use Rattle.std.proofs.lemmas.List.{length-reverse, length-take-le, reverse-append, take-append-drop, take_more}
use Rattle.dsr_names.specs.Shape.{Shape}
use Rattle.dsr_run.specs.Run.{IsRun}
use Rattle.dsr_run.specs.Step.{Step, log_of}
use Rattle.dsr_record.specs.FirstBad.{IsFirstBad}
use Rattle.dsr_lines.specs.Line.{HoldsFault}
use Rattle.dsr_lines.specs.Record.{IsFaultAt}
use Rattle.dsr_lines.specs.declared.line_fault.LineFault.{LineFault}
use Rattle.dsr_lines.proofs.FaultLemmas.{fault_stops}

-- what holds if there is something
pub where_some : {X : Type 0} → (P : X → Type 0) (o : Option X) (x : X) → o ≡ Some x → IfSome o P → P x
where_some P None x e h = absurd (none-some x e)
where_some P (Some y) x e h = subst P (same_Some y x e) h

pub on_some : {X : Type 0} → (A : Type 0) (o : Option X) (x : X) → o ≡ Some x → OnSome o A → A
on_some A None x e h = absurd (none-some x e)
on_some A (Some y) x e h = h

-- one more step
pub reverse_more : (steps : List Step) (i : ℕ) (step : Step) → i < length steps → step ≡ slice_index_or steps i step
    → reverse (take (i + 1) steps) ≡ step ∷ reverse (take i steps)
reverse_more steps i step inside is =
    ap reverse (take_more steps i step inside)
    ∙ (reverse-append (take i steps) (slice_index_or steps i step ∷ []) ∙ ap (λ s. s ∷ reverse (take i steps)) (sym is))

-- the step at place i has the fault
pub fault_at : (shape : Shape) (steps : List Step) (i : ℕ) (step : Step) (line : ℕ) (fault : LineFault) → i < length steps
    → step ≡ slice_index_or steps i step → IsRun shape (reverse (take i steps)) → HoldsFault shape (log_of (reverse (take i steps))) step fault
    → line ≡ i + 2 → IsFaultAt shape (reverse steps) (reverse (take i steps)) line fault
fault_at shape steps i step line fault inside is run why counted = record {
  step = step;
  later = reverse (drop (i + 1) steps);
  parts =
      ap reverse (sym (take-append-drop (i + 1) steps))
      ∙ (reverse-append (take (i + 1) steps) (drop (i + 1) steps)
      ∙ ap (λ l. reverse (drop (i + 1) steps) ++ l) (reverse_more steps i step inside is));
  counted =
      let size = length-reverse (take i steps) ∙ length-take-le i steps (omega (arith, inside)) in
      omega (arith, counted, size);
  run = run;
  why = why;
}

-- so it is the first that may not follow
pub first_bad : (shape : Shape) (recorded before : List Step) (line : ℕ) (fault : LineFault) → IsFaultAt shape recorded before line fault
    → IsFirstBad shape recorded line
first_bad shape recorded before line fault at = record {
  before = before;
  step = at.step;
  later = at.later;
  parts = at.parts;
  counted = at.counted;
  run = at.run;
  stops = fault_stops shape before at.step fault at.run at.why;
}

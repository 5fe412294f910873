-- Joined texts of items, read one item after the other.
use Rattle.std.proofs.Common.{◌≡◌, ℕ, ◌+◌, ◌-◌, ◌<◌, List, [], ◌∷◌, ◌++◌, Option, None, Some, false, sym, subst, arith, append_assoc}
use Rattle.dsr_base.specs.Reads.{Reads}
use Rattle.dsr_base.specs.Split.{IsFree, IsPart}
use Rattle.dsr_base.specs.Joined.{joined, AreFew}
use Rattle.dsr_base.proofs.ReadsLemmas.{reads_none}
use Rattle.dsr_base.proofs.JoinedLemmas.{no_item, reads_alone, no_first, no_others, reads_led}

-- those that were read and then these, if these are read
abbrev pub after_those : {X : Type 0} → List X → Option (List X) → Option (List X)
after_those done None = None
after_those done (Some xs) = Some (done ++ xs)

module _ {X : Type 0} (is : X → Type 0) (text : X → List ℕ) (mark : ℕ) (apart : (x : X) → is x → IsPart mark (text x)) (most : ℕ) (bytes : List ℕ) where
  -- what is read of the rest is what follows those in the whole
  abbrev pub GoesOn : ℕ → List X → List ℕ → Type 0
  GoesOn count done rest = (r : Option (List X)) → Reads (AreFew is (most - count)) (joined mark text) rest r
      → Reads (AreFew is most) (joined mark text) bytes (after_those done r)

  pub goes_on : (count : ℕ) (done : List X) (rest front after : List ℕ) (x : X) → count < most → GoesOn count done rest → rest ≡ front ++ mark ∷ after → IsPart mark front
      → Reads is text front (Some x) → GoesOn (count + 1) (done ++ x ∷ []) after
  goes_on count done rest front after x small h parts part reads None others =
      let fewer : most - (count + 1) ≡ most - count - 1 = omega arith in
      h None (no_others is text mark apart (most - count) rest front after parts part
      (subst (λ n. Reads (AreFew is n) (joined mark text) after None) fewer others))
  goes_on count done rest front after x small h parts part reads (Some xs) others =
      let fewer : most - (count + 1) ≡ most - count - 1 = omega arith in
      subst (λ all. Reads (AreFew is most) (joined mark text) bytes (Some all)) (sym (append_assoc done (x ∷ []) xs))
      (h (Some (x ∷ xs)) (reads_led is text mark apart (most - count) rest front after x xs (omega (arith, small)) parts part reads
      (subst (λ n. Reads (AreFew is n) (joined mark text) after (Some xs)) fewer others)))

  pub stops : (count : ℕ) (done : List X) (rest front after : List ℕ) → GoesOn count done rest → rest ≡ front ++ mark ∷ after → IsPart mark front
      → Reads is text front None → Reads (AreFew is most) (joined mark text) bytes None
  stops count done rest front after h parts part reads = h None (no_first is text mark apart (most - count) rest front after parts part reads)

  pub no_last : (count : ℕ) (done : List X) (rest : List ℕ) → GoesOn count done rest → IsFree mark false rest → Reads is text rest None
      → Reads (AreFew is most) (joined mark text) bytes None
  no_last count done rest h free reads = h None (no_item is text mark apart (most - count) rest free reads)

  pub last : (count : ℕ) (done : List X) (rest : List ℕ) (x : X) → count < most → GoesOn count done rest → IsFree mark false rest → Reads is text rest (Some x)
      → Reads (AreFew is most) (joined mark text) bytes (Some (done ++ x ∷ []))
  last count done rest x small h free reads = h (Some (x ∷ [])) (reads_alone is text mark apart (most - count) rest x (omega (arith, small)) free reads)

  pub too_many : (count : ℕ) (done : List X) (rest : List ℕ) → most ≡ count → GoesOn count done rest → Reads (AreFew is most) (joined mark text) bytes None
  too_many count done rest end h =
      h None (reads_none (AreFew is (most - count)) (joined mark text) rest (λ xs few e. omega (arith, few.some, few.few, end)))

-- Readings of two parts, and of values with parts.
use Rattle.std.proofs.Common.{◌≡◌, ℕ, ◌↔◌, List, ◌∷◌, ◌++◌, Option, None, Some, sym, ◌∙◌}
use Rattle.dsr_base.specs.Reads.{Reads}
use Rattle.dsr_base.proofs.TwoParts.{Cuts, both_text, AreBoth, no_front, no_rest, reads_parts}
use Rattle.dsr_script.specs.Support.SpelledText.{pair_of}

-- two readings with a cut between them are the reading of the pair
module _ {A B : Type 0} (is_a : A → Type 0) (text_a : A → List ℕ) (is_b : B → Type 0) (text_b : B → List ℕ) (mark : ℕ) (cuts : Cuts mark)
    (apart : (a : A) → is_a a → cuts.IsFront (text_a a)) (bytes front rest : List ℕ) (parts : bytes ≡ front ++ mark ∷ rest) (part : cuts.IsFront front) where
  pub reads_pair : (ra : Option A) (rb : Option B) → Reads is_a text_a front ra → Reads is_b text_b rest rb
      → Reads (AreBoth is_a text_a is_b text_b mark cuts apart) (both_text is_a text_a is_b text_b mark cuts apart) bytes (pair_of ra rb)
  reads_pair None rb reads_a reads_b = no_front is_a text_a is_b text_b mark cuts apart bytes front rest parts part reads_a
  reads_pair (Some a) None reads_a reads_b = no_rest is_a text_a is_b text_b mark cuts apart bytes front rest parts part reads_b
  reads_pair (Some a) (Some b) reads_a reads_b = reads_parts is_a text_a is_b text_b mark cuts apart bytes front rest parts part a b reads_a reads_b

-- what has these parts is read if the parts are
pub reads_through : {P X : Type 0} (is_p : P → Type 0) (text_p : P → List ℕ) (is_x : X → Type 0) (text_x : X → List ℕ) (parts : X → P)
    → ((x : X) → is_x x ↔ is_p (parts x)) → ((x : X) → text_x x ≡ text_p (parts x)) → (bytes : List ℕ) (rp : Option P) (r : Option X)
    → Reads is_p text_p bytes rp → ((x : X) → (r ≡ Some x) ↔ (rp ≡ Some (parts x))) → Reads is_x text_x bytes r
reads_through is_p text_p is_x text_x parts kinds same bytes rp r reads made x = (
  λ e.
      let read = (reads (parts x)).0 ((made x).0 e) in
      ((kinds x).1 read.0, read.1 ∙ sym (same x)),
  λ h. (made x).1 ((reads (parts x)).1 ((kinds x).0 h.0, h.1 ∙ same x)),
)

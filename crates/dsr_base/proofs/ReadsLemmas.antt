-- What a reader's answer says, and what makes it one.
use Rattle.std.proofs.Common.{◌≡◌, ℕ, List, Option, None, Some, ap, refl, ◌∙◌, subst}
use Rattle.std.specs.Option.{SomeIff}
use Rattle.std.proofs.lemmas.Option.{none-some, same_Some}
use Rattle.dsr_base.specs.Reads.{Reads}

module _ {X : Type 0} (is : X → Type 0) (text : X → List ℕ) (bytes : List ℕ) where
  -- what is not a text is not read
  pub reads_none : ((x : X) → is x → bytes ≡ text x → ⊥) → Reads is text bytes None
  reads_none none x = (λ e. absurd (none-some x e), λ h. absurd (none x h.0 h.1))

  -- what is the text of one value alone is read
  pub reads_some : (x : X) → is x → bytes ≡ text x → ((y : X) → is y → bytes ≡ text y → x ≡ y) → Reads is text bytes (Some x)
  reads_some x kind spelled only y =
      (λ e. let same = same_Some x y e in (subst is same kind, spelled ∙ ap text same), λ h. ap Some (only y h.0 h.1))

  -- what was not read is not a text
  pub not_read : Reads is text bytes None → (x : X) → is x → bytes ≡ text x → ⊥
  not_read reads x kind spelled = none-some x ((reads x).1 (kind, spelled))

  -- what was read has that text
  pub was_read : (x : X) → Reads is text bytes (Some x) → is x × (bytes ≡ text x)
  was_read x reads = (reads x).0 refl

  -- and nothing else has that text
  pub only_read : (x : X) → Reads is text bytes (Some x) → (y : X) → is y → bytes ≡ text y → x ≡ y
  only_read x reads y kind spelled = same_Some x y ((reads y).1 (kind, spelled))

-- what an answer is if its condition holds
pub some_only : {X : Type 0} (answer : Option X) (P : Type 0) (x : X) → SomeIff answer P x → P → answer ≡ Some x
some_only None P x h p = absurd (h p)
some_only (Some y) P x h p = ap Some h.1

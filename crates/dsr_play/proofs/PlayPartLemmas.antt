-- Readings of the parts of the lines of plays.
use Rattle.std.proofs.Common.{◌≡◌, ◌≢◌, ℕ, ◌<◌, List, ◌∷◌, ◌++◌, codes, Option, None, Some, subst, arith, lit<}
use Rattle.std.specs.Option.{option_zip}
use Rattle.std.specs.Fmt.{decimal}
use Rattle.std.proofs.lemmas.List.{append-nil}
use Rattle.std.proofs.lemmas.List.Elements.{All-from_recursion}
use Rattle.dsr_base.specs.Reads.{Reads}
use Rattle.dsr_base.specs.Split.{IsAbsent}
use Rattle.dsr_base.proofs.Marks.{one_cut, not_absent, decimal_without_low, letter_then_without}
use Rattle.dsr_names.specs.Actor.{IsNumbered, actor_text, replica_text}
use Rattle.dsr_names.specs.declared.actor.Actor.{Actor}
use Rattle.dsr_names.specs.declared.actor.Actor.TheVariants.{Replica, Client}
use Rattle.dsr_envelope.specs.declared.pick.Pick.{Pick}
use Rattle.dsr_envelope.specs.declared.pick.Pick.TheVariants.{Plain}
use Rattle.dsr_play.specs.Support.PlayParts.{IsSaidPick, said_pick, IsChoice, choice_text}

-- a text without a space is none with one
pub spaced : (bytes : List ℕ) → IsAbsent 32 bytes → (us vs : List ℕ) → bytes ≢ us ++ 32 ∷ vs
spaced bytes whole us vs e = not_absent 32 us vs (subst (IsAbsent 32) e whole)

-- ---- two readings with a space between them are the reading of the pair

module _ {A B : Type 0} (is_a : A → Type 0) (text_a : A → List ℕ) (is_b : B → Type 0) (text_b : B → List ℕ)
    (spaceless : (a : A) → is_a a → IsAbsent 32 (text_a a)) (bytes : List ℕ) where
  abbrev ReadsBoth : Option (A × B) → Type 0
  ReadsBoth = Reads (λ p. is_a p.0 × is_b p.1) (λ p. text_a p.0 ++ 32 ∷ text_b p.1) bytes

  pub reads_zip : (front rest : List ℕ) → bytes ≡ front ++ 32 ∷ rest → IsAbsent 32 front
      → (ra : Option A) (rb : Option B) → Reads is_a text_a front ra → Reads is_b text_b rest rb → ReadsBoth (option_zip ra rb)
  reads_zip front rest cut first ra rb reads_a reads_b (a, b) =
      grind (arith, reads_a a, reads_b b, λ (is : is_a a) (vs : List ℕ). one_cut 32 front rest (text_a a) vs first (spaceless a is))

  pub no_space : IsAbsent 32 bytes → ReadsBoth None
  no_space whole (a, b) = grind (arith, spaced bytes whole (text_a a) (text_b b))

-- ---- no space is in a token

pub replica_spaceless : (r : ℕ) → r < 16 → IsAbsent 32 (replica_text r)
replica_spaceless r small = letter_then_without 114 32 (decimal r) (lit< tt) (decimal_without_low 32 r (lit< tt) (omega (arith, small)))

pub actor_spaceless : (a : Actor) → IsNumbered a → IsAbsent 32 (actor_text a)
actor_spaceless (Replica r) small = replica_spaceless r small
actor_spaceless (Client c) small = letter_then_without 99 32 (decimal c) (lit< tt) (decimal_without_low 32 c (lit< tt) (omega (arith, small)))

-- ---- a choice that is not the plain one

-- its first word is one of two
pub other_pick : (bytes word rest : List ℕ) → bytes ≡ word ++ 32 ∷ rest → IsAbsent 32 word → word ≢ codes "from" → word ≢ codes "begin"
    → Reads IsSaidPick said_pick bytes None
other_pick bytes word rest cut first no_from no_begin pick =
    grind (
      arith,
      λ (vs : List ℕ). one_cut 32 word rest (codes "from") vs first (All-from_recursion (λ b. b ≢ 32) (codes "from") (omega arith)),
      λ (vs : List ℕ). one_cut 32 word rest (codes "begin") vs first (All-from_recursion (λ b. b ≢ 32) (codes "begin") (omega arith)),
    )

-- ---- an actor and a choice

-- with no space the choice is plain
pub reads_plain : (bytes : List ℕ) → IsAbsent 32 bytes → (r : Option Actor) → Reads IsNumbered actor_text bytes r
    → Reads IsChoice choice_text bytes (option_zip r (Some Plain))
reads_plain bytes whole r reads (a, pick) = grind (arith, reads a, append-nil (actor_text a), spaced bytes whole (actor_text a))

-- after a space it is another one
pub reads_choice : (bytes front rest : List ℕ) → bytes ≡ front ++ 32 ∷ rest → IsAbsent 32 front
    → (ra : Option Actor) (rb : Option Pick) → Reads IsNumbered actor_text front ra → Reads IsSaidPick said_pick rest rb
    → Reads IsChoice choice_text bytes (option_zip ra rb)
reads_choice bytes front rest cut first ra rb reads_a reads_b (a, pick) =
    grind (
      arith,
      reads_a a,
      reads_b pick,
      append-nil (actor_text a),
      λ (is : IsNumbered a) (vs : List ℕ). one_cut 32 front rest (actor_text a) vs first (actor_spaceless a is),
      λ (is : IsNumbered a). spaced (actor_text a) (actor_spaceless a is) front rest,
    )

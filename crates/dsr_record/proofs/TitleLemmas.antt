-- A text begins with a header of one version at most, and what was read in one version is what there is.
use Rattle.std.proofs.Common.{◌≡◌, ◌≢◌, ◌⊎◌, ℕ, List, ◌∷◌, inl, inr, refl, sym, ◌∙◌, ap, subst, arith}
use Rattle.std.specs.Prelude.{Result, Ok, Err, IfErr, IsOkUnless}
use Rattle.dsr_names.specs.Shape.{Shape}
use Rattle.dsr_names.specs.declared.refusal.Refusal.{Refusal}
use Rattle.dsr_names.specs.declared.refusal.Refusal.TheVariants as refusal
use Rattle.dsr_text.specs.Header.{BeginsWithHeader, HasNoHeader}
use Rattle.dsr_text.specs.Lines.{IsTextRefusal}
use Rattle.dsr_record.specs.declared.version.Version.{Version}
use Rattle.dsr_record.specs.declared.version.Version.TheVariants.{One, Two}
use Rattle.dsr_record.specs.Record.{Record}
use Rattle.dsr_record.specs.RecordText.{version_title, transcripts, Spells}

-- the last byte of the title
abbrev numeral : List ℕ → ℕ
numeral (a ∷ (b ∷ (c ∷ (d ∷ (e ∷ (f ∷ (g ∷ (h ∷ (i ∷ (j ∷ (k ∷ (l ∷ (m ∷ (n ∷ (o ∷ (p ∷ rest)))))))))))))))) = p
numeral other = 0

pub one_title : (text : List ℕ) (shape other : Shape) (rest after : List ℕ) → BeginsWithHeader (version_title One) text shape rest
    → BeginsWithHeader (version_title Two) text other after → ⊥
one_title text shape other rest after one two = let last : ◌≡◌ {A = ℕ} 49 50 = ap numeral (sym one.line ∙ two.line) in omega (arith, last)

either : (version : Version) → (version ≡ One) ⊎ (version ≡ Two)
either One = inl refl
either Two = inr refl

module _ (text : List ℕ) where
  -- a record whose text this is, of version 1 or of version 2
  titled : (r : Record) (version : Version) → r.version ≡ version → (s : Spells text r) → BeginsWithHeader (version_title version) text r.shape s.after
  titled r version same s = subst (λ v. BeginsWithHeader (version_title v) text r.shape s.after) same s.header

  not_both : (a b : Record) → a.version ≡ One → b.version ≡ Two → Spells text a → Spells text b → ⊥
  not_both a b one two s t = one_title text a.shape b.shape s.after t.after (titled a One one s) (titled b Two two t)

  -- if no header of version 1 begins the text, it is that of a record of version 2
  pub second_when : (r : Result Record Refusal) → HasNoHeader (version_title One) text
      → ((other : Record) → other.version ≡ Two → Spells text other → IsOkUnless r refusal.NoMemory)
      → (other : Record) → Spells text other → IsOkUnless r refusal.NoMemory
  second_when r none when other s = elim (either other.version) [
    | inl one ↦ absurd (none other.shape s.after (titled other One one s))
    | inr two ↦ when other two s
  ]

  -- line 1 is bad if no header begins the text
  pub no_header : IsTextRefusal (transcripts One) text (refusal.BadText 1) → HasNoHeader (version_title One) text
  no_header (inl none) = none.1
  no_header (inr later) = let bad = later.bad in absurd (omega (arith, bad.counted))

  -- if a header of version 1 begins it, it is not that of a record of version 2
  kept : (r : Result Record Refusal) (other : Record) → other.version ≡ Two → Spells text other → IfErr r (IsTextRefusal (transcripts One) text)
      → r ≢ Err (refusal.BadText 1) → IsOkUnless r refusal.NoMemory
  kept (Ok a) other two s is differs = tt
  kept (Err refusal.BadShape) other two s is differs =
      absurd (one_title text is.shape other.shape is.rest s.after is.begins (titled other Two two s))
  kept (Err (refusal.BadText n)) other two s (inl first) differs = absurd (differs (ap (λ m. Err (refusal.BadText m)) first.0))
  kept (Err (refusal.BadText n)) other two s (inr later) differs =
      absurd (one_title text later.shape other.shape later.after s.after later.header (titled other Two two s))
  kept (Err refusal.NoMemory) other two s is differs = refl
  kept (Err refusal.BadName) other two s is differs = absurd is
  kept (Err refusal.BadNumber) other two s is differs = absurd is
  kept (Err refusal.Busy) other two s is differs = absurd is
  kept (Err refusal.NotDue) other two s is differs = absurd is
  kept (Err refusal.BoxFull) other two s is differs = absurd is
  kept (Err refusal.BoxEmpty) other two s is differs = absurd is
  kept (Err refusal.Forged) other two s is differs = absurd is
  kept (Err refusal.Exhausted) other two s is differs = absurd is
  kept (Err refusal.Stopped) other two s is differs = absurd is
  kept (Err refusal.Unanswered) other two s is differs = absurd is
  kept (Err (refusal.NotARun line)) other two s is differs = absurd is
  kept (Err refusal.NoActor) other two s is differs = absurd is
  kept (Err refusal.WrongRole) other two s is differs = absurd is
  kept (Err refusal.ReadFailed) other two s is differs = absurd is
  kept (Err refusal.WriteFailed) other two s is differs = absurd is
  kept (Err refusal.NoThread) other two s is differs = absurd is

  pub kept_when : (r : Result Record Refusal) → IfErr r (IsTextRefusal (transcripts One) text) → r ≢ Err (refusal.BadText 1)
      → ((other : Record) → other.version ≡ One → Spells text other → IsOkUnless r refusal.NoMemory)
      → (other : Record) → Spells text other → IsOkUnless r refusal.NoMemory
  kept_when r is differs when other s = elim (either other.version) [
    | inl one ↦ when other one s
    | inr two ↦ kept r other two s is differs
  ]

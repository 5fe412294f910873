-- What texts say about signatures, and the signatures.
use Rattle.std.proofs.Common.{All, ◌≡◌, ℕ, Bool, true, false, cond, List, [], ◌∷◌, ◌++◌, Option, None, Some, inl, refl, sym, ap, ap₂}
use Rattle.std.specs.Prelude.{unwrap_or}
use Rattle.std.specs.Bool.{Decides}
use Rattle.std.proofs.lemmas.List.Elements.{All-nil, All-cons, All-head, All-tail}
use Rattle.dsr_names.specs.declared.actor.Actor.{Actor}
use Rattle.dsr_request.specs.Request.{Request}
use Rattle.dsr_desk.specs.Signature.{Signature, signed}
use Rattle.dsr_desk.specs.Support.StatementEquality.{statement_eq, statement_eq-Decides}
use Rattle.dsr_desk.specs.declared.statement.Statement.{Statement}
use Rattle.dsr_desk.specs.declared.statement.Statement.TheVariants.{Link}
use Rattle.dsr_script.specs.SignatureText.{Spelled, spelled_at}
use Rattle.dsr_script.specs.ChainText.{spelled_links}
use Rattle.dsr_script.specs.Held.{IsHeldOrKnown}
use Rattle.dsr_script.specs.Support.Carried.{IsByHolder}
use Rattle.dsr_script.specs.Support.Links.{said_in, said_by}
use Rattle.dsr_script.proofs.SpelledLemmas.{fits_said}

same_statement : (b : Bool) (fitting : Statement) (s : Signature) → Decides b (s.statement ≡ fitting) → unwrap_or (cond b None (Some s.statement)) fitting ≡ s.statement
same_statement true fitting s decides = sym (decides.0 refl)
same_statement false fitting s decides = refl

-- a signature is what a text says about it
pub said_back : (fitting : Statement) (s : Signature) → said_in fitting (spelled_at fitting s) ≡ s
said_back fitting s = ap (signed s.signer) (same_statement (statement_eq s.statement fitting) fitting s (statement_eq-Decides s.statement fitting))

-- so are those of a chain
module _ (slot : ℕ) (value : Option (List Request)) where
  pub links_back : (before : List Actor) (ss : List Signature) → said_by slot value before (spelled_links slot value before ss) ≡ ss
  links_back before [] = refl
  links_back before (s ∷ ss) = ap₂ (λ y ys. y ∷ ys) (said_back (Link slot value before) s) (links_back (before ++ s.signer ∷ []) ss)

  -- a text never writes the long form of a statement that fits
  abbrev pub AreShort : List Actor → List Spelled → Type 0
  AreShort before xs = xs ≡ spelled_links slot value before (said_by slot value before xs)

  -- a list that names only signers is short
  pub short_each : (before : List Actor) (xs : List Spelled) → All (λ (x : Spelled). x.other ≡ None) xs → AreShort before xs
  short_each before [] all = refl
  short_each before (x ∷ xs) all =
      ap₂ (λ y ys. y ∷ ys) (fits_said (Link slot value before) x (All-head (λ (y : Spelled). y.other ≡ None) x xs all))
      (short_each (before ++ x.signer ∷ []) xs (All-tail (λ (y : Spelled). y.other ≡ None) x xs all))

  -- the whole list is short if the rest is
  pub record ShortOn (links : List Spelled) (before : List Actor) (rest : List Spelled) : Type 0 where
    pub whole : AreShort before rest → AreShort [] links
    pub part : AreShort [] links → AreShort before rest

  -- each signature of the whole list has the property if each of the rest has it
  pub record HeldOn (P : Signature → Type 0) (links : List Spelled) (before : List Actor) (rest : List Spelled) : Type 0 where
    pub whole : All P (said_by slot value before rest) → All P (said_by slot value [] links)
    pub part : All P (said_by slot value [] links) → All P (said_by slot value before rest)

  pub held_on : (P : Signature → Type 0) (links : List Spelled) (before : List Actor) (x : Spelled) (rest : List Spelled) → HeldOn P links before (x ∷ rest)
      → P (said_in (Link slot value before) x) → HeldOn P links (before ++ x.signer ∷ []) rest
  held_on P links before x rest h one =
      let s = said_in (Link slot value before) x in
      let others = said_by slot value (before ++ x.signer ∷ []) rest in
      record { whole = λ more. h.whole (All-cons P s others one more); part = λ all. All-tail P s others (h.part all) }

  pub first_held : (P : Signature → Type 0) (links : List Spelled) (before : List Actor) (x : Spelled) (rest : List Spelled) → HeldOn P links before (x ∷ rest)
      → All P (said_by slot value [] links) → P (said_in (Link slot value before) x)
  first_held P links before x rest h all =
      All-head P (said_in (Link slot value before) x) (said_by slot value (before ++ x.signer ∷ []) rest) (h.part all)

  -- the signatures of holders of these keys are not forged
  pub held_by_signers : (keys : List Actor) (known : List Signature) (before : List Actor) (xs : List Spelled)
      → All (IsByHolder keys) xs → All (IsHeldOrKnown keys known) (said_by slot value before xs)
  held_by_signers keys known before [] all = All-nil (IsHeldOrKnown keys known)
  held_by_signers keys known before (x ∷ xs) all =
      All-cons (IsHeldOrKnown keys known) (said_in (Link slot value before) x) (said_by slot value (before ++ x.signer ∷ []) xs)
      (inl (All-head (IsByHolder keys) x xs all).signer)
      (held_by_signers keys known (before ++ x.signer ∷ []) xs (All-tail (IsByHolder keys) x xs all))

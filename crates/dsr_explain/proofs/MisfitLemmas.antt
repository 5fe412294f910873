-- The first statement of a chain that does not fit its place.
use Rattle.std.proofs.Common.{◌≡◌, ◌≢◌, ℕ, ◌+◌, false, List, [], ◌∷◌, ◌++◌, Some, inl, inr, refl, ap, sym, ◌∙◌}
use Rattle.std.specs.Prelude.{drop, slice_get, take}
use Rattle.std.proofs.lemmas.Bool.{cases_Bool}
use Rattle.std.proofs.lemmas.List.{drop_more, map-append, take_more}
use Rattle.std.proofs.lemmas.Option.{get_or_from_slice_get, slice_get_within}
use Rattle.dsr_names.specs.declared.actor.Actor.{Actor}
use Rattle.dsr_desk.specs.Signature.{Signature}
use Rattle.dsr_desk.specs.declared.statement.Statement.{Statement}
use Rattle.dsr_desk.specs.Support.StatementEquality.{statement_eq, statement_eq-Decides}
use Rattle.dsr_chain.specs.Chain.{link_after, signers_of}
use Rattle.dsr_chain.specs.declared.slot_value.SlotValue.{SlotValue}
use Rattle.dsr_explain.specs.Lines.{misfit_text, misfit_told}

-- the text names a statement that does not fit
told : (slot : ℕ) (value : SlotValue) (before : List Actor) (s : Signature) (more : List Signature) → s.statement ≢ link_after slot value before
    → misfit_text slot value before (s ∷ more)
    ≡ misfit_told s (link_after slot value before)
told slot value before s more apart =
    let other : statement_eq s.statement (link_after slot value before) ≡ false =
    elim (cases_Bool (statement_eq s.statement (link_after slot value before))) [
      | inl same ↦ absurd (apart ((statement_eq-Decides s.statement (link_after slot value before)).0 same))
      | inr other ↦ other
    ] in
    rw other refl

-- one that fits is passed
passed : (slot : ℕ) (value : SlotValue) (before : List Actor) (s : Signature) (more : List Signature) → s.statement ≡ link_after slot value before
    → misfit_text slot value before (s ∷ more) ≡ misfit_text slot value (before ++ s.signer ∷ []) more
passed slot value before s more fits =
    let same = (statement_eq-Decides s.statement (link_after slot value before)).1 fits in
    rw same refl

-- the rest of a list from the place of an element on
rest_at : {A : Type 0} (xs : List A) (place : ℕ) (x : A) → slice_get xs place ≡ Some x → drop place xs ≡ x ∷ drop (place + 1) xs
rest_at xs place x at =
    drop_more xs place x (slice_get_within xs place x at) ∙ ap (λ y. y ∷ drop (place + 1) xs) (get_or_from_slice_get xs place x x at)

first_at : {A : Type 0} (xs : List A) (place : ℕ) (x : A) → slice_get xs place ≡ Some x → take (place + 1) xs ≡ take place xs ++ x ∷ []
first_at xs place x at =
    take_more xs place x (slice_get_within xs place x at) ∙ ap (λ y. take place xs ++ y ∷ []) (get_or_from_slice_get xs place x x at)

-- if the signature at a place is the first that does not fit, the text is about it
pub misfit_at : (slot : ℕ) (value : SlotValue) (before : List Actor) (all : List Signature) (place : ℕ) (s : Signature) (link : Statement) (whole : List ℕ)
    → before ≡ signers_of (take place all) → slice_get all place ≡ Some s → link ≡ link_after slot value before → s.statement ≢ link
    → whole ≡ misfit_text slot value (signers_of (take place all)) (drop place all)
    → whole ≡ misfit_told s link
misfit_at slot value before all place s link whole is at fits apart text =
    let begun : link ≡ link_after slot value (signers_of (take place all)) = fits ∙ ap (link_after slot value) is in
    let other : s.statement ≢ link_after slot value (signers_of (take place all)) = λ e. apart (e ∙ sym begun) in
    text
    ∙ (ap (misfit_text slot value (signers_of (take place all))) (rest_at all place s at)
    ∙ (told slot value (signers_of (take place all)) s (drop (place + 1) all) other
    ∙ ap (misfit_told s) (sym begun)))

-- the signers of one more signature
pub signers_more : (before : List Actor) (all : List Signature) (place : ℕ) (s : Signature) → before ≡ signers_of (take place all)
    → slice_get all place ≡ Some s → before ++ s.signer ∷ [] ≡ signers_of (take (place + 1) all)
signers_more before all place s is at =
    ap (λ b. b ++ s.signer ∷ []) is
    ∙ (sym (map-append (λ (x : Signature). x.signer) (take place all) (s ∷ [])) ∙ ap signers_of (sym (first_at all place s at)))

-- if the signature at a place fits, the text is that of the rest
pub fits_at : (slot : ℕ) (value : SlotValue) (before : List Actor) (all : List Signature) (place : ℕ) (s : Signature) (link : Statement) (whole : List ℕ)
    → before ≡ signers_of (take place all) → slice_get all place ≡ Some s → link ≡ link_after slot value before → s.statement ≡ link
    → whole ≡ misfit_text slot value (signers_of (take place all)) (drop place all)
    → whole ≡ misfit_text slot value (signers_of (take (place + 1) all)) (drop (place + 1) all)
fits_at slot value before all place s link whole is at fits same text =
    let begun : s.statement ≡ link_after slot value (signers_of (take place all)) = same ∙ (fits ∙ ap (link_after slot value) is) in
    text
    ∙ (ap (misfit_text slot value (signers_of (take place all))) (rest_at all place s at)
    ∙ (passed slot value (signers_of (take place all)) s (drop (place + 1) all) begun
    ∙ ap (λ b. misfit_text slot value b (drop (place + 1) all)) (signers_more (signers_of (take place all)) all place s refl at)))

-- What texts say about a chain in which no signature misfits: who signed.
use Rattle.std.proofs.Common.{◌≡◌, ◌≤◌, ℕ, suc, Bool, true, false, List, [], ◌∷◌, ◌++◌, Option, None, Some, length, map, take, if◌then◌else◌, ap, ap₂, refl, sym, ◌∙◌, append_assoc, append-nil, arith}
use Rattle.std.specs.Prelude.{All, slice_get}
use Rattle.std.proofs.lemmas.Bool.{false≢true}
use Rattle.dsr_names.specs.declared.actor.Actor.{Actor}
use Rattle.dsr_request.specs.Request.{Request}
use Rattle.dsr_desk.specs.Signature.{Signature}
use Rattle.dsr_desk.specs.declared.statement.Statement.{Statement}
use Rattle.dsr_desk.specs.declared.statement.Statement.TheVariants.{Link}
use Rattle.dsr_desk.specs.Support.StatementEquality.{statement_eq, statement_eq-Decides}
use Rattle.dsr_chain.specs.Chain.{Chain, signers_of}
use Rattle.dsr_chain.specs.Content.{content, value_of}
use Rattle.dsr_chain.specs.Faults.{HasMisfit}
use Rattle.dsr_chain.specs.Proper.{fitting_at}
use Rattle.dsr_chain.specs.declared.signed_request.SignedRequest.{SignedRequest}
use Rattle.dsr_envelope.specs.Limits.{IsSigned}
use Rattle.dsr_script.specs.ChainText.{spelled_links, IsValue}
use Rattle.dsr_script.specs.SignatureText.{Spelled, spelled_at}
use Rattle.dsr_script.specs.Support.SpelledText.{short_form}

-- of a signature on the statement that fits, a text says only the signer
short_where_fitting : (fitting : Statement) (s : Signature) → s.statement ≡ fitting → spelled_at fitting s ≡ short_form s.signer
short_where_fitting fitting s same =
    let whole : Bool → Spelled = λ b. record { signer = s.signer; other = if b then None else Some s.statement } in
    ap whole ((statement_eq-Decides s.statement fitting).1 same)

short_each : (slot : ℕ) (value : Option (List Request)) (before : List Actor) (signatures : List Signature)
    → ((place : ℕ) (s : Signature) → slice_get signatures place ≡ Some s → s.statement ≡ Link slot value (before ++ signers_of (take place signatures)))
    → spelled_links slot value before signatures ≡ map short_form (signers_of signatures)
short_each slot value before [] fits = refl
short_each slot value before (s ∷ ss) fits =
    let first : s.statement ≡ Link slot value before = fits 0 s refl ∙ ap (Link slot value) (append-nil before) in
    ap₂ (λ x xs. x ∷ xs) (short_where_fitting (Link slot value before) s first)
    (short_each slot value (before ++ s.signer ∷ []) ss
    (λ place t e. fits (suc place) t e ∙ ap (Link slot value) (sym (append_assoc before (s.signer ∷ []) (signers_of (take place ss))))))

fits_each : (chain : Chain) → ¬ HasMisfit chain → (place : ℕ) (s : Signature) → slice_get chain.signatures place ≡ Some s
    → s.statement ≡ fitting_at chain place
fits_each chain none place s stands = by_test (statement_eq s.statement (fitting_at chain place)) refl
  where
    by_test : (b : Bool) → b ≡ statement_eq s.statement (fitting_at chain place) → s.statement ≡ fitting_at chain place
    by_test true e = (statement_eq-Decides s.statement (fitting_at chain place)).0 (sym e)
    by_test false e =
        absurd (none (record {
          place = place;
          signature = s;
          stands = stands;
          misfits = λ same. false≢true (e ∙ (statement_eq-Decides s.statement (fitting_at chain place)).1 same);
        }))

pub short_links : (chain : Chain) → ¬ HasMisfit chain
    → spelled_links chain.slot (content chain.value) [] chain.signatures ≡ map short_form (signers_of chain.signatures)
short_links chain none = short_each chain.slot (content chain.value) [] chain.signatures (fits_each chain none)

-- the value with such requests is one that a text can write
pub spelled_value : (signed : List SignedRequest) → All IsSigned signed → length signed ≤ 8 → IsValue (value_of signed)
spelled_value [] each few = tt
spelled_value (s ∷ ss) each few = record { some = omega arith; few = few; each = each }

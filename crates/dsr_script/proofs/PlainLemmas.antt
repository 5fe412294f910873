-- What texts say about signatures is plain if the signatures are.
use Rattle.std.proofs.Common.{All, ◌≡◌, ℕ, ◌↔◌, Bool, true, false, cond, List, [], ◌∷◌, ◌++◌, Option, None, Some, refl, sym, ◌∙◌, ap, subst, IfSome}
use Rattle.std.specs.Bool.{Decides}
use Rattle.std.proofs.lemmas.List.Elements.{All-nil, All-cons, All-head, All-tail}
use Rattle.dsr_names.specs.declared.actor.Actor.{Actor}
use Rattle.dsr_request.specs.Request.{Request}
use Rattle.dsr_desk.specs.Signature.{Signature}
use Rattle.dsr_desk.specs.Support.StatementEquality.{statement_eq, statement_eq-Decides}
use Rattle.dsr_desk.specs.declared.statement.Statement.{Statement}
use Rattle.dsr_desk.specs.declared.statement.Statement.TheVariants.{Link}
use Rattle.dsr_chain.specs.Chain.{Chain}
use Rattle.dsr_chain.specs.Content.{content, signed_in}
use Rattle.dsr_chain.specs.Support.SignedLists.{value_of, content_of}
use Rattle.dsr_chain.specs.declared.signed_request.SignedRequest.{SignedRequest}
use Rattle.dsr_script.specs.SignatureText.{Spelled, spelled_at}
use Rattle.dsr_script.specs.ChainText.{spelled_links}
use Rattle.dsr_script.specs.Support.PlainSaid.{IsPlainSaid}
use Rattle.dsr_script.specs.Plain.{IsPlainStatement, IsPlainSignature, IsPlainContent, IsPlainAsk, IsPlainChain}

kind_of : (b : Bool) (fitting : Statement) (s : Signature) → Decides b (s.statement ≡ fitting) → IsPlainStatement fitting
    → IfSome (cond b None (Some s.statement)) IsPlainStatement ↔ IsPlainSignature s
kind_of true fitting s decides fits = (λ h. subst IsPlainStatement (sym (decides.0 refl)) fits, λ h. tt)
kind_of false fitting s decides fits = (λ h. h, λ h. h)

plain_said : (fitting : Statement) → IsPlainStatement fitting → (s : Signature) → IsPlainSaid (spelled_at fitting s) ↔ IsPlainSignature s
plain_said fitting fits s = kind_of (statement_eq s.statement fitting) fitting s (statement_eq-Decides s.statement fitting) fits

plain_links : (slot : ℕ) (value : Option (List Request)) → IsPlainContent value → (before : List Actor) (ss : List Signature)
    → All IsPlainSaid (spelled_links slot value before ss) ↔ All IsPlainSignature ss
plain_links slot value fits before [] = (λ h. All-nil IsPlainSignature, λ h. All-nil IsPlainSaid)
plain_links slot value fits before (s ∷ ss) =
    let first = spelled_at (Link slot value before) s in
    let others = spelled_links slot value (before ++ s.signer ∷ []) ss in
    let one = plain_said (Link slot value before) fits s in
    let more = plain_links slot value fits (before ++ s.signer ∷ []) ss in (
      λ h. All-cons IsPlainSignature s ss (one.0 (All-head IsPlainSaid first others h)) (more.0 (All-tail IsPlainSaid first others h)),
      λ h. All-cons IsPlainSaid first others (one.1 (All-head IsPlainSignature s ss h)) (more.1 (All-tail IsPlainSignature s ss h)),
    )

-- a chain is plain if its content, its requests and what a text says about its signatures are
pub plain_chain : (x : Chain) (asks : List SignedRequest) (links : List Spelled) (value : Option (List Request)) → value ≡ content_of asks
    → asks ≡ signed_in x.value → value_of (signed_in x.value) ≡ x.value → links ≡ spelled_links x.slot (content x.value) [] x.signatures
    → (IsPlainContent value × All IsPlainAsk asks × All IsPlainSaid links) ↔ IsPlainChain x
plain_chain x asks links value is asks_are value_is kept =
    let same : value ≡ content x.value = is ∙ ap content (ap value_of asks_are ∙ value_is) in (
      λ h.
          let plain : IsPlainContent (content x.value) = subst IsPlainContent same h.0 in
          record {
            content = plain;
            requests = subst (All IsPlainAsk) asks_are h.1;
            signatures = (plain_links x.slot (content x.value) plain [] x.signatures).0 (subst (All IsPlainSaid) kept h.2);
          },
      λ h. (
        subst IsPlainContent (sym same) h.content,
        subst (All IsPlainAsk) (sym asks_are) h.requests,
        subst (All IsPlainSaid) (sym kept) ((plain_links x.slot (content x.value) h.content [] x.signatures).1 h.signatures),
      ),
    )

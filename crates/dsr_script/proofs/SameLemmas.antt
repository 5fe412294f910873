-- When two signed requests are the same.
use Rattle.std.proofs.Common.{◌≡◌, ◌↔◌, sym, ◌∙◌, ap, ap₂}
use Rattle.dsr_desk.specs.declared.statement.Statement.TheVariants.{Ask}
use Rattle.dsr_chain.specs.declared.signed_request.SignedRequest.{SignedRequest}
use Rattle.dsr_script.specs.SignatureText.{Spelled, spelled_at}
use Rattle.dsr_script.specs.Support.AskText.{ask_of}
use Rattle.dsr_script.specs.Support.Links.{said_in}
use Rattle.dsr_script.proofs.BriefLemmas.{said_back}

-- signed requests are the same if the request is, and what a text says about the signature beside it
pub same_asks : (x y : SignedRequest) (said other : Spelled) → said ≡ spelled_at (Ask x.request) x.signature → other ≡ spelled_at (Ask y.request) y.signature
    → ((x.request ≡ y.request) × (said ≡ other)) ↔ (x ≡ y)
same_asks x y said other h k = (
  λ e.
      let signature : x.signature ≡ y.signature =
      sym (said_back (Ask x.request) x.signature)
      ∙ (ap₂ (λ r s. said_in (Ask r) s) e.0 (sym h ∙ (e.1 ∙ k)) ∙ said_back (Ask y.request) y.signature) in
      ap (λ r. ask_of r x.signature) e.0 ∙ ap (ask_of y.request) signature,
  λ e. (ap (λ a. a.request) e, h ∙ (ap (λ (a : SignedRequest). spelled_at (Ask a.request) a.signature) e ∙ sym k)),
)

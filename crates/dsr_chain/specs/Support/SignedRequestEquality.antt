-- When `==` holds for two signed requests: exactly if they are equal.
use Rattle.std.specs.Prelude.{◌≡◌, Bool, ◌&&◌}
use Rattle.std.specs.Bool.{Decides}
use Rattle.std.proofs.lemmas.Bool.Decides.{Decides-and, Decides-like}
use Rattle.std.proofs.Common.{ap, ap₂}
use Rattle.dsr_request.specs.Request.{Request}
use Rattle.dsr_request.specs.Support.RequestEquality.{request_eq, request_eq-Decides}
use Rattle.dsr_desk.specs.Signature.{Signature}
use Rattle.dsr_desk.specs.Support.SignatureEquality.{signature_eq, signature_eq-Decides}
use Rattle.dsr_chain.specs.declared.signed_request.SignedRequest.{SignedRequest}
use Rattle.dsr_chain.specs.contracts.signed_request.SignedRequestPartialEq.TheImpl.{ghosts}

-- whether `==` holds for two signed requests
abbrev pub signed_request_eq : SignedRequest → SignedRequest → Bool
signed_request_eq = ghosts.eq

-- the signed request with this request and this signature
abbrev make : Request → Signature → SignedRequest
make request signature = record { request = request; signature = signature }

-- it holds exactly for equal signed requests
pub signed_request_eq-Decides : (a b : SignedRequest) → Decides (signed_request_eq a b) (a ≡ b)
signed_request_eq-Decides a b =
    Decides-like (request_eq a.request b.request && signature_eq a.signature b.signature) (λ e. ap₂ make e.0 e.1)
    (λ e. (ap (λ s. s.request) e, ap (λ s. s.signature) e))
    (Decides-and (request_eq a.request b.request) (signature_eq a.signature b.signature) (request_eq-Decides a.request b.request)
    (signature_eq-Decides a.signature b.signature))

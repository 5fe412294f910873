-- Signed requests, read.
use Rattle.std.proofs.Common.{◌≡◌, ℕ, ◌↔◌, List, ◌∷◌, ◌++◌, Option, None, Some, refl, arith}
use Rattle.std.proofs.lemmas.Option.{none-some}
use Rattle.dsr_base.specs.Reads.{Reads}
use Rattle.dsr_base.specs.Split.{IsAbsent}
use Rattle.dsr_base.proofs.TwoParts.{at_byte, both_text, AreBoth, no_parts}
use Rattle.dsr_request.specs.Request.{Request}
use Rattle.dsr_request.specs.RequestText.{request_token, IsRequest}
use Rattle.dsr_request.specs.Support.RequestToken.{token_without}
use Rattle.dsr_desk.specs.declared.statement.Statement.TheVariants.{Ask}
use Rattle.dsr_chain.specs.declared.signed_request.SignedRequest.{SignedRequest}
use Rattle.dsr_envelope.specs.Limits.{IsSigned}
use Rattle.dsr_script.specs.SignatureText.{Spelled, spelled_text}
use Rattle.dsr_script.specs.ChainText.{signed_text}
use Rattle.dsr_script.specs.Support.SpelledText.{IsSpelled, pair_of}
use Rattle.dsr_script.specs.Support.AskText.{ask_parts}
use Rattle.dsr_script.proofs.PairLemmas.{reads_pair, reads_through}
use Rattle.dsr_script.proofs.SpelledLemmas.{said_kinds}

pub no_tilde : (request : Request) → IsRequest request → IsAbsent 126 (request_token request)
no_tilde request h =
    let no_mark : ◌≡◌ {A = ℕ} 35 126 → ⊥ = λ (e : ◌≡◌ {A = ℕ} 35 126). omega arith in
    let no_colon : ◌≡◌ {A = ℕ} 58 126 → ⊥ = λ (e : ◌≡◌ {A = ℕ} 58 126). omega arith in
    token_without 126 request refl no_mark no_colon h

abbrev pub IsPair : Request × Spelled → Type 0
IsPair = AreBoth IsRequest request_token IsSpelled spelled_text 126 (at_byte 126) no_tilde

abbrev pub pair_text : Request × Spelled → List ℕ
pair_text = both_text IsRequest request_token IsSpelled spelled_text 126 (at_byte 126) no_tilde

pub ask_kinds : (x : SignedRequest) → IsSigned x ↔ IsPair (ask_parts x)
ask_kinds x = (
  λ h. (h.request, (said_kinds (Ask x.request) h.request x.signature).0 h.signature),
  λ h. record { request = h.0; signature = (said_kinds (Ask x.request) h.0 x.signature).1 h.1 },
)

-- bytes without a tilde do not read as a signed request
pub no_ask : (bytes : List ℕ) → IsAbsent 126 bytes → Reads IsSigned signed_text bytes None
no_ask bytes free =
    reads_through IsPair pair_text IsSigned signed_text ask_parts ask_kinds (λ x. refl) bytes None None
    (no_parts IsRequest request_token IsSpelled spelled_text 126 (at_byte 126) no_tilde bytes free)
    (λ x. (λ e. absurd (none-some x e), λ e. absurd (none-some (ask_parts x) e)))

-- with one there is the signed request of its two parts
pub reads_ask : (bytes front rest : List ℕ) → bytes ≡ front ++ 126 ∷ rest → IsAbsent 126 front → (ra : Option Request) (rb : Option Spelled) (r : Option SignedRequest)
    → Reads IsRequest request_token front ra → Reads IsSpelled spelled_text rest rb
    → ((x : SignedRequest) → (r ≡ Some x) ↔ (pair_of ra rb ≡ Some (ask_parts x))) → Reads IsSigned signed_text bytes r
reads_ask bytes front rest parts part ra rb r reads_a reads_b made =
    reads_through IsPair pair_text IsSigned signed_text ask_parts ask_kinds (λ x. refl) bytes (pair_of ra rb) r
    (reads_pair IsRequest request_token IsSpelled spelled_text 126 (at_byte 126) no_tilde bytes front rest parts part ra rb reads_a reads_b) made

-- Signed requests by their two parts in a text, and why they can be joined.
use Rattle.std.proofs.Common.{◌≡◌, ◌≢◌, ℕ, ◌<◌, [], ◌∷◌, Bool, true, false, cond, None, Some, refl, arith, lit<}
use Rattle.dsr_base.specs.Split.{IsPart}
use Rattle.dsr_base.proofs.Outside.{part_append, plain_part}
use Rattle.dsr_request.specs.Request.{Request}
use Rattle.dsr_request.specs.NameText.{is_name_byte}
use Rattle.dsr_request.specs.RequestText.{request_token}
use Rattle.dsr_request.specs.Support.RequestToken.{token_without}
use Rattle.dsr_desk.specs.Signature.{Signature}
use Rattle.dsr_desk.specs.StatementText.{IsStatement}
use Rattle.dsr_desk.specs.Support.StatementEquality.{statement_eq}
use Rattle.dsr_desk.specs.declared.statement.Statement.{Statement}
use Rattle.dsr_desk.specs.declared.statement.Statement.TheVariants.{Ask}
use Rattle.dsr_chain.specs.declared.signed_request.SignedRequest.{SignedRequest}
use Rattle.dsr_envelope.specs.Limits.{IsSignature, IsSigned}
use Rattle.dsr_script.specs.SignatureText.{Spelled, spelled_at, spelled_text}
use Rattle.dsr_script.specs.ChainText.{signed_text}
use Rattle.dsr_script.specs.Support.SpelledText.{IsSpelled, IsOther, spelled_part}

-- the request, and what a text says about the signature beside it
abbrev pub ask_parts : SignedRequest → Request × Spelled
ask_parts x = (x.request, spelled_at (Ask x.request) x.signature)

-- the signed request with these two
abbrev pub ask_of : Request → Signature → SignedRequest
ask_of request signature = record { request = request; signature = signature }

other_kind : (b : Bool) (s : Signature) → IsStatement s.statement → IsOther (cond b None (Some s.statement))
other_kind true s h = tt
other_kind false s h = h

-- what a text says about a signature within the limits is something that a text can say
pub said_kind : (fitting : Statement) (s : Signature) → IsSignature s → IsSpelled (spelled_at fitting s)
said_kind fitting s h = record { signer = h.signer; other = other_kind (statement_eq s.statement fitting) s h.statement }

-- a signed request is a part for each mark below the digits that requests do not have, except `(`
pub ask_part : (mark : ℕ) → mark < 48 → 40 ≢ mark → is_name_byte mark ≡ false → (35 ≡ mark → ⊥) → (x : SignedRequest) → IsSigned x → IsPart mark (signed_text x)
ask_part mark low apart other no_mark x h =
    let no_open : ◌≡◌ {A = ℕ} 35 40 → ⊥ = λ (e : ◌≡◌ {A = ℕ} 35 40). omega arith in
    let colon_open : ◌≡◌ {A = ℕ} 58 40 → ⊥ = λ (e : ◌≡◌ {A = ℕ} 58 40). omega arith in
    let colon : 58 ≡ mark → ⊥ = λ (e : ◌≡◌ {A = ℕ} 58 mark). omega (arith, low, e) in
    let tilde : 126 ≡ mark → ⊥ = λ (e : ◌≡◌ {A = ℕ} 126 mark). omega (arith, low, e) in
    let between : IsPart mark (126 ∷ []) = record { free = (λ outside. tilde, tt); closed = refl } in
    part_append mark (request_token x.request) (126 ∷ spelled_text (spelled_at (Ask x.request) x.signature))
    (plain_part mark (request_token x.request) (token_without mark x.request other no_mark colon h.request) (token_without 40 x.request refl no_open colon_open h.request))
    (part_append mark (126 ∷ []) (spelled_text (spelled_at (Ask x.request) x.signature)) between
    (spelled_part mark low apart (spelled_at (Ask x.request) x.signature) (said_kind (Ask x.request) x.signature h.signature)))

pub ask_apart : (x : SignedRequest) → IsSigned x → IsPart 44 (signed_text x)
ask_apart x h = ask_part 44 (lit< tt) (λ (e : ◌≡◌ {A = ℕ} 40 44). omega arith) refl (λ (e : ◌≡◌ {A = ℕ} 35 44). omega arith) x h

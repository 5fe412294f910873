-- Why the tokens of requests can be joined by a comma: none has one in it, and none begins like a dash.
use Rattle.std.proofs.Common.{◌≡◌, ℕ, ◌<◌, List, ◌∷◌, ◌++◌, get_or, false, refl, sym, ◌∙◌, ap, arith, lit<}
use Rattle.std.proofs.lemmas.Bool.{false≢true}
use Rattle.std.proofs.lemmas.List.Elements.{All-cons, All-append}
use Rattle.std.specs.Fmt.{decimal}
use Rattle.dsr_base.specs.Split.{IsAbsent, IsPart}
use Rattle.dsr_base.proofs.Outside.{plain_part}
use Rattle.dsr_names.specs.Actor.{actor_text}
use Rattle.dsr_names.specs.declared.actor.Actor.TheVariants.{Client}
use Rattle.dsr_request.specs.Request.{Request}
use Rattle.dsr_request.specs.NameText.{is_name_byte}
use Rattle.dsr_request.specs.OpText.{op_text}
use Rattle.dsr_request.specs.RequestText.{request_text, request_token, IsRequest}
use Rattle.dsr_request.specs.Support.Texts.{decimal_without, op_without}

joined_without : (byte : ℕ) (first second : List ℕ) (mark : ℕ) → (mark ≡ byte → ⊥) → IsAbsent byte first → IsAbsent byte second → IsAbsent byte (first ++ mark ∷ second)
joined_without byte first second mark apart p q =
    All-append (λ b. b ≡ byte → ⊥) first (mark ∷ second) p (All-cons (λ b. b ≡ byte → ⊥) mark second apart q)

-- a byte that no name has is in no request's text, unless it separates the parts
pub text_without : (byte mark separator : ℕ) (request : Request) → is_name_byte byte ≡ false → (mark ≡ byte → ⊥) → (separator ≡ byte → ⊥)
    → IsRequest request → IsAbsent byte (request_text mark separator request)
text_without byte mark separator request other apart_mark apart_separator h =
    let letter : 99 ≡ byte → ⊥ = λ e. false≢true (sym other ∙ ap is_name_byte (sym e)) in
    joined_without byte (actor_text (Client request.client)) (decimal request.number ++ separator ∷ op_text separator request.op) mark apart_mark
    (All-cons (λ b. b ≡ byte → ⊥) 99 (decimal request.client) letter (decimal_without byte request.client other (omega (arith, h.client_exists))))
    (joined_without byte (decimal request.number) (op_text separator request.op) separator apart_separator
    (decimal_without byte request.number other (omega (arith, h.small_number))) (op_without byte separator request.op other apart_separator h.is_op))

-- a byte that no name has is in no request's token, unless it is `#` or a colon
pub token_without : (byte : ℕ) (request : Request) → is_name_byte byte ≡ false → (◌≡◌ {A = ℕ} 35 byte → ⊥) → (◌≡◌ {A = ℕ} 58 byte → ⊥) → IsRequest request
    → IsAbsent byte (request_token request)
token_without byte request other no_mark no_colon h = text_without byte 35 58 request other no_mark no_colon h

pub request_part : (request : Request) → IsRequest request → IsPart 44 (request_token request)
request_part request h =
    let not_mark : ◌≡◌ {A = ℕ} 35 44 → ⊥ = λ (e : ◌≡◌ {A = ℕ} 35 44). omega arith in
    let not_colon : ◌≡◌ {A = ℕ} 58 44 → ⊥ = λ (e : ◌≡◌ {A = ℕ} 58 44). omega arith in
    let mark_not_open : ◌≡◌ {A = ℕ} 35 40 → ⊥ = λ (e : ◌≡◌ {A = ℕ} 35 40). omega arith in
    let colon_not_open : ◌≡◌ {A = ℕ} 58 40 → ⊥ = λ (e : ◌≡◌ {A = ℕ} 58 40). omega arith in
    plain_part 44 (request_token request) (token_without 44 request refl not_mark not_colon h) (token_without 40 request refl mark_not_open colon_not_open h)

pub request_begun : (request : Request) → IsRequest request → 45 < get_or (request_token request) 0 0
request_begun request h = lit< tt

-- What texts say about signatures: what they can say, and why it can be joined to more.
use Rattle.std.proofs.Common.{◌≡◌, ◌≢◌, ℕ, ◌<◌, List, [], ◌∷◌, ◌++◌, Option, None, Some, refl, arith, lit<, rules}
use Rattle.std.proofs.lemmas.List.Elements.{All-cons, All-append}
use Rattle.std.specs.Fmt.{decimal}
use Rattle.dsr_base.specs.Split.{IsAbsent, IsPart}
use Rattle.dsr_base.proofs.JoinedLemmas.{joined_all}
use Rattle.dsr_base.proofs.Outside.{part_append, wrapped_part, lettered_part}
use Rattle.dsr_names.specs.Actor.{actor_text, IsNumbered}
use Rattle.dsr_names.specs.declared.actor.Actor.{Actor}
use Rattle.dsr_names.specs.declared.actor.Actor.TheVariants.{Replica, Client}
use Rattle.dsr_request.specs.Request.{Request}
use Rattle.dsr_request.specs.RequestText.{request_token, IsRequest}
use Rattle.dsr_request.specs.Support.RequestToken.{token_without}
use Rattle.dsr_request.specs.Support.Texts.{decimal_without}
use Rattle.dsr_desk.specs.ContentText.{content_text, IsContent}
use Rattle.dsr_desk.specs.SignersText.{signers_text, IsSigners}
use Rattle.dsr_desk.specs.StatementText.{statement_text, IsStatement}
use Rattle.dsr_desk.specs.declared.statement.Statement.{Statement}
use Rattle.dsr_desk.specs.declared.statement.Statement.TheVariants.{Ask, Link}
use Rattle.dsr_script.specs.SignatureText.{Spelled, spelled_text, other_text}

-- another statement that a text can write, or none
abbrev pub IsOther : Option Statement → Type 0
IsOther None = Unit {0}
IsOther (Some statement) = IsStatement statement

-- what a text can say about a signature
pub record IsSpelled (s : Spelled) : Type 0 where
  pub signer : IsNumbered s.signer
  pub other : IsOther s.other

-- a statement with a closing parenthesis after it
abbrev pub closed_text : Statement → List ℕ
closed_text statement = statement_text statement ++ 41 ∷ []

-- what a text says about this signer's signature on the statement that fits
abbrev pub short_form : Actor → Spelled
short_form signer = record { signer = signer; other = None }

-- what a text says about this signer's signature on this other statement
abbrev pub long_form : Actor × Statement → Spelled
long_form p = record { signer = p.0; other = Some p.1 }

-- the pair of both; `None` if one is missing
abbrev pub pair_of : {A B : Type 0} → Option A → Option B → Option (A × B)
pair_of None b = None
pair_of (Some a) None = None
pair_of (Some a) (Some b) = Some (a, b)

-- ---- no closing parenthesis in a statement

no_close_in_request : (request : Request) → IsRequest request → IsAbsent 41 (request_token request)
no_close_in_request request h =
    let no_mark : ◌≡◌ {A = ℕ} 35 41 → ⊥ = λ (e : ◌≡◌ {A = ℕ} 35 41). omega arith in
    let no_colon : ◌≡◌ {A = ℕ} 58 41 → ⊥ = λ (e : ◌≡◌ {A = ℕ} 58 41). omega arith in
    token_without 41 request refl no_mark no_colon h

no_close_in_content : (content : Option (List Request)) → IsContent content → IsAbsent 41 (content_text content)
no_close_in_content None h = search (rules, arith)
no_close_in_content (Some requests) h =
    let no_comma : ◌≡◌ {A = ℕ} 44 41 → ⊥ = λ (e : ◌≡◌ {A = ℕ} 44 41). omega arith in
    joined_all IsRequest request_token 44 (λ b. b ≡ 41 → ⊥) no_comma no_close_in_request requests h.each

no_close_in_actor : (a : Actor) → IsNumbered a → IsAbsent 41 (actor_text a)
no_close_in_actor (Replica r) h =
    let no_letter : ◌≡◌ {A = ℕ} 114 41 → ⊥ = λ (e : ◌≡◌ {A = ℕ} 114 41). omega arith in
    All-cons (λ b. b ≡ 41 → ⊥) 114 (decimal r) no_letter (decimal_without 41 r refl (omega (arith, h)))
no_close_in_actor (Client c) h =
    let no_letter : ◌≡◌ {A = ℕ} 99 41 → ⊥ = λ (e : ◌≡◌ {A = ℕ} 99 41). omega arith in
    All-cons (λ b. b ≡ 41 → ⊥) 99 (decimal c) no_letter (decimal_without 41 c refl (omega (arith, h)))

no_close_in_signers : (signers : List Actor) → IsSigners signers → IsAbsent 41 (signers_text signers)
no_close_in_signers [] h = search (rules, arith)
no_close_in_signers (a ∷ as') h =
    let no_plus : ◌≡◌ {A = ℕ} 43 41 → ⊥ = λ (e : ◌≡◌ {A = ℕ} 43 41). omega arith in
    joined_all IsNumbered actor_text 43 (λ b. b ≡ 41 → ⊥) no_plus no_close_in_actor (a ∷ as') h.each

no_close_in_statement : (statement : Statement) → IsStatement statement → IsAbsent 41 (statement_text statement)
no_close_in_statement (Ask request) h = no_close_in_request request h
no_close_in_statement (Link slot value before) h =
    let no_slash : ◌≡◌ {A = ℕ} 47 41 → ⊥ = λ (e : ◌≡◌ {A = ℕ} 47 41). omega arith in
    let ends = All-cons (λ b. b ≡ 41 → ⊥) 47 (signers_text before) no_slash (no_close_in_signers before h.2) in
    let middle = All-append (λ b. b ≡ 41 → ⊥) (content_text value) (47 ∷ signers_text before) (no_close_in_content value h.1) ends in
    All-append (λ b. b ≡ 41 → ⊥) (decimal slot) (47 ∷ (content_text value ++ 47 ∷ signers_text before)) (decimal_without 41 slot refl (omega (arith, h.0)))
    (All-cons (λ b. b ≡ 41 → ⊥) 47 (content_text value ++ 47 ∷ signers_text before) no_slash middle)

-- ---- parts

actor_part : (mark : ℕ) → mark < 48 → (a : Actor) → IsNumbered a → IsPart mark (actor_text a)
actor_part mark low (Replica r) h = lettered_part mark 114 r low (lit< tt) (omega (arith, h))
actor_part mark low (Client c) h = lettered_part mark 99 c low (lit< tt) (omega (arith, h))

other_part : (mark : ℕ) → 40 ≢ mark → (other : Option Statement) → IsOther other → IsPart mark (other_text other)
other_part mark apart None h = record { free = tt; closed = refl }
other_part mark apart (Some statement) h = wrapped_part mark (statement_text statement) apart (no_close_in_statement statement h)

-- what a text says about a signature is a part for each mark below the digits, except `(`
pub spelled_part : (mark : ℕ) → mark < 48 → 40 ≢ mark → (s : Spelled) → IsSpelled s → IsPart mark (spelled_text s)
spelled_part mark low apart s h =
    part_append mark (actor_text s.signer) (other_text s.other) (actor_part mark low s.signer h.signer) (other_part mark apart s.other h.other)

pub spelled_apart : (s : Spelled) → IsSpelled s → IsPart 43 (spelled_text s)
spelled_apart s h = spelled_part 43 (lit< tt) (λ (e : ◌≡◌ {A = ℕ} 40 43). omega arith) s h

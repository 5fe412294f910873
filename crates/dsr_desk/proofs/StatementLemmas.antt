-- Texts of statements, cut at the slashes.
use Rattle.std.proofs.Common.{rules, ◌≡◌, ℕ, ◌^◌, ◌<◌, ◌↔◌, List, ◌∷◌, ◌++◌, Option, None, Some, refl, sym, ap, ◌∙◌, subst, arith}
use Rattle.std.specs.Fmt.{decimal}
use Rattle.std.proofs.lemmas.Option.{none-some, same_Some}
use Rattle.dsr_base.specs.Reads.{Reads}
use Rattle.dsr_base.specs.Split.{IsAbsent}
use Rattle.dsr_names.specs.declared.actor.Actor.{Actor}
use Rattle.dsr_base.proofs.Marks.{one_cut, not_absent}
use Rattle.dsr_request.specs.Support.Texts.{decimal_without}
use Rattle.dsr_request.specs.Request.{Request}
use Rattle.dsr_request.specs.RequestText.{request_token, IsRequest}
use Rattle.dsr_base.proofs.JoinedLemmas.{joined_all}
use Rattle.dsr_request.specs.Support.RequestToken.{token_without}
use Rattle.dsr_desk.specs.ContentText.{content_text, IsContent}
use Rattle.dsr_desk.specs.SignersText.{signers_text, IsSigners}
use Rattle.dsr_desk.specs.StatementText.{statement_text, IsStatement, HasParts}
use Rattle.dsr_desk.specs.declared.statement.Statement.{Statement}
use Rattle.dsr_desk.specs.declared.statement.Statement.TheVariants.{Ask, Link}

-- what the readers of a statement, of a request and of a link's parts answer
abbrev pub ReadsStatement : List ℕ → Option Statement → Type 0
ReadsStatement = Reads IsStatement statement_text

abbrev ReadsRequest : List ℕ → Option Request → Type 0
ReadsRequest = Reads IsRequest request_token

abbrev ReadsSlot : List ℕ → ℕ → Type 0
ReadsSlot bytes slot = Reads (λ n. n < 2 ^ 40) decimal bytes (Some slot)

abbrev ReadsContent : List ℕ → Option (List Request) → Type 0
ReadsContent bytes value = Reads IsContent content_text bytes (Some value)

abbrev ReadsSigners : List ℕ → List Actor → Type 0
ReadsSigners bytes before = Reads IsSigners signers_text bytes (Some before)

abbrev ReadsLink : List ℕ → List ℕ → List ℕ → Option Statement → Type 0
ReadsLink slot content before answer = (statement : Statement) → (answer ≡ Some statement) ↔ (IsStatement statement × HasParts slot content before statement)

-- ---- slashes

no_slash_in_request : (request : Request) → IsRequest request → IsAbsent 47 (request_token request)
no_slash_in_request request h =
    let no_mark : ◌≡◌ {A = ℕ} 35 47 → ⊥ = λ (e : ◌≡◌ {A = ℕ} 35 47). omega arith in
    let no_colon : ◌≡◌ {A = ℕ} 58 47 → ⊥ = λ (e : ◌≡◌ {A = ℕ} 58 47). omega arith in
    token_without 47 request refl no_mark no_colon h

no_slash_in_content : (content : Option (List Request)) → IsContent content → IsAbsent 47 (content_text content)
no_slash_in_content None h = search (rules, arith)
no_slash_in_content (Some requests) h =
    let no_comma : ◌≡◌ {A = ℕ} 44 47 → ⊥ = λ (e : ◌≡◌ {A = ℕ} 44 47). omega arith in
    joined_all IsRequest request_token 44 (λ b. b ≡ 47 → ⊥) no_comma no_slash_in_request requests h.each

no_slash_in_slot : (slot : ℕ) → slot < 2 ^ 40 → IsAbsent 47 (decimal slot)
no_slash_in_slot slot small = decimal_without 47 slot refl (omega (arith, small))

-- ---- no slash: a request

ask_text : (bytes : List ℕ) (request : Request) (statement : Statement) → Ask request ≡ statement → IsRequest request
    → bytes ≡ request_token request → IsStatement statement × (bytes ≡ statement_text statement)
ask_text bytes request statement same h e = subst (λ s. IsStatement s × (bytes ≡ statement_text s)) same (h, e)

spelled_asked : (bytes : List ℕ) (r : Option Request) → IsAbsent 47 bytes → ReadsRequest bytes r → (statement : Statement) → IsStatement statement
    → bytes ≡ statement_text statement → (request : Request) × (r ≡ Some request) × (statement ≡ Ask request)
spelled_asked bytes r free reads (Ask request) h e = (request, (reads request).1 (h, e), refl)
spelled_asked bytes r free reads (Link slot value before) h e =
    absurd (not_absent 47 (decimal slot) (content_text value ++ 47 ∷ signers_text before) (subst (IsAbsent 47) e free))

pub no_request : (bytes : List ℕ) → IsAbsent 47 bytes → ReadsRequest bytes None → ReadsStatement bytes None
no_request bytes free reads statement = (
  λ e. absurd (none-some statement e),
  λ h.
      let asked = spelled_asked bytes None free reads statement h.0 h.1 in
      absurd (none-some asked.0 asked.1),
)

pub one_request : (bytes : List ℕ) (request : Request) → IsAbsent 47 bytes → ReadsRequest bytes (Some request) → ReadsStatement bytes (Some (Ask request))
one_request bytes request free reads statement = (
  λ e.
      let read = (reads request).0 refl in
      ask_text bytes request statement (same_Some (Ask request) statement e) read.0 read.1,
  λ h.
      let asked = spelled_asked bytes (Some request) free reads statement h.0 h.1 in
      ap Some (ap Ask (same_Some request asked.0 asked.1) ∙ sym asked.2),
)

-- ---- slashes: a link

-- bytes with only one slash are not a statement's text
one_slash : (bytes front rest : List ℕ) → bytes ≡ front ++ 47 ∷ rest → IsAbsent 47 front → IsAbsent 47 rest → (statement : Statement)
    → IsStatement statement → bytes ≡ statement_text statement → ⊥
one_slash bytes front rest parts free_front free_rest (Ask request) h e =
    not_absent 47 front rest (subst (IsAbsent 47) (sym e ∙ parts) (no_slash_in_request request h))
one_slash bytes front rest parts free_front free_rest (Link slot value before) h e =
    let same = one_cut 47 front rest (decimal slot) (content_text value ++ 47 ∷ signers_text before) free_front (no_slash_in_slot slot h.0) (sym parts ∙ e) in
    not_absent 47 (content_text value) (signers_text before) (subst (IsAbsent 47) same.1 free_rest)

pub no_link : (bytes front rest : List ℕ) → bytes ≡ front ++ 47 ∷ rest → IsAbsent 47 front → IsAbsent 47 rest → ReadsStatement bytes None
no_link bytes front rest parts free_front free_rest statement =
    (λ e. absurd (none-some statement e), λ h. absurd (one_slash bytes front rest parts free_front free_rest statement h.0 h.1))

-- two cuts give the parts
parts_of : (bytes front rest content before : List ℕ) → bytes ≡ front ++ 47 ∷ rest → IsAbsent 47 front → rest ≡ content ++ 47 ∷ before
    → IsAbsent 47 content → (statement : Statement) → IsStatement statement → bytes ≡ statement_text statement → HasParts front content before statement
parts_of bytes front rest content before parts free cut free_content (Ask request) h e =
    not_absent 47 front rest (subst (IsAbsent 47) (sym e ∙ parts) (no_slash_in_request request h))
parts_of bytes front rest content before parts free cut free_content (Link slot value signers) h e =
    let first = one_cut 47 front rest (decimal slot) (content_text value ++ 47 ∷ signers_text signers) free (no_slash_in_slot slot h.0) (sym parts ∙ e) in
    let second = one_cut 47 content before (content_text value) (signers_text signers) free_content (no_slash_in_content value h.1) (sym cut ∙ first.1) in
    (first.0, second.0, second.1)

-- and the parts give the text
text_of : (bytes front rest content before : List ℕ) → bytes ≡ front ++ 47 ∷ rest → rest ≡ content ++ 47 ∷ before → (statement : Statement)
    → HasParts front content before statement → bytes ≡ statement_text statement
text_of bytes front rest content before parts cut (Ask request) h = absurd h
text_of bytes front rest content before parts cut (Link slot value signers) h =
    parts ∙ (ap (λ xs. xs ++ 47 ∷ rest) h.0 ∙ ap (λ xs. decimal slot ++ 47 ∷ xs) (cut ∙ (ap (λ xs. xs ++ 47 ∷ before) h.1 ∙ ap (λ xs. content_text value ++ 47 ∷ xs) h.2)))

pub link_by_parts : (bytes front rest content before : List ℕ) (r : Option Statement) → bytes ≡ front ++ 47 ∷ rest → IsAbsent 47 front
    → rest ≡ content ++ 47 ∷ before → IsAbsent 47 content → ReadsLink front content before r → ReadsStatement bytes r
link_by_parts bytes front rest content before r parts free cut free_content reads statement = (
  λ e.
      let h = (reads statement).0 e in
      (h.0, text_of bytes front rest content before parts cut statement h.1),
  λ h. (reads statement).1 (h.0, parts_of bytes front rest content before parts free cut free_content statement h.0 h.1),
)

-- ---- the parts of a link

link_parts : (slot_bytes content_bytes before_bytes : List ℕ) (statement : Statement) (slot : ℕ) (value : Option (List Request)) (before : List Actor)
    → Link slot value before ≡ statement → (slot < 2 ^ 40) × (slot_bytes ≡ decimal slot) → IsContent value × (content_bytes ≡ content_text value)
    → IsSigners before × (before_bytes ≡ signers_text before) → IsStatement statement × HasParts slot_bytes content_bytes before_bytes statement
link_parts slot_bytes content_bytes before_bytes statement slot value before same s v b =
    subst (λ it. IsStatement it × HasParts slot_bytes content_bytes before_bytes it) same ((s.0, v.0, b.0), (s.1, v.1, b.1))

parts_link : (slot_bytes content_bytes before_bytes : List ℕ) (slot : ℕ) (value : Option (List Request)) (before : List Actor) → ReadsSlot slot_bytes slot
    → ReadsContent content_bytes value → ReadsSigners before_bytes before → (statement : Statement) → IsStatement statement
    → HasParts slot_bytes content_bytes before_bytes statement → Link slot value before ≡ statement
parts_link slot_bytes content_bytes before_bytes slot value before s v b (Ask request) h parts = absurd parts
parts_link slot_bytes content_bytes before_bytes slot value before s v b (Link slot' value' before') h parts =
    let same_slot = same_Some slot slot' ((s slot').1 (h.0, parts.0)) in
    let same_value = same_Some value value' ((v value').1 (h.1, parts.1)) in
    let same_before = same_Some before before' ((b before').1 (h.2, parts.2)) in
    ap (λ n. Link n value before) same_slot ∙ ap (λ content. Link slot' content before) same_value ∙ ap (Link slot' value') same_before

pub reads_link : (slot_bytes content_bytes before_bytes : List ℕ) (slot : ℕ) (value : Option (List Request)) (before : List Actor) → ReadsSlot slot_bytes slot
    → ReadsContent content_bytes value → ReadsSigners before_bytes before → ReadsLink slot_bytes content_bytes before_bytes (Some (Link slot value before))
reads_link slot_bytes content_bytes before_bytes slot value before s v b statement = (
  λ e.
      link_parts slot_bytes content_bytes before_bytes statement slot value before (same_Some (Link slot value before) statement e)
      ((s slot).0 refl) ((v value).0 refl) ((b before).0 refl),
  λ h. ap Some (parts_link slot_bytes content_bytes before_bytes slot value before s v b statement h.0 h.1),
)

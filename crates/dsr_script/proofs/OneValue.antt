-- Each text is the text of only one value.
use Rattle.std.proofs.Common.{◌≡◌, ℕ, ◌+◌, ◌-◌, ◌<◌, ◌^◌, nat_eq, get_or, List, [], ◌∷◌, ◌++◌, codes, Option, None, Some, false, refl, sym, ◌∙◌, ap, ap₂, subst, arith, lit<, rules}
use Rattle.std.specs.Fmt.{decimal}
use Rattle.std.specs.Str.Parse.{AllDigits}
use Rattle.std.proofs.lemmas.Bool.Decides.{nat_tests}
use Rattle.std.proofs.lemmas.Fmt.{decimal_injective, digits_decimal}
use Rattle.std.proofs.lemmas.List.{append-nil, append_cancel_left}
use Rattle.std.proofs.lemmas.List.Elements.{All-head, All-tail}
use Rattle.dsr_base.specs.Joined.{joined, joined_or_dash, AreFew, AreUpTo}
use Rattle.dsr_base.specs.Reads.{Reads}
use Rattle.dsr_base.specs.Split.{IsAbsent, IsFree, IsPart}
use Rattle.dsr_base.proofs.JoinedLemmas.{reads_alone, reads_led, reads_dash, reads_some_items, joined_all}
use Rattle.dsr_base.proofs.Marks.{one_cut, not_absent, decimal_without_low, letter_then_without}
use Rattle.dsr_base.proofs.Numerals.{own}
use Rattle.dsr_base.proofs.ReadsLemmas.{reads_some, only_read}
use Rattle.dsr_base.proofs.TwoParts.{Cuts, both_text, AreBoth, reads_parts}
use Rattle.dsr_names.specs.Actor.{actor_text, IsNumbered}
use Rattle.dsr_names.specs.Token.{IsOld, old_text}
use Rattle.dsr_names.specs.Support.ActorToken.{actor_part, actor_begun}
use Rattle.dsr_names.specs.declared.actor.Actor.{Actor}
use Rattle.dsr_names.specs.declared.actor.Actor.TheVariants.{Replica, Client}
use Rattle.dsr_request.specs.AnswerText.{answer_text, IsAnswer}
use Rattle.dsr_request.specs.OpText.{op_text, verb_of, operands_text, IsOp}
use Rattle.dsr_request.specs.Request.{Request, request_of}
use Rattle.dsr_request.specs.RequestText.{request_token, IsRequest}
use Rattle.dsr_request.specs.Support.RequestToken.{token_without, request_part}
use Rattle.dsr_request.specs.Support.Texts.{name_without, old_without, decimal_without, verb_without}
use Rattle.dsr_request.specs.declared.answer.Answer.{Answer}
use Rattle.dsr_request.specs.declared.answer.Answer.TheVariants.{Held, Written, Swapped, Kept, Full, Removed}
use Rattle.dsr_request.specs.declared.op.Op.{Op}
use Rattle.dsr_request.specs.declared.op.Op.TheVariants.{Read, Write, Swap, Remove}
use Rattle.dsr_desk.specs.ContentText.{content_text, IsContent}
use Rattle.dsr_desk.specs.SignersText.{signers_text, IsSigners}
use Rattle.dsr_desk.specs.StatementText.{statement_text, IsStatement}
use Rattle.dsr_desk.specs.declared.statement.Statement.{Statement}
use Rattle.dsr_desk.specs.declared.statement.Statement.TheVariants.{Ask, Link}
use Rattle.dsr_envelope.specs.Limits.{IsCount}

-- what has a text of its kind is read from it
abbrev pub Tells : {X : Type 0} → (X → Type 0) → (X → List ℕ) → Type 0
Tells {X} is text = (x : X) → is x → Reads is text (text x) (Some x)

module _ {X : Type 0} (is : X → Type 0) (text : X → List ℕ) where
  pub tells_by : ((x y : X) → is x → is y → text x ≡ text y → x ≡ y) → Tells is text
  tells_by one x h = reads_some is text (text x) x h refl (λ y k e. one x y h k e)

  -- then two with one text are the same
  pub one_of : Tells is text → (x y : X) → is x → is y → text x ≡ text y → x ≡ y
  one_of tells x y h k e = only_read is text (text x) x (tells x h) y k e

-- ---- what has parts

pub tells_both : {A B : Type 0} (is_a : A → Type 0) (text_a : A → List ℕ) (is_b : B → Type 0) (text_b : B → List ℕ) (mark : ℕ) (cuts : Cuts mark)
    (apart : (a : A) → is_a a → cuts.IsFront (text_a a)) → Tells is_a text_a → Tells is_b text_b
    → Tells (AreBoth is_a text_a is_b text_b mark cuts apart) (both_text is_a text_a is_b text_b mark cuts apart)
tells_both is_a text_a is_b text_b mark cuts apart one other p h =
    reads_parts is_a text_a is_b text_b mark cuts apart (text_a p.0 ++ mark ∷ text_b p.1) (text_a p.0) (text_b p.1) refl (apart p.0 h.0)
    p.0 p.1 (one p.0 h.0) (other p.1 h.1)

pub tells_through : {P X : Type 0} (is_p : P → Type 0) (text_p : P → List ℕ) (is_x : X → Type 0) (text_x : X → List ℕ) (make : P → X) (parts : X → P)
    → ((x : X) → make (parts x) ≡ x) → ((x : X) → is_x x → is_p (parts x)) → ((x : X) → text_x x ≡ text_p (parts x)) → Tells is_p text_p
    → Tells is_x text_x
tells_through is_p text_p is_x text_x make parts back kind same tells =
    tells_by is_x text_x (λ x y h k e.
    let both = one_of is_p text_p tells (parts x) (parts y) (kind x h) (kind y k) (sym (same x) ∙ (e ∙ same y)) in
    sym (back x) ∙ (ap make both ∙ back y))

-- ---- lists

module _ {X : Type 0} (is : X → Type 0) (text : X → List ℕ) (mark : ℕ) (apart : (x : X) → is x → IsPart mark (text x)) (tells : Tells is text) where
  pub tells_few : (most : ℕ) → Tells (AreFew is most) (joined mark text)
  tells_few most [] h = let none : ⊥ = omega (arith, h.some) in absurd none
  tells_few most (x ∷ []) h =
      let one = All-head is x [] h.each in
      reads_alone is text mark apart most (text x ++ []) x (omega (arith, h.few)) (subst (IsFree mark false) (sym (append-nil (text x))) (apart x one).free)
      (subst (λ bytes. Reads is text bytes (Some x)) (sym (append-nil (text x))) (tells x one))
  tells_few most (x ∷ y ∷ ys) h =
      let one = All-head is x (y ∷ ys) h.each in
      reads_led is text mark apart most (joined mark text (x ∷ y ∷ ys)) (text x) (joined mark text (y ∷ ys)) x (y ∷ ys) (omega (arith, h.few)) refl
      (apart x one) (tells x one)
      (tells_few (most - 1) (y ∷ ys) (record { some = omega arith; few = omega (arith, h.few); each = All-tail is x (y ∷ ys) h.each }))

  module _ (begun : (x : X) → is x → 45 < get_or (text x) 0 0) (most : ℕ) where
    pub tells_up_to : Tells (AreUpTo is most) (joined_or_dash mark text)
    tells_up_to [] h = reads_dash is text mark begun most (codes "-") refl
    tells_up_to (x ∷ xs) h =
        reads_some_items is text mark most (joined mark text (x ∷ xs)) (Some (x ∷ xs))
        (λ e.
        let none : [] ≡ x ∷ xs =
        only_read (AreUpTo is most) (joined_or_dash mark text) (joined mark text (x ∷ xs)) []
        (reads_dash is text mark begun most (joined mark text (x ∷ xs)) e) (x ∷ xs) h refl in
        absurd cc)
        (tells_few most (x ∷ xs) (record { some = omega arith; few = h.few; each = h.each }))

-- ---- numbers, actors and operations

-- texts are others that differ in the sum of their first and their third byte
other_text : (xs ys : List ℕ) → nat_eq (get_or xs 0 0 + get_or xs 2 0) (get_or ys 0 0 + get_or ys 2 0) ≡ false → xs ≡ ys → ⊥
other_text xs ys differ e =
    let same : get_or xs 0 0 + get_or xs 2 0 ≡ get_or ys 0 0 + get_or ys 2 0 = ap (λ zs. get_or zs 0 0 + get_or zs 2 0) e in
    grind (arith, nat_tests)

-- and those that differ in the first
pub other_begun : (xs ys : List ℕ) → nat_eq (get_or xs 0 0) (get_or ys 0 0) ≡ false → xs ≡ ys → ⊥
other_begun xs ys differ e =
    let same : get_or xs 0 0 ≡ get_or ys 0 0 = ap (λ zs. get_or zs 0 0) e in
    grind (arith, nat_tests)

pub tells_count : Tells IsCount decimal
tells_count = tells_by IsCount decimal (λ m n h k e. decimal_injective m n (omega (arith, h)) (omega (arith, k)) e)

one_actor : (a b : Actor) → IsNumbered a → IsNumbered b → actor_text a ≡ actor_text b → a ≡ b
one_actor (Replica r) (Replica q) h k e =
    ap Replica (decimal_injective r q (omega (arith, h)) (omega (arith, k)) (append_cancel_left (codes "r") (decimal r) (decimal q) e))
one_actor (Client c) (Client d) h k e =
    ap Client (decimal_injective c d (omega (arith, h)) (omega (arith, k)) (append_cancel_left (codes "c") (decimal c) (decimal d) e))
one_actor a b h k e = absurd (other_begun (actor_text a) (actor_text b) refl e)

pub tells_actor : Tells IsNumbered actor_text
tells_actor = tells_by IsNumbered actor_text one_actor

none_is_no_number : (n : ℕ) → n < 2 ^ 64 → codes "none" ≡ decimal n → ⊥
none_is_no_number n small e =
    let digits : AllDigits 10 (codes "none") = subst (AllDigits 10) (sym e) (digits_decimal own n small) in
    omega (arith, digits.0)

one_old : (a b : Option ℕ) → IsOld a → IsOld b → old_text a ≡ old_text b → a ≡ b
one_old None None h k e = refl
one_old None (Some n) h k e = absurd (none_is_no_number n k e)
one_old (Some m) None h k e = absurd (none_is_no_number m h (sym e))
one_old (Some m) (Some n) h k e = ap Some (decimal_injective m n h k e)

one_answer : (a b : Answer) → IsAnswer a → IsAnswer b → answer_text a ≡ answer_text b → a ≡ b
one_answer (Held o) (Held p) h k e = ap Held (one_old o p h k (append_cancel_left (codes "held ") (old_text o) (old_text p) e))
one_answer Written Written h k e = refl
one_answer Swapped Swapped h k e = refl
one_answer (Kept o) (Kept p) h k e = ap Kept (one_old o p h k (append_cancel_left (codes "kept ") (old_text o) (old_text p) e))
one_answer Full Full h k e = refl
one_answer (Removed o) (Removed p) h k e = ap Removed (one_old o p h k (append_cancel_left (codes "removed ") (old_text o) (old_text p) e))
one_answer a b h k e = absurd (other_begun (answer_text a) (answer_text b) refl e)

pub tells_answer : Tells IsAnswer answer_text
tells_answer = tells_by IsAnswer answer_text one_answer

one_operands : (a b : Op) → IsOp a → IsOp b → verb_of a ≡ verb_of b → operands_text 58 a ≡ operands_text 58 b → a ≡ b
one_operands (Read name) (Read other) h k verb e = ap Read e
one_operands (Write name value) (Write other new) h k verb e =
    let both = one_cut 58 name (decimal value) other (decimal new) (name_without 58 name refl h.0) (name_without 58 other refl k.0) e in
    ap₂ Write both.0 (decimal_injective value new h.1 k.1 both.1)
one_operands (Swap name from to) (Swap other old new) h k verb e =
    let first = one_cut 58 name (old_text from ++ 58 ∷ decimal to) other (old_text old ++ 58 ∷ decimal new)
    (name_without 58 name refl h.0) (name_without 58 other refl k.0) e in
    let second = one_cut 58 (old_text from) (decimal to) (old_text old) (decimal new) (old_without 58 from refl h.1) (old_without 58 old refl k.1) first.1 in
    ap (λ n. Swap n from to) first.0 ∙ ap₂ (Swap other) (one_old from old h.1 k.1 second.0) (decimal_injective to new h.2 k.2 second.1)
one_operands (Remove name) (Remove other) h k verb e = ap Remove e
one_operands a b h k verb e = absurd (other_text (verb_of a) (verb_of b) refl verb)

one_op : (a b : Op) → IsOp a → IsOp b → op_text 58 a ≡ op_text 58 b → a ≡ b
one_op a b h k e =
    let both = one_cut 58 (verb_of a) (operands_text 58 a) (verb_of b) (operands_text 58 b) (verb_without 58 a refl) (verb_without 58 b refl) e in
    one_operands a b h k both.0 both.1

-- ---- requests and statements

no_mark_in_client : (c : ℕ) → c < 32 → IsAbsent 35 (actor_text (Client c))
no_mark_in_client c small = letter_then_without 99 35 (decimal c) (lit< tt) (decimal_without_low 35 c (lit< tt) (omega (arith, small)))

one_request : (x y : Request) → IsRequest x → IsRequest y → request_token x ≡ request_token y → x ≡ y
one_request x y h k e =
    let first = one_cut 35 (actor_text (Client x.client)) (decimal x.number ++ 58 ∷ op_text 58 x.op) (actor_text (Client y.client))
    (decimal y.number ++ 58 ∷ op_text 58 y.op) (no_mark_in_client x.client h.client_exists) (no_mark_in_client y.client k.client_exists) e in
    let small : x.number < 2 ^ 64 = omega (arith, h.small_number) in
    let small_too : y.number < 2 ^ 64 = omega (arith, k.small_number) in
    let second = one_cut 58 (decimal x.number) (op_text 58 x.op) (decimal y.number) (op_text 58 y.op) (decimal_without 58 x.number refl small)
    (decimal_without 58 y.number refl small_too) first.1 in
    let client : x.client ≡ y.client =
    decimal_injective x.client y.client (omega (arith, h.client_exists)) (omega (arith, k.client_exists))
    (append_cancel_left (codes "c") (decimal x.client) (decimal y.client) first.0) in
    ap (λ c. request_of c x.number x.op) client
    ∙ ap₂ (request_of y.client) (decimal_injective x.number y.number small small_too second.0) (one_op x.op y.op h.is_op k.is_op second.1)

pub tells_request : Tells IsRequest request_token
tells_request = tells_by IsRequest request_token one_request

one_content : (a b : Option (List Request)) → IsContent a → IsContent b → content_text a ≡ content_text b → a ≡ b
one_content None None h k e = refl
one_content None (Some []) h k e = let none : ⊥ = omega (arith, k.some) in absurd none
one_content None (Some (r ∷ rs)) h k e = absurd (other_begun (codes "idle") (content_text (Some (r ∷ rs))) refl e)
one_content (Some []) None h k e = let none : ⊥ = omega (arith, h.some) in absurd none
one_content (Some (r ∷ rs)) None h k e = absurd (other_begun (content_text (Some (r ∷ rs))) (codes "idle") refl e)
one_content (Some rs) (Some qs) h k e =
    ap Some (one_of (AreFew IsRequest 8) (joined 44 request_token) (tells_few IsRequest request_token 44 request_part tells_request 8) rs qs h k e)

tells_signers : Tells IsSigners signers_text
tells_signers = tells_up_to IsNumbered actor_text 43 actor_part tells_actor actor_begun 16

no_slash_in_request : (request : Request) → IsRequest request → IsAbsent 47 (request_token request)
no_slash_in_request request h =
    let no_mark : ◌≡◌ {A = ℕ} 35 47 → ⊥ = λ (e : ◌≡◌ {A = ℕ} 35 47). omega arith in
    let no_colon : ◌≡◌ {A = ℕ} 58 47 → ⊥ = λ (e : ◌≡◌ {A = ℕ} 58 47). omega arith in
    token_without 47 request refl no_mark no_colon h

no_slash_in_content : (content : Option (List Request)) → IsContent content → IsAbsent 47 (content_text content)
no_slash_in_content None h = search (rules, arith)
no_slash_in_content (Some requests) h =
    let no_comma : ◌≡◌ {A = ℕ} 44 47 → ⊥ = λ (e : ◌≡◌ {A = ℕ} 44 47). omega arith in
    joined_all IsRequest request_token 44 (λ b. b ≡ 47 → ⊥) no_comma no_slash_in_request requests h.each

no_slash_in_slot : (slot : ℕ) → slot < 2 ^ 40 → IsAbsent 47 (decimal slot)
no_slash_in_slot slot small = decimal_without_low 47 slot (lit< tt) (omega (arith, small))

one_statement : (a b : Statement) → IsStatement a → IsStatement b → statement_text a ≡ statement_text b → a ≡ b
one_statement (Ask request) (Ask other) h k e = ap Ask (one_request request other h k e)
one_statement (Ask request) (Link slot value before) h k e =
    absurd (not_absent 47 (decimal slot) (content_text value ++ 47 ∷ signers_text before) (subst (IsAbsent 47) e (no_slash_in_request request h)))
one_statement (Link slot value before) (Ask request) h k e =
    absurd (not_absent 47 (decimal slot) (content_text value ++ 47 ∷ signers_text before) (subst (IsAbsent 47) (sym e) (no_slash_in_request request k)))
one_statement (Link slot value before) (Link other content earlier) h k e =
    let first = one_cut 47 (decimal slot) (content_text value ++ 47 ∷ signers_text before) (decimal other) (content_text content ++ 47 ∷ signers_text earlier)
    (no_slash_in_slot slot h.0) (no_slash_in_slot other k.0) e in
    let second = one_cut 47 (content_text value) (signers_text before) (content_text content) (signers_text earlier) (no_slash_in_content value h.1)
    (no_slash_in_content content k.1) first.1 in
    ap (λ n. Link n value before) (decimal_injective slot other (omega (arith, h.0)) (omega (arith, k.0)) first.0)
    ∙ ap₂ (Link other) (one_content value content h.1 k.1 second.0) (one_of IsSigners signers_text tells_signers before earlier h.2 k.2 second.1)

pub tells_statement : Tells IsStatement statement_text
tells_statement = tells_by IsStatement statement_text one_statement

-- The parts of a request's text are those that two cuts give.
use Rattle.std.proofs.Common.{◌≡◌, ℕ, ◌<◌, ◌^◌, ◌↔◌, ◌⊎◌, inl, inr, List, ◌∷◌, ◌++◌, Option, None, Some, false, refl, sym, ◌∙◌, ap, subst, arith}
use Rattle.std.specs.Fmt.{decimal}
use Rattle.dsr_base.specs.Split.{IsAbsent}
use Rattle.dsr_names.specs.Actor.{actor_text, IsNumbered}
use Rattle.dsr_names.specs.declared.actor.Actor.{Actor}
use Rattle.dsr_names.specs.declared.actor.Actor.TheVariants.{Replica, Client}
use Rattle.dsr_request.specs.NameText.{is_name_byte}
use Rattle.dsr_request.specs.OpText.{op_text}
use Rattle.dsr_base.proofs.Marks.{one_cut, not_absent}
use Rattle.dsr_request.specs.Support.Texts.{decimal_without}
use Rattle.std.proofs.lemmas.List.Elements.{All-cons}
use Rattle.dsr_request.specs.Request.{Request}
use Rattle.dsr_request.specs.RequestText.{request_text, IsRequest}

-- a client among actors

pub client_read : (bytes : List ℕ) (k : ℕ) → ((a : Actor) → (Some (Client k) ≡ Some a) ↔ (IsNumbered a × (bytes ≡ actor_text a)))
    → (client : ℕ) → (Some k ≡ Some client) ↔ ((client < 32) × (bytes ≡ actor_text (Client client)))
client_read bytes k h client = (
  (λ e. let same : k ≡ client = cc in subst (λ c. (c < 32) × (bytes ≡ actor_text (Client c))) same ((h (Client k)).0 refl)),
  (λ p. let both : Some (Client k) ≡ Some (Client client) = (h (Client client)).1 p in let same : k ≡ client = cc in ap Some same),
)

pub replica_read : (bytes : List ℕ) (k : ℕ) → ((a : Actor) → (Some (Replica k) ≡ Some a) ↔ (IsNumbered a × (bytes ≡ actor_text a)))
    → (client : ℕ) → (None ≡ Some client) ↔ ((client < 32) × (bytes ≡ actor_text (Client client)))
replica_read bytes k h client = (
  (λ e. cc),
  (λ p. let both : Some (Replica k) ≡ Some (Client client) = (h (Client client)).1 p in cc),
)

pub no_actor_read : (bytes : List ℕ) (r : Option ℕ) → r ≡ None → ((a : Actor) → (◌≡◌ {A = Option Actor} None (Some a)) ↔ (IsNumbered a × (bytes ≡ actor_text a)))
    → (client : ℕ) → (r ≡ Some client) ↔ ((client < 32) × (bytes ≡ actor_text (Client client)))
no_actor_read bytes r none h client = (
  (λ e. cc),
  (λ p. let both : ◌≡◌ {A = Option Actor} None (Some (Client client)) = (h (Client client)).1 p in cc),
)

-- cuts

abbrev IsMark : ℕ → Type 0
IsMark mark = (mark ≡ 32) ⊎ (mark ≡ 35)

abbrev IsSeparator : ℕ → Type 0
IsSeparator separator = (separator ≡ 32) ⊎ (separator ≡ 58)

mark_is_no_name_byte : (mark : ℕ) → IsMark mark → is_name_byte mark ≡ false
mark_is_no_name_byte mark (inl at) = ap is_name_byte at
mark_is_no_name_byte mark (inr at) = ap is_name_byte at

separator_is_no_name_byte : (separator : ℕ) → IsSeparator separator → is_name_byte separator ≡ false
separator_is_no_name_byte separator (inl at) = ap is_name_byte at
separator_is_no_name_byte separator (inr at) = ap is_name_byte at

letter_is_no_mark : (mark : ℕ) → IsMark mark → 99 ≡ mark → ⊥
letter_is_no_mark mark (inl at) e = omega arith
letter_is_no_mark mark (inr at) e = omega arith

client_without : (mark client : ℕ) → IsMark mark → client < 32 → IsAbsent mark (actor_text (Client client))
client_without mark client m small =
    All-cons (λ b. b ≡ mark → ⊥) 99 (decimal client) (letter_is_no_mark mark m) (decimal_without mark client (mark_is_no_name_byte mark m) (omega arith))

-- a text without the mark is that of no request
pub no_mark : (mark separator : ℕ) (bytes : List ℕ) (request : Request) → IsAbsent mark bytes → bytes ≡ request_text mark separator request → ⊥
no_mark mark separator bytes request whole e =
    not_absent mark (actor_text (Client request.client)) (decimal request.number ++ separator ∷ op_text separator request.op) (subst (IsAbsent mark) e whole)

-- the cut at the mark is the one after the client
pub cut_client : (mark separator : ℕ) (bytes client rest : List ℕ) (request : Request) → IsMark mark → bytes ≡ client ++ mark ∷ rest → IsAbsent mark client
    → IsRequest request → bytes ≡ request_text mark separator request
    → (client ≡ actor_text (Client request.client)) × (rest ≡ decimal request.number ++ separator ∷ op_text separator request.op)
cut_client mark separator bytes client rest request m cut whole h e =
    one_cut mark client rest (actor_text (Client request.client)) (decimal request.number ++ separator ∷ op_text separator request.op) whole
    (client_without mark request.client m h.client_exists) (sym cut ∙ e)

pub no_separator : (mark separator : ℕ) (bytes client rest : List ℕ) (request : Request) → IsMark mark → bytes ≡ client ++ mark ∷ rest → IsAbsent mark client
    → IsAbsent separator rest → IsRequest request → bytes ≡ request_text mark separator request → ⊥
no_separator mark separator bytes client rest request m cut whole without h e =
    let parts = cut_client mark separator bytes client rest request m cut whole h e in
    not_absent separator (decimal request.number) (op_text separator request.op) (subst (IsAbsent separator) parts.1 without)

-- the parts that both cuts give, if they are read exactly
pub by_parts : (mark separator : ℕ) (bytes client rest number op : List ℕ) (r : Option Request) (request : Request) → IsMark mark → IsSeparator separator
    → bytes ≡ client ++ mark ∷ rest → IsAbsent mark client → rest ≡ number ++ separator ∷ op → IsAbsent separator number
    → (r ≡ Some request) ↔ (IsRequest request × (client ≡ actor_text (Client request.client)) × (number ≡ decimal request.number) × (op ≡ op_text separator request.op))
    → (r ≡ Some request) ↔ (IsRequest request × (bytes ≡ request_text mark separator request))
by_parts mark separator bytes client rest number op r request m s cut whole cut_rest whole_rest parts = (
  (λ e.
      let p = parts.0 e in
      let first : client ≡ actor_text (Client request.client) = p.1 in
      let second : number ≡ decimal request.number = p.2 in
      let third : op ≡ op_text separator request.op = p.3 in
      let after : rest ≡ decimal request.number ++ separator ∷ op_text separator request.op = cc in
      let all : bytes ≡ actor_text (Client request.client) ++ mark ∷ (decimal request.number ++ separator ∷ op_text separator request.op) = cc in
      (p.0, all)),
  (λ h.
      let p = cut_client mark separator bytes client rest request m cut whole h.0 h.1 in
      let small : request.number < 2 ^ 64 = omega (arith, h.0.small_number) in
      let q = one_cut separator number op (decimal request.number) (op_text separator request.op) whole_rest
      (decimal_without separator request.number (separator_is_no_name_byte separator s) small) (sym cut_rest ∙ p.1) in
      parts.1 (h.0, p.0, q.0, q.1)),
)

-- The last number of each client: these numbers show that a history is legal.
use Rattle.std.proofs.Common.{◌≡◌, ◌≢◌, ◌⊎◌, inl, inr, ℕ, ◌<◌, ◌≤◌, List, [], ◌∷◌, ◌++◌, length, set, replicate, zero, suc, refl, sym, ◌∙◌, ap, subst, arith}
use Rattle.std.proofs.lemmas.Bool.{cases_eq}
use Rattle.std.proofs.lemmas.List.{get_or-set_same, get_or-set_other, length-set}
use Rattle.dsr_base.specs.Member.{In, here, there}
use Rattle.dsr_request.specs.Request.{Request}
use Rattle.dsr_history.specs.History.{IsLegal}
use Rattle.dsr_check.specs.Support.Heads.{head_of}

-- the history is legal, and each client's last number is the greatest of its numbers, or 0 if it has none
pub record IsNoted (history : List Request) (last : List ℕ) : Type 0 where
  pub size : length last ≡ 32
  pub legal : IsLegal history
  pub above : (q : Request) → In q history → q.number ≤ head_of last q.client
  pub reached : (client : ℕ) → (head_of last client ≡ 0) ⊎ ((q : Request) × In q history × (q.client ≡ client) × (q.number ≡ head_of last client))

-- one request more, of a greater number
pub noted_more : (history : List Request) (last : List ℕ) (request : Request) (client number : ℕ) → client ≡ request.client → client < 32
    → number ≡ request.number → head_of last client < number → IsNoted history last → IsNoted (request ∷ history) (set last client number)
noted_more history last request client number own few is more noted = record {
  size = length-set last client number ∙ noted.size;
  legal = (λ q inside same. omega (arith, noted.above q inside, ap (head_of last) (same ∙ sym own), more, is), noted.legal);
  above = above;
  reached = λ c. reached c (cases_eq c client);
}
  where
    here_is : head_of (set last client number) client ≡ number
    here_is = get_or-set_same last client number 0 (omega (arith, noted.size, few))

    older : (q : Request) → (q.client ≡ client) ⊎ (q.client ≢ client) → q.number ≤ head_of last q.client → q.number ≤ head_of (set last client number) q.client
    older q (inl same) le = omega (arith, ap (head_of (set last client number)) same, here_is, ap (head_of last) same, more, le)
    older q (inr other) le = omega (arith, get_or-set_other last client q.client number 0 other, le)

    above : (q : Request) → In q (request ∷ history) → q.number ≤ head_of (set last client number) q.client
    above q (here e) =
        subst (λ (r : Request). r.number ≤ head_of (set last client number) r.client) e
        (omega (arith, ap (head_of (set last client number)) (sym own), here_is, is))
    above q (there inside) = older q (cases_eq q.client client) (noted.above q inside)

    reached : (c : ℕ) → (c ≡ client) ⊎ (c ≢ client)
        → (head_of (set last client number) c ≡ 0)
        ⊎ ((q : Request) × In q (request ∷ history) × (q.client ≡ c) × (q.number ≡ head_of (set last client number) c))
    reached c (inl same) = inr (request, here refl, sym own ∙ sym same, sym is ∙ sym here_is ∙ ap (head_of (set last client number)) (sym same))
    reached c (inr other) =
        let same : head_of (set last client number) c ≡ head_of last c = get_or-set_other last client c number 0 other in
        elim (noted.reached c) [
          | inl none ↦ inl (same ∙ none)
          | inr found ↦ inr (found.0, there found.1, found.2, found.3 ∙ sym same)
        ]

legal_older : (newer older : List Request) → IsLegal (newer ++ older) → IsLegal older
legal_older [] older h = h
legal_older (r ∷ newer) older h = legal_older newer older h.1

-- a request of no greater number than the last one of its client
pub not_legal : (history newer older : List Request) (last : List ℕ) (request : Request) (client number : ℕ) → history ≡ newer ++ request ∷ older
    → client ≡ request.client → number ≡ request.number → 0 < number → number ≤ head_of last client → IsNoted older last → ¬ IsLegal history
not_legal history newer older last request client number parts own is some le noted legal =
    elim (noted.reached client) [
      | inl none ↦ omega (arith, none, le, some)
      | inr found ↦
          let rises : found.0.number < request.number = (legal_older newer (request ∷ older) (subst IsLegal parts legal)).0 found.0 found.1 (found.2 ∙ own) in
          omega (arith, rises, found.3, le, is)
    ]

-- before the first request
pub noted_none : (last : List ℕ) → length last ≡ 32 → ((client : ℕ) → head_of last client ≡ 0) → IsNoted [] last
noted_none last size none = record { size = size; legal = tt; above = λ q inside. elim inside [ ]; reached = λ client. inl (none client) }

pub no_numbers : (n client : ℕ) → head_of (replicate n 0) client ≡ 0
no_numbers zero client = refl
no_numbers (suc n) zero = refl
no_numbers (suc n) (suc client) = no_numbers n client

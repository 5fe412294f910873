-- Two lists that part are not the same, and lists that agree as far as both go on are.
use Rattle.std.proofs.Common.{◌≡◌, ◌≢◌, ℕ, suc, ◌<◌, ◌≤◌, List, [], ◌∷◌, Some, length, ◌⊎◌, inl, inr, refl, ap, sym, ◌∙◌, subst, arith}
use Rattle.std.specs.Prelude.{slice_get}
use Rattle.std.proofs.lemmas.Bool.{cases_lt}
use Rattle.std.proofs.lemmas.Option.{none-some, same_Some, slice_get_cases, slice_get_past}
use Rattle.dsr_chain.specs.Chain.{Chain}
use Rattle.dsr_envelope.specs.declared.envelope.Envelope.{Envelope}
use Rattle.dsr_envelope.specs.declared.envelope.Envelope.TheVariants.{Empty, Round, Ask, Reply, Seen}
use Rattle.dsr_facts.specs.Difference.{ArePartedAt, IsDifference}
use Rattle.dsr_facts.specs.declared.difference.Difference.{Difference}
use Rattle.dsr_facts.specs.declared.difference.Difference.TheVariants.{OtherKind, OtherRound, Chains, OtherAsk, OtherReply, OtherFront}
use Rattle.dsr_facts.specs.declared.difference.Parting.{Parting}

-- lists with the same at each place are the same
pub same_places : (xs ys : List Chain) → ((i : ℕ) → slice_get xs i ≡ slice_get ys i) → xs ≡ ys
same_places [] [] each = refl
same_places [] (y ∷ ys) each = absurd (none-some y (each 0))
same_places (x ∷ xs) [] each = absurd (none-some x (sym (each 0)))
same_places (x ∷ xs) (y ∷ ys) each =
    let first = same_Some x y (each 0) in
    let rest = same_places xs ys (λ i. each (suc i)) in
    ap (λ z. z ∷ xs) first ∙ ap (λ zs. y ∷ zs) rest

-- no list parts from itself
pub parted_apart : (place : ℕ) (xs ys : List Chain) (how : Parting) → ArePartedAt place xs ys how → xs ≢ ys
parted_apart place xs ys how parted same =
    parted.part.apart (sym parted.part.ours_next ∙ (ap (λ l. slice_get l place) same ∙ parted.part.theirs_next))

not_from_itself : (x : Envelope) (d : Difference) → IsDifference x x d → ⊥
not_from_itself Empty d is = elim is [ ]
not_from_itself (Round r xs) OtherKind is = elim is [ ]
not_from_itself (Round r xs) OtherRound is = is refl
not_from_itself (Round r xs) (Chains place how) is = parted_apart place xs xs how is.1 refl
not_from_itself (Round r xs) OtherAsk is = elim is [ ]
not_from_itself (Round r xs) OtherReply is = elim is [ ]
not_from_itself (Round r xs) OtherFront is = elim is [ ]
not_from_itself (Ask a) OtherKind is = elim is [ ]
not_from_itself (Ask a) OtherRound is = elim is [ ]
not_from_itself (Ask a) (Chains place how) is = elim is [ ]
not_from_itself (Ask a) OtherAsk is = is refl
not_from_itself (Ask a) OtherReply is = elim is [ ]
not_from_itself (Ask a) OtherFront is = elim is [ ]
not_from_itself (Reply a) OtherKind is = elim is [ ]
not_from_itself (Reply a) OtherRound is = elim is [ ]
not_from_itself (Reply a) (Chains place how) is = elim is [ ]
not_from_itself (Reply a) OtherAsk is = elim is [ ]
not_from_itself (Reply a) OtherReply is = is refl
not_from_itself (Reply a) OtherFront is = elim is [ ]
not_from_itself (Seen a) OtherKind is = elim is [ ]
not_from_itself (Seen a) OtherRound is = elim is [ ]
not_from_itself (Seen a) (Chains place how) is = elim is [ ]
not_from_itself (Seen a) OtherAsk is = elim is [ ]
not_from_itself (Seen a) OtherReply is = elim is [ ]
not_from_itself (Seen a) OtherFront is = is refl

-- an envelope that differs is not the same
pub difference_apart : (wanted found : Envelope) (d : Difference) → IsDifference wanted found d → wanted ≢ found
difference_apart wanted found d is same = not_from_itself found d (subst (λ x. IsDifference x found d) same is)

-- if two lists agree up to a place, and are not the same, one of them goes on there
pub goes_on : (xs ys : List Chain) (n : ℕ) → xs ≢ ys → ((i : ℕ) → i < n → slice_get xs i ≡ slice_get ys i) → n ≤ length xs → n ≤ length ys
    → (n < length xs) ⊎ (n < length ys)
goes_on xs ys n apart before ours theirs = elim (cases_lt n (length xs)) [
  | inl more ↦ inl more
  | inr past ↦ elim (cases_lt n (length ys)) [
    | inl more ↦ inr more
    | inr end ↦ absurd (apart (same_places xs ys (λ i. elim (cases_lt i n) [
      | inl inside ↦ before i inside
      | inr outside ↦
          slice_get_past xs i (omega (arith, past, outside)) ∙ sym (slice_get_past ys i (omega (arith, end, outside)))
    ])))
  ]
]

-- if both go on, they part there if what is there differs; and if one has ended, they part too
pub go_apart : (xs ys : List Chain) (n : ℕ) → ((x y : Chain) → slice_get xs n ≡ Some x → slice_get ys n ≡ Some y → x ≢ y)
    → (n < length xs) ⊎ (n < length ys) → slice_get xs n ≢ slice_get ys n
go_apart xs ys n apart goes same = elim ((slice_get_cases xs n).1) [
  | inl one ↦ apart one.0 one.0 one.2 (sym same ∙ one.2) refl
  | inr none ↦ elim ((slice_get_cases ys n).1) [
    | inl one ↦ none-some one.0 (sym none.1 ∙ (same ∙ one.2))
    | inr neither ↦ elim goes [
      | inl inside ↦ omega (arith, none.0, inside)
      | inr inside ↦ omega (arith, neither.0, inside)
    ]
  ]
]

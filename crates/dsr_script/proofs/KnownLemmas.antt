-- What is known after signatures were noted.
use Rattle.std.proofs.Common.{◌≡◌, ◌↔◌, ◌++◌, Bool, true, false, List, [], ◌∷◌, Some, ◌⊎◌, inl, inr, refl, ap, sym, subst, ◌∙◌}
use Rattle.std.specs.Prelude.{◌||◌, flat_map, IsSome, IfSome, cond, if◌then◌else◌}
use Rattle.std.specs.List.{find, list_any}
use Rattle.dsr_base.specs.Member.{In, here, there}
use Rattle.dsr_base.proofs.MemberLemmas.{In-append_cases, In-append_left, In-append_right, In-one}
use Rattle.indexmap.specs.IndexSet.{insert_key}
use Rattle.dsr_desk.specs.Signature.{Signature}
use Rattle.dsr_chain.specs.Chain.{Chain}
use Rattle.dsr_chain.specs.Content.{signed_in}
use Rattle.dsr_envelope.specs.Envelope.{Carries, IsOn}
use Rattle.dsr_envelope.specs.declared.envelope.Envelope.{Envelope}
use Rattle.dsr_envelope.specs.declared.envelope.Envelope.TheVariants.{Empty, Round, Ask, Reply, Seen}
use Rattle.dsr_script.specs.Known.{StandFor}
use Rattle.dsr_script.specs.Support.Carried.{carried, on_chain}
use Rattle.dsr_script.specs.Support.Noted.{noted, noted_all, beside}
use Rattle.dsr_script.specs.Support.SignatureEquality.{signature_eq, signature_eq-Decides}

-- ---- a set of signatures

-- the signatures after one was put in
pub keys_noted : (xs : List Signature) (s : Signature) → insert_key signature_eq xs s ≡ noted xs s
keys_noted [] s = refl
keys_noted (x ∷ xs) s = by (signature_eq s x) (list_any (signature_eq s) xs) (keys_noted xs s)
  where
    by : (b c : Bool) → (if c then xs else xs ++ s ∷ []) ≡ noted xs s
        → (if b || c then x ∷ xs else x ∷ (xs ++ s ∷ [])) ≡ (if b then x ∷ xs else x ∷ noted xs s)
    by true c rest = refl
    by false true rest = ap (λ ys. x ∷ ys) rest
    by false false rest = ap (λ ys. x ∷ ys) rest

-- the signature that is found is the one that is looked up
pub found_says : (xs : List Signature) (s : Signature) → IfSome (find (signature_eq s) xs) (λ x. x ≡ s)
found_says [] s = tt
found_says (x ∷ xs) s = by (signature_eq s x) refl (found_says xs s)
  where
    by : (b : Bool) → signature_eq s x ≡ b → IfSome (find (signature_eq s) xs) (λ y. y ≡ s) → IfSome (cond b (Some x) (find (signature_eq s) xs)) (λ y. y ≡ s)
    by true same rest = sym ((signature_eq-Decides s x).0 same)
    by false other rest = rest

-- and one is found exactly if it is there
pub found_in : (xs : List Signature) (s : Signature) → IsSome (find (signature_eq s) xs) ↔ In s xs
found_in [] s = (λ h. absurd cc, λ h. elim h [ ])
found_in (x ∷ xs) s = by (signature_eq s x) refl (found_in xs s)
  where
    by : (b : Bool) → signature_eq s x ≡ b → (IsSome (find (signature_eq s) xs) ↔ In s xs)
        → IsSome (cond b (Some x) (find (signature_eq s) xs)) ↔ In s (x ∷ xs)
    by true same rest = (λ h. here (sym ((signature_eq-Decides s x).0 same)), λ h. refl)
    by false other rest = (
      λ h. there (rest.0 h),
      λ h. elim h [
        | here is ↦ absurd (let yes : signature_eq s x ≡ true = (signature_eq-Decides s x).1 (sym is) in cc)
        | there later ↦ rest.1 later
      ],
    )

-- ---- what is known then

-- after one signature was noted
pub In-noted : (xs : List Signature) (y s : Signature) → In s (noted xs y) ↔ (In s xs ⊎ (y ≡ s))
In-noted [] y s = (λ h. inr (In-one s y h), λ h. elim h [ inl old ↦ elim old [ ] | inr is ↦ here is ])
In-noted (x ∷ xs) y s = by (signature_eq y x) refl (In-noted xs y s)
  where
    by : (b : Bool) → signature_eq y x ≡ b → (In s (noted xs y) ↔ (In s xs ⊎ (y ≡ s))) → In s (if b then x ∷ xs else x ∷ noted xs y) ↔ (In s (x ∷ xs) ⊎ (y ≡ s))
    by true same rest = (λ h. inl h, λ h. elim h [ inl old ↦ old | inr is ↦ here (sym ((signature_eq-Decides y x).0 same) ∙ is) ])
    by false other rest = (
      λ h. elim h [
        | here is ↦ inl (here is)
        | there later ↦ elim (rest.0 later) [ inl old ↦ inl (there old) | inr is ↦ inr is ]
      ],
      λ h. elim h [
        | inl old ↦ elim old [ here is ↦ here is | there later ↦ there (rest.1 (inl later)) ]
        | inr is ↦ there (rest.1 (inr is))
      ],
    )

-- after all of a list were noted
pub In-noted_all : (xs ys : List Signature) (s : Signature) → In s (noted_all xs ys) ↔ (In s xs ⊎ In s ys)
In-noted_all xs [] s = (λ h. inl h, λ h. elim h [ inl old ↦ old | inr none ↦ elim none [ ] ])
In-noted_all xs (y ∷ ys) s =
    let rest = In-noted_all (noted xs y) ys s in
    let one = In-noted xs y s in (
      λ h. elim (rest.0 h) [
        | inl old ↦ elim (one.0 old) [ inl before ↦ inl before | inr is ↦ inr (here is) ]
        | inr later ↦ inr (there later)
      ],
      λ h. elim h [
        | inl old ↦ rest.1 (inl (one.1 (inl old)))
        | inr new ↦ elim new [ here is ↦ rest.1 (inl (one.1 (inr is))) | there later ↦ rest.1 (inr later) ]
      ],
    )

-- ---- what an envelope carries

pub on_chain_is : (chain : Chain) (s : Signature) → In s (on_chain chain) ↔ IsOn s chain
on_chain_is chain s = (
  λ h. In-append_cases s chain.signatures (beside (signed_in chain.value)) h,
  λ h. elim h [
    | inl link ↦ In-append_left s chain.signatures (beside (signed_in chain.value)) link
    | inr ask ↦ In-append_right s chain.signatures (beside (signed_in chain.value)) ask
  ],
)

-- on one of the chains
abbrev OnOne : List Chain → Signature → Type 0
OnOne chains s = (chain : Chain) × In chain chains × IsOn s chain

on_chains : (chains : List Chain) (s : Signature) → In s (flat_map on_chain chains) ↔ OnOne chains s
on_chains [] s = (λ h. elim h [ ], λ h. elim h.1 [ ])
on_chains (c ∷ cs) s = (
  λ h. elim (In-append_cases s (on_chain c) (flat_map on_chain cs) h) [
    | inl first ↦ (c, here refl, (on_chain_is c s).0 first)
    | inr later ↦ let found = (on_chains cs s).0 later in (found.0, there found.1, found.2)
  ],
  λ h. elim h.1 [
    | here is ↦ In-append_left s (on_chain c) (flat_map on_chain cs) ((on_chain_is c s).1 (subst (IsOn s) (sym is) h.2))
    | there later ↦ In-append_right s (on_chain c) (flat_map on_chain cs) ((on_chains cs s).1 (h.0, later, h.2))
  ],
)

-- the list has exactly the signatures that the envelope carries
pub carried_is : (envelope : Envelope) (s : Signature) → In s (carried envelope) ↔ Carries envelope s
carried_is Empty s = (λ h. elim h [ ], λ h. absurd h)
carried_is (Round round chains) s = on_chains chains s
carried_is (Ask ask) s = (λ h. In-one s ask.signature h, λ h. here h)
carried_is (Reply reply) s = (λ h. elim h [ ], λ h. absurd h)
carried_is (Seen front) s = (λ h. elim h [ ], λ h. absurd h)

-- ---- after an envelope was learned

pub learned_is : (known : List Signature) (envelope : Envelope) (s : Signature)
    → In s (noted_all known (carried envelope)) ↔ (In s known ⊎ Carries envelope s)
learned_is known envelope s =
    let all = In-noted_all known (carried envelope) s in
    let is = carried_is envelope s in (
      λ h. elim (all.0 h) [ inl old ↦ inl old | inr new ↦ inr (is.0 new) ],
      λ h. elim h [
        | inl old ↦ all.1 (inl old)
        | inr new ↦ all.1 (inr (is.1 new))
      ],
    )

pub stands_learned : (known : List Signature) (envelope : Envelope) (envelopes : List Envelope) → StandFor known envelopes
    → StandFor (noted_all known (carried envelope)) (envelope ∷ envelopes)
stands_learned known envelope envelopes stands s =
    let is = learned_is known envelope s in (
      λ h. elim (is.0 h) [
        | inl old ↦ let was = (stands s).0 old in (was.0, there was.1, was.2)
        | inr new ↦ (envelope, here refl, new)
      ],
      λ h. elim h.1 [
        | here same ↦ is.1 (inr (subst (λ e. Carries e s) (sym same) h.2))
        | there later ↦ is.1 (inl ((stands s).1 (h.0, later, h.2)))
      ],
    )

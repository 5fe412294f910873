-- When no signature of an envelope is forged, by the cases of the envelope.
use Rattle.std.proofs.Common.{◌≡◌, ◌↔◌, ℕ, ◌+◌, ◌<◌, ◌≤◌, List, [], ◌∷◌, length, take, get_or, inl, inr, refl, sym, subst, arith}
use Rattle.std.specs.Prelude.{All}
use Rattle.std.proofs.lemmas.List.Elements.{All-nil, All-head, All-tail, All-cons, All-append}
use Rattle.std.proofs.lemmas.List.{take_more, take_all}
use Rattle.dsr_base.specs.Member.{In, here, there}
use Rattle.dsr_base.proofs.MemberLemmas.{In-all}
use Rattle.dsr_names.specs.declared.actor.Actor.{Actor}
use Rattle.dsr_desk.specs.Signature.{Signature}
use Rattle.dsr_chain.specs.Chain.{Chain}
use Rattle.dsr_chain.specs.Content.{signed_in}
use Rattle.dsr_chain.specs.declared.signed_request.SignedRequest.{SignedRequest}
use Rattle.dsr_envelope.specs.Envelope.{IsOn}
use Rattle.dsr_envelope.specs.declared.envelope.Envelope.{Envelope}
use Rattle.dsr_envelope.specs.declared.envelope.Envelope.TheVariants.{Empty, Round, Ask, Reply, Seen}
use Rattle.dsr_script.specs.Held.{IsHeldOrKnown, IsUnforged}
use Rattle.dsr_script.specs.Support.Carried.{IsHeldRequest, IsHeldChain, IsHeldEnvelope}
use Rattle.dsr_script.specs.Support.Noted.{beside}

-- what holds of each item holds of all
all_from : {A : Type 0} (P : A → Type 0) (xs : List A) → ((x : A) → In x xs → P x) → All P xs
all_from P [] each = All-nil P
all_from P (x ∷ xs) each = All-cons P x xs (each x (here refl)) (all_from P xs (λ y h. each y (there h)))

module _ (holders : List Actor) (known : List Signature) where
  beside_held : (asks : List SignedRequest) (s : Signature) → All (IsHeldRequest holders known) asks → In s (beside asks) → IsHeldOrKnown holders known s
  beside_held [] s all h = elim h [ ]
  beside_held (ask ∷ asks) s all (here is) = subst (IsHeldOrKnown holders known) is (All-head (IsHeldRequest holders known) ask asks all)
  beside_held (ask ∷ asks) s all (there h) = beside_held asks s (All-tail (IsHeldRequest holders known) ask asks all) h

  in_beside : (asks : List SignedRequest) (ask : SignedRequest) → In ask asks → In ask.signature (beside asks)
  in_beside [] ask h = elim h [ ]
  in_beside (first ∷ asks) ask (here is) = here (λ i. (is i).signature)
  in_beside (first ∷ asks) ask (there h) = there (in_beside asks ask h)

  on_held : (chain : Chain) (s : Signature) → IsHeldChain holders known chain → IsOn s chain → IsHeldOrKnown holders known s
  on_held chain s held on = elim on [
    | inl link ↦ In-all (IsHeldOrKnown holders known) s chain.signatures held.links link
    | inr ask ↦ beside_held (signed_in chain.value) s held.asks ask
  ]

  held_chain : (chain : Chain) → ((s : Signature) → IsOn s chain → IsHeldOrKnown holders known s) → IsHeldChain holders known chain
  held_chain chain each =
      record {
        links = all_from (IsHeldOrKnown holders known) chain.signatures (λ s h. each s (inl h));
        asks = all_from (IsHeldRequest holders known) (signed_in chain.value) (λ ask h. each ask.signature (inr (in_beside (signed_in chain.value) ask h)));
      }

  -- the cases say the same
  pub held_is : (envelope : Envelope) → IsHeldEnvelope holders known envelope ↔ IsUnforged holders known envelope
  held_is Empty = (λ h s carried. absurd carried, λ h. tt)
  held_is (Round round chains) = (
    λ h s carried. on_held carried.0 s (In-all (IsHeldChain holders known) carried.0 chains h carried.1) carried.2,
    λ h. all_from (IsHeldChain holders known) chains (λ chain is. held_chain chain (λ s on. h s (chain, is, on))),
  )
  held_is (Ask ask) = (λ h s carried. subst (IsHeldOrKnown holders known) carried h, λ h. h ask.signature refl)
  held_is (Reply reply) = (λ h s carried. absurd carried, λ h. tt)
  held_is (Seen front) = (λ h s carried. absurd carried, λ h. tt)

module _ {A : Type 0} (P : A → Type 0) (xs : List A) (i : ℕ) where
  -- it holds of one more
  pub all_more : (x : A) → i < length xs → x ≡ get_or xs i x → All P (take i xs) → P x → All P (take (i + 1) xs)
  all_more x inside is all one =
      subst (All P) (sym (take_more xs i x inside))
      (All-append P (take i xs) (get_or xs i x ∷ []) all (All-cons P (get_or xs i x) [] (subst P is one) (All-nil P)))

  -- it holds of all
  pub all_whole : length xs ≤ i → All P (take i xs) → All P xs
  all_whole past all = subst (All P) (take_all i xs (omega (arith, past))) all

-- Signatures that a chain stores in turn: their count and signers, that they fit, and what one more
-- adds.
use Rattle.std.proofs.Common.{◌≡◌, ◌↔◌, ◌≤◌, ℕ, Bool, List, Vec, Global, [], ◌∷◌, ◌++◌, length, take, inl, inr, ap, sym, ◌∙◌, subst}
use Rattle.std.specs.Prelude.{Any, IsTrue}
use Rattle.std.proofs.lemmas.List.{length-map}
use Rattle.dsr_names.specs.declared.actor.Actor.{Actor}
use Rattle.dsr_desk.specs.Signature.{Signature, signed}
use Rattle.dsr_desk.specs.declared.statement.Statement.TheVariants.{Link}
use Rattle.dsr_desk.specs.Links.{Links, signatures_of, signed_after, extended}
use Rattle.dsr_desk.proofs.LinksLemmas.{signers_signed, signed_push, stands_on}
use Rattle.dsr_chain.specs.Chain.{Chain, chain_of, signers_of, link_after, extended as extended_chain}
use Rattle.dsr_chain.specs.Content.{content}
use Rattle.dsr_chain.specs.Faults.{HasMisfit}
use Rattle.dsr_chain.specs.Support.Signatures.{signatures_in, AreKept}
use Rattle.dsr_chain.specs.declared.signatures.Signatures.{Signatures}
use Rattle.dsr_chain.specs.declared.signatures.Signatures.TheVariants.{InTurn, Given}
use Rattle.dsr_chain.specs.declared.slot_value.SlotValue.{SlotValue}
use Rattle.dsr_chain.proofs.ChainLaws.{signed_from_signers}
use Rattle.dsr_chain.proofs.ProperDecides.{at_head, in_rest, head_or_rest, none_in_nil}

-- their signers are those of the links
pub signers_in_turn : (links : Links) → signers_of (signatures_of links) ≡ links.signers
signers_in_turn links = signers_signed links.slot links.content [] links.signers

-- there are as many
pub count_in_turn : (links : Links) → length (signatures_of links) ≡ length links.signers
count_in_turn links = sym (length-map (signatures_of links) (λ s. s.signer)) ∙ ap length (signers_in_turn links)

-- none is on a statement that does not fit its place
pub fits_in_turn : (slot : ℕ) (value : SlotValue) (links : Links) → links.slot ≡ slot → links.content ≡ content value
    → HasMisfit (chain_of slot value (signatures_of links)) → ⊥
fits_in_turn slot value links of_slot of_content misfit =
    misfit.misfits
    (stands_on links.slot links.content [] links.signers misfit.place misfit.signature misfit.stands
    ∙ (ap (λ k. Link k links.content (signers_of (take misfit.place (signatures_of links)))) of_slot
    ∙ ap (λ c. Link slot c (signers_of (take misfit.place (signatures_of links)))) of_content))

-- one more is on the link after them
pub extended_in_turn : (slot : ℕ) (value : SlotValue) (links : Links) (a : Actor) → links.slot ≡ slot → links.content ≡ content value
    → signatures_of (extended links a) ≡ signatures_of links ++ signed a (link_after slot value (signers_of (signatures_of links))) ∷ []
extended_in_turn slot value links a of_slot of_content =
    let same : Link links.slot links.content links.signers ≡ link_after slot value (signers_of (signatures_of links)) =
    ap (λ k. Link k links.content links.signers) of_slot
    ∙ (ap (λ c. Link slot c links.signers) of_content ∙ ap (Link slot (content value)) (sym (signers_in_turn links))) in
    signed_push links.slot links.content [] links.signers a ∙ ap (λ statement. signatures_of links ++ signed a statement ∷ []) same

-- those of two links with one slot and content are the same if the signers are
pub same_in_turn : (ours theirs : Links) (test : Bool) → ours.slot ≡ theirs.slot → ours.content ≡ theirs.content
    → (IsTrue test ↔ (ours.signers ≡ theirs.signers)) → IsTrue test ↔ (signatures_of ours ≡ signatures_of theirs)
same_in_turn ours theirs test one_slot one_content tests = (
  λ t.
      ap (λ k. signed_after k ours.content [] ours.signers) one_slot
      ∙ (ap (λ c. signed_after theirs.slot c [] ours.signers) one_content ∙ ap (signed_after theirs.slot theirs.content []) (tests.0 t)),
  λ e. tests.1 (sym (signers_in_turn ours) ∙ (ap signers_of e ∙ signers_in_turn theirs)),
)

signers_from_signed : (a : Actor) (signatures : List Signature) → Any (λ s. s.signer ≡ a) signatures → Any (λ b. b ≡ a) (signers_of signatures)
signers_from_signed a [] h = absurd (none_in_nil (λ s. s.signer ≡ a) h)
signers_from_signed a (s ∷ rest) h = elim (head_or_rest (λ t. t.signer ≡ a) s rest h) [
  | inl first ↦ at_head (λ b. b ≡ a) s.signer (signers_of rest) first
  | inr later ↦ in_rest (λ b. b ≡ a) s.signer (signers_of rest) (signers_from_signed a rest later)
]

-- one is an actor's if the actor is among the signers
pub signed_by_signers : (a : Actor) (signatures : List Signature) (test : Bool)
    → (IsTrue test ↔ Any (λ b. b ≡ a) (signers_of signatures)) → IsTrue test ↔ Any (λ s. s.signer ≡ a) signatures
signed_by_signers a signatures test tests = (
  λ t. signed_from_signers a signatures (tests.0 t),
  λ h. tests.1 (signers_from_signed a signatures h),
)

-- ---- a chain whose signatures are stored in turn, and one whose signatures are stored as they were
-- given

pub record InTurnOf (chain : Chain) (links : Links) : Type 0 where
  pub of_slot : links.slot ≡ chain.slot
  pub of_content : links.content ≡ content chain.value
  pub few : length links.signers ≤ 16
  pub are : signatures_of links ≡ chain.signatures

pub record GivenOf (chain : Chain) (signatures : List Signature) : Type 0 where
  pub misfit : HasMisfit chain
  pub few : length signatures ≤ 16
  pub are : signatures ≡ chain.signatures

pub kept_in_turn : (chain : Chain) (slot : ℕ) (value : SlotValue) (kept : Signatures) (links : Links) → chain_of slot value (signatures_in kept) ≡ chain
    → AreKept slot value kept → kept ≡ InTurn links → InTurnOf chain links
kept_in_turn chain slot value kept links view h is =
    let fields : AreKept slot value (InTurn links) = subst (AreKept slot value) is h in
    record {
      of_slot = fields.0 ∙ ap (λ x. x.slot) view;
      of_content = fields.1 ∙ ap (λ x. content x.value) view;
      few = fields.2;
      are = ap signatures_in (sym is) ∙ ap (λ x. x.signatures) view;
    }

pub kept_given : (chain : Chain) (slot : ℕ) (value : SlotValue) (kept : Signatures) (list : Vec Signature Global) → chain_of slot value (signatures_in kept) ≡ chain
    → AreKept slot value kept → kept ≡ Given list → GivenOf chain list.items
kept_given chain slot value kept list view h is =
    let fields : AreKept slot value (Given list) = subst (AreKept slot value) is h in
    let whole : chain_of slot value list.items ≡ chain = ap (λ k. chain_of slot value (signatures_in k)) (sym is) ∙ view in
    record { misfit = subst HasMisfit whole fields.1; few = fields.0; are = ap (λ x. x.signatures) whole }

pub never_misfits : (chain : Chain) (links : Links) → InTurnOf chain links → HasMisfit chain → ⊥
never_misfits chain links h misfit =
    fits_in_turn chain.slot chain.value links h.of_slot h.of_content
    (subst (λ xs. HasMisfit (chain_of chain.slot chain.value xs)) (sym h.are) misfit)

-- a chain whose links in turn are extended by one actor is the extended chain
pub made_extended : (chain made : Chain) (links : Links) (a : Actor) (slot : ℕ) (value : SlotValue) → InTurnOf chain links → slot ≡ chain.slot
    → value ≡ chain.value → made ≡ chain_of slot value (signatures_of (extended links a)) → made ≡ extended_chain chain a
made_extended chain made links a slot value h slot_is value_is is =
    is
    ∙ (ap (λ k. chain_of k value (signatures_of (extended links a))) slot_is
    ∙ (ap (λ v. chain_of chain.slot v (signatures_of (extended links a))) value_is
    ∙ (ap (chain_of chain.slot chain.value) (extended_in_turn chain.slot chain.value links a h.of_slot h.of_content)
    ∙ ap (λ xs. chain_of chain.slot chain.value (xs ++ signed a (link_after chain.slot chain.value (signers_of xs)) ∷ [])) h.are)))

-- if one of two chains with one slot and value has a misfit and the other has none, their signatures
-- differ
pub one_misfits : (chain other : Chain) (links : Links) → InTurnOf chain links → HasMisfit other → chain.slot ≡ other.slot → chain.value ≡ other.value
    → chain.signatures ≡ other.signatures → ⊥
one_misfits chain other links h misfit slot value signatures =
    let same : chain ≡ other =
    ap (λ k. chain_of k chain.value chain.signatures) slot
    ∙ (ap (λ v. chain_of other.slot v chain.signatures) value ∙ ap (chain_of other.slot other.value) signatures) in
    never_misfits chain links h (subst HasMisfit (sym same) misfit)

pub both_in_turn : (chain other : Chain) (ours theirs : Links) (test : Bool) → InTurnOf chain ours → InTurnOf other theirs → chain.slot ≡ other.slot
    → chain.value ≡ other.value → (IsTrue test ↔ (ours.signers ≡ theirs.signers)) → IsTrue test ↔ (chain.signatures ≡ other.signatures)
both_in_turn chain other ours theirs test h k slot value tests =
    let same = same_in_turn ours theirs test (h.of_slot ∙ (slot ∙ sym k.of_slot)) (h.of_content ∙ (ap content value ∙ sym k.of_content)) tests in (
      λ t. sym h.are ∙ (same.0 t ∙ k.are),
      λ e. same.1 (h.are ∙ (e ∙ sym k.are)),
    )

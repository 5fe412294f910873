-- What a chain keeps, and the chain.
use Rattle.std.proofs.Common.{◌≡◌, ℕ, ◌≤◌, ◌↔◌, List, [], Option, None, Some, length, sym, ◌∙◌, ap, ap₂, arith}
use Rattle.std.proofs.lemmas.Option.{none-some, same_Some}
use Rattle.dsr_chain.specs.Chain.{Chain, chain_of}
use Rattle.dsr_chain.specs.Content.{content}
use Rattle.dsr_chain.specs.Support.SignedLists.{value_of, content_of}
use Rattle.dsr_chain.specs.declared.signed_request.SignedRequest.{SignedRequest}
use Rattle.dsr_chain.specs.declared.slot_value.SlotValue.{SlotValue}
use Rattle.dsr_script.specs.SignatureText.{Spelled}
use Rattle.dsr_script.specs.ChainText.{spelled_links}
use Rattle.dsr_script.specs.Support.ChainParts.{chain_parts}
use Rattle.dsr_script.specs.Support.Links.{AreKept, said_by}
use Rattle.dsr_script.proofs.BriefLemmas.{links_back}
use Rattle.dsr_script.proofs.ChainTextLemmas.{links_length}

-- a chain has these parts
pub record HasParts (slot : ℕ) (asks : List SignedRequest) (links : List Spelled) (x : Chain) : Type 0 where
  pub slot_is : slot ≡ x.slot
  pub value_is : value_of asks ≡ x.value
  pub links_are : links ≡ spelled_links x.slot (content x.value) [] x.signatures

module _ (slot : ℕ) (asks : List SignedRequest) (links : List Spelled) (x : Chain) (h : HasParts slot asks links x) where
  links_here : links ≡ spelled_links slot (content_of asks) [] x.signatures
  links_here =
      h.links_are ∙ ap₂ (λ n v. spelled_links n v [] x.signatures) (sym h.slot_is) (ap content (sym h.value_is))

  said_here : said_by slot (content_of asks) [] links ≡ x.signatures
  said_here = ap (said_by slot (content_of asks) []) links_here ∙ links_back slot (content_of asks) [] x.signatures

  pub short_here : links ≡ spelled_links slot (content_of asks) [] (said_by slot (content_of asks) [] links)
  short_here = links_here ∙ ap (spelled_links slot (content_of asks) []) (sym said_here)

  pub same_chain : chain_of slot (value_of asks) (said_by slot (content_of asks) [] links) ≡ x
  same_chain =
      ap (λ n. chain_of n (value_of asks) (said_by slot (content_of asks) [] links)) h.slot_is
      ∙ (ap (λ v. chain_of x.slot v (said_by slot (content_of asks) [] links)) h.value_is ∙ ap (chain_of x.slot x.value) said_here)

  pub kept_here : length asks ≤ 8 → length x.signatures ≤ 16 → AreKept slot asks links
  kept_here few_requests few =
      record {
        few_requests = few_requests;
        few_links = omega (arith, few, ap length links_here, links_length slot (content_of asks) [] x.signatures);
        short = short_here;
      }

-- ---- a chain of parts that were read

parts_of : (slot : ℕ) (asks : List SignedRequest) (links : List Spelled) (x : Chain)
    → ◌≡◌ {A = ℕ × (SlotValue × List Spelled)} (slot, (value_of asks, links)) (chain_parts x) → HasParts slot asks links x
parts_of slot asks links x e =
    record { slot_is = ap (λ p. p.0) e; value_is = ap (λ p. p.1.0) e; links_are = ap (λ p. p.1.1) e }

pub chain_made : (slot : ℕ) (asks : List SignedRequest) (links : List Spelled)
    → links ≡ spelled_links slot (content_of asks) [] (said_by slot (content_of asks) [] links) → (r : Chain)
    → r ≡ chain_of slot (value_of asks) (said_by slot (content_of asks) [] links) → (x : Chain)
    → (Some r ≡ Some x) ↔ (◌≡◌ {A = Option (ℕ × (SlotValue × List Spelled))} (Some (slot, (value_of asks, links))) (Some (chain_parts x)))
chain_made slot asks links short r made x = (
  λ e.
      let same : chain_of slot (value_of asks) (said_by slot (content_of asks) [] links) ≡ x = sym made ∙ same_Some r x e in
      let pair : ◌≡◌ {A = ℕ × (SlotValue × List Spelled)} (slot, (value_of asks, links))
      (slot, (value_of asks, spelled_links slot (content_of asks) [] (said_by slot (content_of asks) [] links))) =
      ap (λ ls. (slot, (value_of asks, ls))) short in
      ap Some (pair ∙ ap chain_parts same),
  λ e.
      let h = parts_of slot asks links x (same_Some (slot, (value_of asks, links)) (chain_parts x) e) in
      ap Some (made ∙ same_chain slot asks links x h),
)

pub chain_unmade : (slot : ℕ) (asks : List SignedRequest) (links : List Spelled)
    → (links ≡ spelled_links slot (content_of asks) [] (said_by slot (content_of asks) [] links) → ⊥) → (x : Chain)
    → (◌≡◌ {A = Option Chain} None (Some x)) ↔ (◌≡◌ {A = Option (ℕ × (SlotValue × List Spelled))} (Some (slot, (value_of asks, links))) (Some (chain_parts x)))
chain_unmade slot asks links long x = (
  λ e. absurd (none-some x e),
  λ e. absurd (long (short_here slot asks links x (parts_of slot asks links x (same_Some (slot, (value_of asks, links)) (chain_parts x) e)))),
)

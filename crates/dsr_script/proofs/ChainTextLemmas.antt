-- Chains, read from their three parts.
use Rattle.std.proofs.Common.{All, ◌≡◌, ℕ, suc, ◌+◌, ◌<◌, ◌≤◌, ◌^◌, ◌↔◌, List, [], ◌∷◌, ◌++◌, Option, None, Some, false, refl, ap, arith, lit<, length, length-append}
use Rattle.std.specs.Prelude.{map}
use Rattle.std.specs.Fmt.{decimal}
use Rattle.std.proofs.lemmas.List.Elements.{All-nil, All-cons, All-head, All-tail, All-append}
use Rattle.std.proofs.lemmas.Option.{none-some}
use Rattle.dsr_base.specs.Joined.{joined_or_dash, AreUpTo}
use Rattle.dsr_base.specs.Reads.{Reads}
use Rattle.dsr_base.specs.Split.{IsAbsent, IsFree, IsPart}
use Rattle.dsr_base.proofs.Marks.{decimal_without_low}
use Rattle.dsr_base.proofs.TwoParts.{at_byte, outside, both_text, AreBoth, no_parts, no_rest}
use Rattle.dsr_names.specs.Actor.{IsNumbered}
use Rattle.dsr_names.specs.declared.actor.Actor.{Actor}
use Rattle.dsr_request.specs.Request.{Request}
use Rattle.dsr_request.specs.RequestText.{IsRequest}
use Rattle.dsr_desk.specs.ContentText.{IsContent}
use Rattle.dsr_desk.specs.Signature.{Signature}
use Rattle.dsr_desk.specs.declared.statement.Statement.TheVariants.{Link}
use Rattle.dsr_chain.specs.Chain.{Chain}
use Rattle.dsr_chain.specs.Content.{content}
use Rattle.dsr_chain.specs.declared.signed_request.SignedRequest.{SignedRequest}
use Rattle.dsr_chain.specs.declared.slot_value.SlotValue.{SlotValue}
use Rattle.dsr_chain.specs.declared.slot_value.SlotValue.TheVariants.{Idle, Act}
use Rattle.dsr_envelope.specs.Limits.{IsCount, IsSignature, IsSigned}
use Rattle.dsr_script.specs.SignatureText.{Spelled, spelled_at, spelled_text}
use Rattle.dsr_script.specs.ChainText.{value_text, chain_text, spelled_links, IsValue, IsSpelledChain}
use Rattle.dsr_script.specs.Support.SpelledText.{IsSpelled, pair_of}
use Rattle.dsr_script.specs.Support.ChainParts.{chain_parts, value_part}
use Rattle.dsr_script.proofs.PairLemmas.{reads_pair, reads_through}
use Rattle.dsr_script.proofs.SpelledLemmas.{said_kinds}

-- ---- what texts say about a chain's signatures can be said if they are within the limits

requests_each : (asks : List SignedRequest) → All IsSigned asks → All IsRequest (map (λ s. s.request) asks)
requests_each [] h = All-nil IsRequest
requests_each (x ∷ xs) h =
    All-cons IsRequest x.request (map (λ s. s.request) xs) (All-head IsSigned x xs h).request (requests_each xs (All-tail IsSigned x xs h))

same_length : (asks : List SignedRequest) → length (map (λ s. s.request) asks) ≡ length asks
same_length [] = refl
same_length (x ∷ xs) = ap suc (same_length xs)

pub content_fits : (value : SlotValue) → IsValue value → IsContent (content value)
content_fits Idle h = tt
content_fits (Act batch) h =
    record { some = rw (same_length batch) h.some; few = rw (same_length batch) h.few; each = requests_each batch h.each }

pub links_length : (slot : ℕ) (value : Option (List Request)) (before : List Actor) (ss : List Signature) → length (spelled_links slot value before ss) ≡ length ss
links_length slot value before [] = refl
links_length slot value before (s ∷ ss) = ap suc (links_length slot value (before ++ s.signer ∷ []) ss)

module _ (slot : ℕ) (value : Option (List Request)) (small : slot < 2 ^ 40) (fits : IsContent value) where
  one_more : (before : List Actor) (s : Signature) (n : ℕ) → length before + suc n ≤ 16 → length (before ++ s.signer ∷ []) + n ≤ 16
  one_more before s n few = simp length-append (omega (arith, few))

  numbered : (before : List Actor) (s : Signature) → All IsNumbered before → IsNumbered s.signer → All IsNumbered (before ++ s.signer ∷ [])
  numbered before s each one = All-append IsNumbered before (s.signer ∷ []) each (All-cons IsNumbered s.signer [] one (All-nil IsNumbered))

  kinds_here : (before : List Actor) (s : Signature) (n : ℕ) → length before + suc n ≤ 16 → All IsNumbered before
      → IsSignature s ↔ IsSpelled (spelled_at (Link slot value before) s)
  kinds_here before s n few each = said_kinds (Link slot value before) (small, fits, record { few = omega (arith, few); each = each }) s

  links_said : (before : List Actor) (ss : List Signature) → length before + length ss ≤ 16 → All IsNumbered before → All IsSignature ss
      → All IsSpelled (spelled_links slot value before ss)
  links_said before [] few each h = All-nil IsSpelled
  links_said before (s ∷ ss) few each h =
      let one = All-head IsSignature s ss h in
      All-cons IsSpelled (spelled_at (Link slot value before) s) (spelled_links slot value (before ++ s.signer ∷ []) ss)
      ((kinds_here before s (length ss) few each).0 one)
      (links_said (before ++ s.signer ∷ []) ss (one_more before s (length ss) few) (numbered before s each one.signer) (All-tail IsSignature s ss h))

  links_back : (before : List Actor) (ss : List Signature) → length before + length ss ≤ 16 → All IsNumbered before
      → All IsSpelled (spelled_links slot value before ss) → All IsSignature ss
  links_back before [] few each h = All-nil IsSignature
  links_back before (s ∷ ss) few each h =
      let one = All-head IsSpelled (spelled_at (Link slot value before) s) (spelled_links slot value (before ++ s.signer ∷ []) ss) h in
      let more = All-tail IsSpelled (spelled_at (Link slot value before) s) (spelled_links slot value (before ++ s.signer ∷ []) ss) h in
      All-cons IsSignature s ss ((kinds_here before s (length ss) few each).1 one)
      (links_back (before ++ s.signer ∷ []) ss (one_more before s (length ss) few) (numbered before s each one.signer) more)

  pub links_kinds : (ss : List Signature) → AreUpTo IsSignature 16 ss ↔ AreUpTo IsSpelled 16 (spelled_links slot value [] ss)
  links_kinds ss = (
    λ h.
        let within : length {A = Actor} [] + length ss ≤ 16 = omega (arith, h.few) in
        record { few = rw (links_length slot value [] ss) h.few; each = links_said [] ss within (All-nil IsNumbered) h.each },
    λ h.
        let few : length ss ≤ 16 = omega (arith, h.few, links_length slot value [] ss) in
        let within : length {A = Actor} [] + length ss ≤ 16 = omega (arith, few) in
        record { few = few; each = links_back [] ss within (All-nil IsNumbered) h.each },
  )

-- ---- the parts of a chain

pub no_slash_in_slot : (slot : ℕ) → IsCount slot → IsAbsent 47 (decimal slot)
no_slash_in_slot slot small = decimal_without_low 47 slot (lit< tt) (omega (arith, small))

pub value_apart : (value : SlotValue) → IsValue value → IsPart 47 (value_text value)
value_apart value h = value_part 47 (lit< tt) (λ (e : ◌≡◌ {A = ℕ} 40 47). omega arith) (λ (e : ◌≡◌ {A = ℕ} 35 47). omega arith) (λ (e : ◌≡◌ {A = ℕ} 44 47). omega arith) refl value h

abbrev pub AreLinks : List Spelled → Type 0
AreLinks = AreUpTo IsSpelled 16

abbrev pub links_joined : List Spelled → List ℕ
links_joined = joined_or_dash 43 spelled_text

abbrev pub IsEnd : SlotValue × List Spelled → Type 0
IsEnd = AreBoth IsValue value_text AreLinks links_joined 47 (outside 47) value_apart

abbrev pub end_text : SlotValue × List Spelled → List ℕ
end_text = both_text IsValue value_text AreLinks links_joined 47 (outside 47) value_apart

abbrev pub IsWhole : ℕ × (SlotValue × List Spelled) → Type 0
IsWhole = AreBoth IsCount decimal IsEnd end_text 47 (at_byte 47) no_slash_in_slot

abbrev pub whole_text : ℕ × (SlotValue × List Spelled) → List ℕ
whole_text = both_text IsCount decimal IsEnd end_text 47 (at_byte 47) no_slash_in_slot

pub chain_kinds : (x : Chain) → IsSpelledChain x ↔ IsWhole (chain_parts x)
chain_kinds x = (
  λ h. (h.slot, (h.value, (links_kinds x.slot (content x.value) h.slot (content_fits x.value h.value) x.signatures).0 h.signatures)),
  λ h.
      record {
        slot = h.0;
        value = h.1.0;
        signatures = (links_kinds x.slot (content x.value) h.0 (content_fits x.value h.1.0) x.signatures).1 h.1.1;
      },
)

no_chain : (bytes : List ℕ) → Reads IsWhole whole_text bytes None → Reads IsSpelledChain chain_text bytes None
no_chain bytes reads =
    reads_through IsWhole whole_text IsSpelledChain chain_text chain_parts chain_kinds (λ x. refl) bytes None None reads
    (λ x. (λ e. absurd (none-some x e), λ e. absurd (none-some (chain_parts x) e)))

-- bytes without a slash do not read as a chain
pub no_slash : (bytes : List ℕ) → IsAbsent 47 bytes → Reads IsSpelledChain chain_text bytes None
no_slash bytes free = no_chain bytes (no_parts IsCount decimal IsEnd end_text 47 (at_byte 47) no_slash_in_slot bytes free)

-- nor do bytes with only one
pub one_slash : (bytes slot rest : List ℕ) → bytes ≡ slot ++ 47 ∷ rest → IsAbsent 47 slot → IsFree 47 false rest → Reads IsSpelledChain chain_text bytes None
one_slash bytes slot rest parts part free =
    no_chain bytes
    (no_rest IsCount decimal IsEnd end_text 47 (at_byte 47) no_slash_in_slot bytes slot rest parts part
    (no_parts IsValue value_text AreLinks links_joined 47 (outside 47) value_apart rest free))

-- bytes with two read as the chain of their three parts
pub reads_chain : (bytes slot rest value links : List ℕ) → bytes ≡ slot ++ 47 ∷ rest → IsAbsent 47 slot → rest ≡ value ++ 47 ∷ links → IsPart 47 value
    → (ra : Option ℕ) (rb : Option SlotValue) (rc : Option (List Spelled)) (r : Option Chain) → Reads IsCount decimal slot ra → Reads IsValue value_text value rb
    → Reads AreLinks links_joined links rc → ((x : Chain) → (r ≡ Some x) ↔ (pair_of ra (pair_of rb rc) ≡ Some (chain_parts x)))
    → Reads IsSpelledChain chain_text bytes r
reads_chain bytes slot rest value links parts part parts_too part_too ra rb rc r reads_a reads_b reads_c made =
    reads_through IsWhole whole_text IsSpelledChain chain_text chain_parts chain_kinds (λ x. refl) bytes (pair_of ra (pair_of rb rc)) r
    (reads_pair IsCount decimal IsEnd end_text 47 (at_byte 47) no_slash_in_slot bytes slot rest parts part ra (pair_of rb rc) reads_a
    (reads_pair IsValue value_text AreLinks links_joined 47 (outside 47) value_apart rest value links parts_too part_too rb rc reads_b reads_c))
    made

-- Chains by their parts in a text, and why they can be joined.
use Rattle.std.proofs.Common.{All, ◌≡◌, ◌≢◌, ℕ, ◌<◌, ◌^◌, List, [], ◌∷◌, ◌++◌, Option, codes, false, refl, arith, lit<, rules}
use Rattle.std.specs.Fmt.{decimal}
use Rattle.std.proofs.lemmas.List.Elements.{All-nil, All-cons, All-head, All-tail}
use Rattle.dsr_base.specs.Joined.{joined_or_dash}
use Rattle.dsr_base.specs.Split.{IsAbsent, IsPart}
use Rattle.dsr_base.proofs.Marks.{decimal_without_low}
use Rattle.dsr_base.proofs.JoinedLemmas.{joined_part}
use Rattle.dsr_base.proofs.Outside.{part_append, plain_part}
use Rattle.dsr_names.specs.declared.actor.Actor.{Actor}
use Rattle.dsr_request.specs.NameText.{is_name_byte}
use Rattle.dsr_request.specs.Request.{Request}
use Rattle.dsr_desk.specs.Signature.{Signature}
use Rattle.dsr_desk.specs.declared.statement.Statement.TheVariants.{Link}
use Rattle.dsr_chain.specs.Chain.{Chain}
use Rattle.dsr_chain.specs.Content.{content}
use Rattle.dsr_chain.specs.declared.slot_value.SlotValue.{SlotValue}
use Rattle.dsr_chain.specs.declared.slot_value.SlotValue.TheVariants.{Idle, Act}
use Rattle.dsr_envelope.specs.Limits.{IsSigned, IsSignature}
use Rattle.dsr_script.specs.SignatureText.{Spelled, spelled_at, spelled_text}
use Rattle.dsr_script.specs.ChainText.{spelled_links, signed_text, value_text, links_text, chain_text, IsValue, IsSpelledChain}
use Rattle.dsr_script.specs.Support.AskText.{ask_part, said_kind}
use Rattle.dsr_script.specs.Support.SpelledText.{IsSpelled, spelled_part}

-- the slot, the value, and what a text says about the signatures
abbrev pub chain_parts : Chain → ℕ × (SlotValue × List Spelled)
chain_parts x = (x.slot, (x.value, spelled_links x.slot (content x.value) [] x.signatures))

idle_without : (byte : ℕ) → byte < 48 → IsAbsent byte (codes "idle")
idle_without byte low = search (rules, arith)

-- a value is a part for each mark below the digits that requests do not have, except `(` and the comma
pub value_part : (mark : ℕ) → mark < 48 → 40 ≢ mark → (35 ≡ mark → ⊥) → (44 ≡ mark → ⊥) → is_name_byte mark ≡ false → (value : SlotValue) → IsValue value
    → IsPart mark (value_text value)
value_part mark low apart no_mark no_comma other Idle h = plain_part mark (codes "idle") (idle_without mark low) (idle_without 40 (lit< tt))
value_part mark low apart no_mark no_comma other (Act batch) h =
    let between : IsPart mark (44 ∷ []) = record { free = (λ outside. no_comma, tt); closed = refl } in
    joined_part IsSigned signed_text 44 mark between (ask_part mark low apart other no_mark) batch h.each

links_said : (slot : ℕ) (value : Option (List Request)) (before : List Actor) (ss : List Signature) → All IsSignature ss → All IsSpelled (spelled_links slot value before ss)
links_said slot value before [] h = All-nil IsSpelled
links_said slot value before (s ∷ ss) h =
    All-cons IsSpelled (spelled_at (Link slot value before) s) (spelled_links slot value (before ++ s.signer ∷ []) ss)
    (said_kind (Link slot value before) s (All-head IsSignature s ss h)) (links_said slot value (before ++ s.signer ∷ []) ss (All-tail IsSignature s ss h))

links_part : (xs : List Spelled) → All IsSpelled xs → IsPart 32 (joined_or_dash 43 spelled_text xs)
links_part [] h = plain_part 32 (codes "-") (search (rules, arith)) (search (rules, arith))
links_part (x ∷ xs) h =
    let plus : ◌≡◌ {A = ℕ} 43 32 → ⊥ = λ (e : ◌≡◌ {A = ℕ} 43 32). omega arith in
    let between : IsPart 32 (43 ∷ []) = record { free = (λ outside. plus, tt); closed = refl } in
    joined_part IsSpelled spelled_text 43 32 between (spelled_part 32 (lit< tt) (λ (e : ◌≡◌ {A = ℕ} 40 32). omega arith)) (x ∷ xs) h

-- a chain is a part for the space
pub chain_apart : (x : Chain) → IsSpelledChain x → IsPart 32 (chain_text x)
chain_apart x h =
    let slash : ◌≡◌ {A = ℕ} 47 32 → ⊥ = λ (e : ◌≡◌ {A = ℕ} 47 32). omega arith in
    let between : IsPart 32 (47 ∷ []) = record { free = (λ outside. slash, tt); closed = refl } in
    let small : x.slot < 2 ^ 64 = omega (arith, h.slot) in
    let slot = plain_part 32 (decimal x.slot) (decimal_without_low 32 x.slot (lit< tt) small) (decimal_without_low 40 x.slot (lit< tt) small) in
    let value = value_part 32 (lit< tt) (λ (e : ◌≡◌ {A = ℕ} 40 32). omega arith) (λ (e : ◌≡◌ {A = ℕ} 35 32). omega arith) (λ (e : ◌≡◌ {A = ℕ} 44 32). omega arith) refl
    x.value h.value in
    let links = links_part (spelled_links x.slot (content x.value) [] x.signatures) (links_said x.slot (content x.value) [] x.signatures h.signatures.each) in
    part_append 32 (decimal x.slot) (47 ∷ (value_text x.value ++ 47 ∷ links_text x)) slot
    (part_append 32 (47 ∷ []) (value_text x.value ++ 47 ∷ links_text x) between
    (part_append 32 (value_text x.value) (47 ∷ links_text x) value (part_append 32 (47 ∷ []) (links_text x) between links)))

-- How a chain stores its signatures.
use Rattle.std.specs.Prelude.{◌≡◌, ℕ, ◌≤◌, List, length}
use Rattle.dsr_desk.specs.Links.{signatures_of}
use Rattle.dsr_desk.specs.Signature.{Signature}
use Rattle.dsr_chain.specs.Chain.{chain_of}
use Rattle.dsr_chain.specs.Content.{content}
use Rattle.dsr_chain.specs.Faults.{HasMisfit}
use Rattle.dsr_chain.specs.declared.signatures.Signatures.{Signatures}
use Rattle.dsr_chain.specs.declared.signatures.Signatures.TheVariants.{InTurn, Given}
use Rattle.dsr_chain.specs.declared.slot_value.SlotValue.{SlotValue}

-- the signatures as a list
abbrev pub signatures_in : Signatures → List Signature
signatures_in (InTurn links) = signatures_of links
signatures_in (Given list) = list.items

-- what is stored fits a chain of this slot and value: links on its content, at most 16, or a list of
-- at most 16 with a misfit
abbrev pub AreKept : ℕ → SlotValue → Signatures → Type 0
AreKept slot value (InTurn links) = (links.slot ≡ slot) × (links.content ≡ content value) × (length links.signers ≤ 16)
AreKept slot value (Given list) = (length list.items ≤ 16) × HasMisfit (chain_of slot value list.items)

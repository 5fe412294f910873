-- Chains as contracts see them (Dolev and Strong 1983: a value, and the signatures that were put on it in turn).
use Rattle.std.specs.Prelude.{ℕ, List, [], ◌∷◌, ◌++◌, map}
use Rattle.dsr_names.specs.declared.actor.Actor.{Actor}
use Rattle.dsr_desk.specs.Signature.{Signature, signed}
use Rattle.dsr_desk.specs.declared.statement.Statement.{Statement}
use Rattle.dsr_desk.specs.declared.statement.Statement.TheVariants.{Link}
use Rattle.dsr_chain.specs.Content.{content}
use Rattle.dsr_chain.specs.declared.slot_value.SlotValue.{SlotValue}

-- the value of a slot, and the signatures on it in their order
pub record Chain : Type 0 where
  pub slot : ℕ
  pub value : SlotValue
  pub signatures : List Signature

-- the chain with this slot, value and signatures
abbrev pub chain_of : ℕ → SlotValue → List Signature → Chain
chain_of slot value signatures = record { slot = slot; value = value; signatures = signatures }

-- the signers of these signatures, in the order of the list
abbrev pub signers_of : List Signature → List Actor
signers_of signatures = map (λ s. s.signer) signatures

-- the link that is signed after these signers: the slot, the content of its value, and the signers
abbrev pub link_after : ℕ → SlotValue → List Actor → Statement
link_after slot value before = Link slot (content value) before

-- the chain with one more signature, by this actor, on the link that fits there
abbrev pub extended : Chain → Actor → Chain
extended chain signer =
    record chain { signatures = chain.signatures ++ signed signer (link_after chain.slot chain.value (signers_of chain.signatures)) ∷ [] }

-- the chain with this actor's signature alone
abbrev pub started : ℕ → SlotValue → Actor → Chain
started slot value signer = extended (chain_of slot value []) signer

-- One slot's broadcast among all replicas, the loyal ones and the traitors (Dolev and Strong 1983).
use Rattle.std.specs.Prelude.{◌≡◌, ℕ, zero, suc, ◌<◌, ◌≤◌, List, [], ◌++◌, All, true}
use Rattle.dsr_names.specs.Shape.{Shape, is_traitor, IsLoyal}
use Rattle.dsr_base.specs.Member.{In}
use Rattle.dsr_names.specs.declared.actor.Actor.TheVariants.{Replica}
use Rattle.dsr_desk.specs.Signature.{Signature}
use Rattle.dsr_desk.specs.declared.statement.Statement.{Statement}
use Rattle.dsr_desk.specs.declared.statement.Statement.TheVariants.{Ask, Link}
use Rattle.dsr_chain.specs.Content.{signed_in}
use Rattle.dsr_chain.specs.Chain.{Chain}
use Rattle.dsr_chain.specs.Proper.{IsAsked}
use Rattle.dsr_chain.specs.declared.slot_value.SlotValue.{SlotValue}
use Rattle.dsr_slot.specs.Keeping.{kept_after}
use Rattle.dsr_slot.specs.Conduct.{posted}
use Rattle.dsr_slot.specs.Decision.{decided}

-- the chains that each replica gives each replica: by the slot's round, counted from 1, the poster and the taker
abbrev pub Exchange : Type 0
Exchange = ℕ → ℕ → ℕ → List Chain

-- the lists of the replicas 0 to n-1, one after the other
abbrev pub from_each : ℕ → (ℕ → List Chain) → List Chain
from_each zero given = []
from_each (suc n) given = from_each n given ++ given n

-- what a replica reads in a round: what each replica gave it, by the giver's number
abbrev pub read_by : Shape → Exchange → ℕ → ℕ → List Chain
read_by shape given taker round = from_each shape.n (λ poster. given round poster taker)

-- the statement is a link of this slot
abbrev pub IsLinkOf : ℕ → Statement → Type 0
IsLinkOf slot (Ask request) = ⊥
IsLinkOf slot (Link k covered before) = k ≡ slot

-- this replica gave some replica a chain with the signature, in one of the slot's rounds 1 to f+1
pub record WasPosted (shape : Shape) (given : Exchange) (l : ℕ) (s : Signature) : Type 0 where
  pub round : ℕ
  pub taker : ℕ
  pub chain : Chain
  pub within : round ≤ shape.f
  pub inside : taker < shape.n
  pub stands : In chain (given (suc round) l taker)
  pub signed : In s chain.signatures

-- what is given in the slot's rounds 1 to f+1 is a broadcast of this value: its requests were asked; each loyal replica
-- gives every replica what its protocol asks for; and if a traitor gives a loyal replica's signature on a link of this
-- slot, that replica posted the signature itself. If the sender is a traitor, the value matters in `asked` alone, and
-- idle will do
pub record IsBroadcast (shape : Shape) (slot : ℕ) (value : SlotValue) (given : Exchange) : Type 0 where
  pub asked : All (IsAsked shape) (signed_in value)
  pub loyal : (r poster taker : ℕ) → r ≤ shape.f → IsLoyal shape (Replica poster) → taker < shape.n
      → given (suc r) poster taker ≡ posted shape slot (Replica poster) value (suc r) (kept_after shape slot (read_by shape given poster) r)
  pub unforged : (r poster taker l : ℕ) (chain : Chain) (s : Signature) → r ≤ shape.f → poster < shape.n
      → is_traitor shape poster ≡ true → taker < shape.n → In chain (given (suc r) poster taker) → In s chain.signatures
      → IsLoyal shape (Replica l) → s.signer ≡ Replica l → IsLinkOf slot s.statement → WasPosted shape given l s

-- what a replica decides for the slot
abbrev pub decided_by : Shape → ℕ → Exchange → ℕ → SlotValue
decided_by shape slot given p = decided shape slot (read_by shape given p)

-- in this exchange traitors give nothing
abbrev pub AreTraitorsSilent : Shape → Exchange → Type 0
AreTraitorsSilent shape given = (round poster taker : ℕ) → is_traitor shape poster ≡ true → given round poster taker ≡ []

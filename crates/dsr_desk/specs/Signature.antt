-- Signatures as contracts see them (Dolev and Strong 1983: nobody but the holder of a key makes its signature, and
-- a signature holds only for the statement that was signed).
use Rattle.dsr_names.specs.declared.actor.Actor.{Actor}
use Rattle.dsr_desk.specs.declared.statement.Statement.{Statement}

-- the signature of an actor on a statement
pub record Signature : Type 0 where
  pub signer : Actor
  pub statement : Statement

-- the signature of this actor on this statement
abbrev pub signed : Actor → Statement → Signature
signed signer statement = record { signer = signer; statement = statement }

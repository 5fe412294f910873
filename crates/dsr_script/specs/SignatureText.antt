-- How texts write a signature (this project): `r1` if it is on the statement that fits its place, `r1(0/idle/r0)` if it is on
-- another. So each signature has one text at a place.
use Rattle.std.specs.Prelude.{ℕ, List, [], ◌∷◌, ◌++◌, if◌then◌else◌, Option, None, Some}
use Rattle.dsr_names.specs.Actor.{actor_text}
use Rattle.dsr_names.specs.declared.actor.Actor.{Actor}
use Rattle.dsr_desk.specs.Signature.{Signature}
use Rattle.dsr_desk.specs.StatementText.{statement_text}
use Rattle.dsr_desk.specs.Support.StatementEquality.{statement_eq}
use Rattle.dsr_desk.specs.declared.statement.Statement.{Statement}

-- what a text says about a signature: its signer, and its statement if that is not the one that fits the place
pub record Spelled : Type 0 where
  pub signer : Actor
  pub other : Option Statement

-- what a text says about the signature at a place that this statement fits
abbrev pub spelled_at : Statement → Signature → Spelled
spelled_at fitting s = record { signer = s.signer; other = if statement_eq s.statement fitting then None else Some s.statement }

-- another statement in parentheses, or nothing
abbrev pub other_text : Option Statement → List ℕ
other_text None = []
other_text (Some statement) = 40 ∷ (statement_text statement ++ 41 ∷ [])

-- the text of such a description: the signer, then any other statement in parentheses
abbrev pub spelled_text : Spelled → List ℕ
spelled_text s = actor_text s.signer ++ other_text s.other

-- the text of the signature at a place that this statement fits
abbrev pub signature_text : Statement → Signature → List ℕ
signature_text fitting s = spelled_text (spelled_at fitting s)

-- Signatures that were put in turn on one content of a slot (Dolev and Strong 1983: whoever relays a value signs what was signed
-- before, and those signatures with it).
use Rattle.std.specs.Prelude.{◌≡◌, ◌≢◌, ℕ, List, [], ◌∷◌, ◌++◌, Option, Some, map, take, slice_get}
use Rattle.dsr_names.specs.declared.actor.Actor.{Actor}
use Rattle.dsr_request.specs.Request.{Request}
use Rattle.dsr_desk.specs.Signature.{Signature, signed}
use Rattle.dsr_desk.specs.declared.statement.Statement.TheVariants.{Link}

-- the slot and the content that the signatures are on, and the signers, in the order in which they signed
pub record Links : Type 0 where
  pub slot : ℕ
  pub content : Option (List Request)
  pub signers : List Actor

-- the signatures of these signers, after `before` signed, each on the link that fits its place
abbrev pub signed_after : ℕ → Option (List Request) → List Actor → List Actor → List Signature
signed_after slot content before [] = []
signed_after slot content before (signer ∷ more) =
    signed signer (Link slot content before) ∷ signed_after slot content (before ++ signer ∷ []) more

-- the links as a list of signatures
abbrev pub signatures_of : Links → List Signature
signatures_of links = signed_after links.slot links.content [] links.signers

-- this actor's signature alone
abbrev pub started : ℕ → Option (List Request) → Actor → Links
started slot content signer = record { slot = slot; content = content; signers = signer ∷ [] }

-- these links, and after them this actor's signature
abbrev pub extended : Links → Actor → Links
extended links signer = record links { signers = links.signers ++ signer ∷ [] }

-- the links are these signatures, on this content of the slot
pub record AreLinks (slot : ℕ) (content : Option (List Request)) (signatures : List Signature) (links : Links) : Type 0 where
  pub of_slot : links.slot ≡ slot
  pub of_content : links.content ≡ content
  pub are : signatures_of links ≡ signatures

-- one of these signatures is on another statement than the link that fits its place
pub record StandsOff (slot : ℕ) (content : Option (List Request)) (signatures : List Signature) : Type 0 where
  pub place : ℕ
  pub signature : Signature
  pub stands : slice_get signatures place ≡ Some signature
  pub misfits : signature.statement ≢ Link slot content (map (λ s. s.signer) (take place signatures))

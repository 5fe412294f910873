-- The signatures that texts describe.
use Rattle.std.specs.Prelude.{◌≡◌, ℕ, ◌≤◌, List, [], ◌∷◌, ◌++◌, length, Option, unwrap_or}
use Rattle.dsr_names.specs.declared.actor.Actor.{Actor}
use Rattle.dsr_request.specs.Request.{Request}
use Rattle.dsr_desk.specs.Signature.{Signature, signed}
use Rattle.dsr_desk.specs.declared.statement.Statement.{Statement}
use Rattle.dsr_desk.specs.declared.statement.Statement.TheVariants.{Link}
use Rattle.dsr_chain.specs.Support.SignedLists.{content_of}
use Rattle.dsr_chain.specs.declared.signed_request.SignedRequest.{SignedRequest}
use Rattle.dsr_script.specs.ChainText.{spelled_links}
use Rattle.dsr_script.specs.SignatureText.{Spelled}

-- the signature that a text describes at a place that this statement fits
abbrev pub said_in : Statement → Spelled → Signature
said_in fitting x = signed x.signer (unwrap_or x.other fitting)

-- those that a chain with this slot and content describes, after these signers
abbrev pub said_by : ℕ → Option (List Request) → List Actor → List Spelled → List Signature
said_by slot value before [] = []
said_by slot value before (x ∷ xs) = said_in (Link slot value before) x ∷ said_by slot value (before ++ x.signer ∷ []) xs

-- what a chain as data has: at most 8 requests, at most 16 links, and no long form of what fits
pub record AreKept (slot : ℕ) (asks : List SignedRequest) (links : List Spelled) : Type 0 where
  pub few_requests : length asks ≤ 8
  pub few_links : length links ≤ 16
  pub short : links ≡ spelled_links slot (content_of asks) [] (said_by slot (content_of asks) [] links)

-- How texts write a statement (this project): a request, or slot, content and signers before, like
-- `0/c0#1:write:a:5/r1`.
use Rattle.std.specs.Prelude.{◌≡◌, ℕ, ◌^◌, ◌<◌, List, ◌++◌, codes}
use Rattle.std.specs.Fmt.{decimal}
use Rattle.dsr_request.specs.RequestText.{request_token, IsRequest}
use Rattle.dsr_desk.specs.ContentText.{content_text, IsContent}
use Rattle.dsr_desk.specs.SignersText.{signers_text, IsSigners}
use Rattle.dsr_desk.specs.declared.statement.Statement.{Statement}
use Rattle.dsr_desk.specs.declared.statement.Statement.TheVariants.{Ask, Link}

-- the text of a statement: the request, or slot, content and signers before, with a slash between them
abbrev pub statement_text : Statement → List ℕ
statement_text (Ask request) = request_token request
statement_text (Link slot value before) = decimal slot ++ (codes "/" ++ (content_text value ++ (codes "/" ++ signers_text before)))

-- a statement that a text can write
abbrev pub IsStatement : Statement → Type 0
IsStatement (Ask request) = IsRequest request
IsStatement (Link slot value before) = (slot < 2 ^ 40) × IsContent value × IsSigners before

-- the statement is the link whose slot, content and signers before these bytes are
abbrev pub HasParts : List ℕ → List ℕ → List ℕ → Statement → Type 0
HasParts slot_bytes content_bytes before_bytes (Ask request) = ⊥
HasParts slot_bytes content_bytes before_bytes (Link slot value before) =
    (slot_bytes ≡ decimal slot) × (content_bytes ≡ content_text value) × (before_bytes ≡ signers_text before)

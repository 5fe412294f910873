-- How texts write the content of a slot (this project): `idle`, or its requests.
use Rattle.std.specs.Prelude.{ℕ, List, Option, None, Some, codes}
use Rattle.dsr_request.specs.Request.{Request}
use Rattle.dsr_request.specs.RequestsText.{requests_text, IsRequests}

-- the token of a content: its requests joined by commas, or `idle` for a content without requests
abbrev pub content_text : Option (List Request) → List ℕ
content_text None = codes "idle"
content_text (Some requests) = requests_text requests

-- a content that a text can write: idle, or 1 to 8 requests
abbrev pub IsContent : Option (List Request) → Type 0
IsContent None = Unit {0}
IsContent (Some requests) = IsRequests 8 requests

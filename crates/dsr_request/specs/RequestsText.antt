-- How texts write a list of requests (this project): `c0#7:write:a:5,c1#1:read:a`.
use Rattle.std.specs.Prelude.{ℕ, List}
use Rattle.dsr_base.specs.Joined.{joined, AreFew}
use Rattle.dsr_request.specs.Request.{Request}
use Rattle.dsr_request.specs.RequestText.{request_token, IsRequest}

-- requests joined by commas
abbrev pub requests_text : List Request → List ℕ
requests_text = joined 44 request_token

-- 1 to this number of requests that a text can write
abbrev pub IsRequests : ℕ → List Request → Type 0
IsRequests = AreFew IsRequest

-- A content that is stored as a shared list of its requests.
use Rattle.std.specs.Prelude.{◌<◌, ◌≤◌, List, Option, None, Some, length}
use Rattle.dsr_request.specs.Request.{Request}

-- idle, or 1 to 8 requests
abbrev pub IsShort : Option (List Request) → Type 0
IsShort None = Unit {0}
IsShort (Some requests) = (0 < length requests) × (length requests ≤ 8)

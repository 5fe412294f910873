-- Requests as contracts see them (Schneider 1990: a request names its client, and clients number theirs).
use Rattle.std.specs.Prelude.{ℕ}
use Rattle.dsr_request.specs.declared.op.Op.{Op}

-- an operation that a client issued under a number
pub record Request : Type 0 where
  pub client : ℕ
  pub number : ℕ
  pub op : Op

-- the request with these three
abbrev pub request_of : ℕ → ℕ → Op → Request
request_of client number op = record { client = client; number = number; op = op }

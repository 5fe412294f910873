-- When `==` holds for two lists of signed requests: exactly if they are equal.
use Rattle.std.specs.Prelude.{◌≡◌, List, Bool}
use Rattle.std.specs.Bool.{Decides}
use Rattle.std.specs.Cmp.Lexicographic.{pointwise}
use Rattle.dsr_base.specs.Support.Equality.{equal_lists}
use Rattle.dsr_chain.specs.Support.SignedRequestEquality.{signed_request_eq, signed_request_eq-Decides}
use Rattle.dsr_chain.specs.declared.signed_request.SignedRequest.{SignedRequest}

-- whether `==` holds for two lists of signed requests
abbrev pub batch_eq : List SignedRequest → List SignedRequest → Bool
batch_eq = pointwise signed_request_eq

-- it holds exactly for equal lists
pub batch_eq-Decides : (xs ys : List SignedRequest) → Decides (batch_eq xs ys) (xs ≡ ys)
batch_eq-Decides xs ys = equal_lists signed_request_eq-Decides xs ys

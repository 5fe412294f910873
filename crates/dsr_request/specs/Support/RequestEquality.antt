-- When `==` holds for two requests, and for two lists of them: exactly if they are equal.
use Rattle.std.specs.Prelude.{◌≡◌, List, Bool}
use Rattle.std.specs.Bool.{Decides}
use Rattle.std.specs.Cmp.Lexicographic.{pointwise}
use Rattle.std.proofs.lemmas.Slice.Eq.{slice_eq-Decides}
use Rattle.std.proofs.Common.{rules, refl}
use Rattle.dsr_request.specs.Request.{Request}
use Rattle.dsr_request.specs.contracts.request.RequestPartialEq.TheImpl.{ghosts}

-- whether `==` holds for two requests
abbrev pub request_eq : Request → Request → Bool
request_eq = ghosts.eq

-- whether `==` holds for two lists of requests
abbrev pub requests_eq : List Request → List Request → Bool
requests_eq = pointwise request_eq

-- the first holds exactly for equal requests
pub request_eq-Decides : (a b : Request) → Decides (request_eq a b) (a ≡ b)
request_eq-Decides a b = search rules

-- the second holds exactly for equal lists
pub requests_eq-Decides : (xs ys : List Request) → Decides (requests_eq xs ys) (xs ≡ ys)
requests_eq-Decides xs ys = slice_eq-Decides request_eq-Decides xs ys (requests_eq xs ys) refl

use Rattle.std.proofs.Common.{arith}
use Rattle.std.specs.Prelude.{◌≡◌, ◌↔◌, IsTrue}
use Rattle.dsr_request.specs.Support.RequestEquality.{request_eq-Decides}
use Rattle.dsr_chain.proofs.Contents.{decided_by_first, decided_by_rest}
use Rattle.dsr_chain.proofs.shared_value.+have_same_requests.Goals as goal

pub returns-then-eq : goal.returns-then-eq
returns-then-eq t c =
    let same = (request_eq-Decides c.our_first-item.result.request c.their_first-item.result.request).0 (rw c.eq.ensures at c.if-eq.true) in
    decided_by_rest c.args.ours.now c.args.theirs.now c.our_first-item.result c.their_first-item.result c.have_same_requests.result
    (grind (arith, c.in-len1-up-len1-up)) (grind (arith, c.in-len1-up-len1-up)) c.our_first-item.is c.their_first-item.is same c.have_same_requests.ensures

pub returns-else-eq : goal.returns-else-eq
returns-else-eq t c =
    let tests : IsTrue c.eq.result ↔ (c.our_first-item.result.request ≡ c.their_first-item.result.request) =
    rw c.eq.ensures (request_eq-Decides c.our_first-item.result.request c.their_first-item.result.request) in
    decided_by_first c.args.ours.now c.args.theirs.now c.our_first-item.result c.their_first-item.result c.eq.result (grind (arith, c.in-len1-up-len1-up))
    (grind (arith, c.in-len1-up-len1-up)) c.our_first-item.is c.their_first-item.is tests c.if-eq.false

use Rattle.dsr_chain.specs.Support.SignedRequestEquality.{signed_request_eq-Decides}
use Rattle.dsr_chain.proofs.signed_request.SignedRequest.same.Goals as goal

pub returns : goal.returns
returns c = rw c.eq.ensures (signed_request_eq-Decides c.args.self.now c.args.other.now)

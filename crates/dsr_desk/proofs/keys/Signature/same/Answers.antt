use Rattle.dsr_desk.specs.Support.SignatureEquality.{signature_eq-Decides}
use Rattle.dsr_desk.proofs.keys.Signature.same.Goals as goal

pub returns : goal.returns
returns c = rw c.eq.ensures (signature_eq-Decides c.args.self.now c.args.other.now)

use Rattle.std.proofs.lemmas.Slice.Eq.{slice_eq-Decides}
use Rattle.dsr_desk.specs.Support.SignatureEquality.{signature_eq-Decides}
use Rattle.dsr_chain.proofs.chain.same_signatures.Goals as goal

pub returns : goal.returns
returns c = slice_eq-Decides signature_eq-Decides c.args.ours.now c.args.theirs.now c.eq.result c.eq.ensures

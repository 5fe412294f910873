use Rattle.std.proofs.Common.{◌≡◌, take}
use Rattle.dsr_chain.specs.Chain.{signers_of as signers_in}
use Rattle.dsr_chain.proofs.chain.signers_of.Given as goal

abbrev pub invariant-loop-signature : goal.invariant-loop-signature
invariant-loop-signature l = l.signers ≡ signers_in (take l.signature-index l.signatures)

use Rattle.std.proofs.Common.{◌≡◌, [], take, map}
use Rattle.dsr_desk.specs.Links.{signed_after}
use Rattle.dsr_desk.proofs.links.Links.of.Given as goal

abbrev pub invariant-loop-signature : goal.invariant-loop-signature
invariant-loop-signature l = record {
  signers : l.before ≡ map (λ s. s.signer) (take l.signature-index l.signatures);
  are : signed_after l.slot l.content [] l.before ≡ take l.signature-index l.signatures;
}

use Rattle.std.proofs.Common.{◌≡◌, take}
use Rattle.dsr_desk.proofs.links.Links.signature.Given as goal

abbrev pub invariant-loop-signer : goal.invariant-loop-signer
invariant-loop-signer l = l.before ≡ take l.signer-index l.signer-items

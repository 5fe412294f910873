use Rattle.std.proofs.Common.{All, take}
use Rattle.dsr_envelope.specs.Limits.{IsSignature}
use Rattle.dsr_envelope.proofs.limits.signatures_fit.Given as goal

abbrev pub invariant-loop-place : goal.invariant-loop-place
invariant-loop-place l = All IsSignature (take l.place l.chain.signatures)

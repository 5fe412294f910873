use Rattle.std.proofs.Common.{◌≡◌, [], take, drop}
use Rattle.dsr_chain.specs.Chain.{signers_of}
use Rattle.dsr_explain.specs.Lines.{misfit_text}
use Rattle.dsr_explain.proofs.chain_lines.write_misfit.Given as goal

abbrev pub invariant-loop-place : goal.invariant-loop-place
invariant-loop-place l =
    (l.before ≡ signers_of (take l.place l.chain.signatures))
    × (misfit_text l.chain.slot l.chain.value [] l.chain.signatures
    ≡ misfit_text l.chain.slot l.chain.value (signers_of (take l.place l.chain.signatures)) (drop l.place l.chain.signatures))
    × (l.out ≡ l.initial.out)

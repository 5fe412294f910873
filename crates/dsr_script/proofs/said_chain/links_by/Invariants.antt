use Rattle.std.proofs.Common.{◌≡◌, map, take}
use Rattle.dsr_script.specs.Support.SpelledText.{short_form}
use Rattle.dsr_script.proofs.said_chain.links_by.Given as goal

abbrev pub invariant-loop-signer : goal.invariant-loop-signer
invariant-loop-signer l = l.links.items ≡ map short_form (take l.signer-index l.signers)

use Rattle.std.proofs.Common.{◌≡◌, ◌++◌, [], length, drop}
use Rattle.dsr_script.specs.ChainText.{spelled_links}
use Rattle.dsr_script.proofs.said_chain.links_compared.Given as goal

-- the links so far and the descriptions of the remaining signatures are together those of the chain
abbrev pub invariant-loop-place : goal.invariant-loop-place
invariant-loop-place l = record {
  said :
      l.links.items ++ spelled_links l.chain.slot l.content l.before (drop l.place l.chain.signatures)
      ≡ spelled_links l.chain.slot l.content [] l.chain.signatures;
  signers : length l.before ≡ l.place;
}

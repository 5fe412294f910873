use Rattle.std.proofs.Common.{◌≡◌, ◌++◌, [], length, drop}
use Rattle.dsr_script.specs.Held.{IsHeldOrKnown}
use Rattle.dsr_script.specs.Support.Links.{said_by}
use Rattle.dsr_script.proofs.BriefLemmas.{HeldOn}
use Rattle.dsr_script.proofs.building.signatures_of.Given as goal

-- made are the signatures so far
abbrev pub invariant-loop-link : goal.invariant-loop-link
invariant-loop-link l = record {
  made : l.signatures.items ++ said_by l.slot l.content l.before (drop l.link-index l.links) ≡ said_by l.slot l.content [] l.links;
  held : HeldOn l.slot l.content (IsHeldOrKnown l.keys l.known.signatures) l.links l.before (drop l.link-index l.links);
  signatures : length l.signatures.items ≡ l.link-index;
  signers : length l.before ≡ l.link-index;
}

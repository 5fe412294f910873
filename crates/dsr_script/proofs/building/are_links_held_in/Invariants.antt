use Rattle.std.proofs.Common.{◌≡◌, length, drop}
use Rattle.dsr_script.specs.Held.{IsHeldOrKnown}
use Rattle.dsr_script.proofs.BriefLemmas.{HeldOn}
use Rattle.dsr_script.proofs.building.are_links_held_in.Given as goal

-- nothing so far is forged
abbrev pub invariant-loop-link : goal.invariant-loop-link
invariant-loop-link l = record {
  held : HeldOn l.slot l.content (IsHeldOrKnown l.keys l.known.signatures) l.links l.before (drop l.link-index l.links);
  signers : length l.before ≡ l.link-index;
}

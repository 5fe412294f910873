use Rattle.std.proofs.Common.{◌≡◌, length, drop}
use Rattle.dsr_script.proofs.BriefLemmas.{ShortOn}
use Rattle.dsr_script.proofs.said_text.are_links_in.Given as goal

-- nothing so far is long
abbrev pub invariant-loop-link : goal.invariant-loop-link
invariant-loop-link l = record {
  short : ShortOn l.slot l.content l.links l.before (drop l.link-index l.links);
  signers : length l.before ≡ l.link-index;
}

use Rattle.std.proofs.Common.{◌↔◌, [], subst}
use Rattle.std.specs.Prelude.{All, IsTrue}
use Rattle.dsr_chain.specs.Support.SignedLists.{content_of}
use Rattle.dsr_script.specs.Held.{IsHeldOrKnown}
use Rattle.dsr_script.specs.Support.Links.{said_by}
use Rattle.dsr_script.proofs.BriefLemmas.{held_by_signers}
use Rattle.dsr_script.proofs.building.are_links_held.Goals as goal

-- what a holder of a key signs is not forged
pub returns-then-are_signers_held : goal.returns-then-are_signers_held
returns-then-are_signers_held c = (
  λ t. held_by_signers c.args.slot (content_of c.args.asks.now) c.args.keys.now c.args.known.now.signatures [] c.args.links.now
      (c.are_signers_held.ensures.0 c.if-are_signers_held.true),
  λ e. c.if-are_signers_held.true,
)

pub returns-else-are_signers_held : goal.returns-else-are_signers_held
returns-else-are_signers_held c =
    subst (λ content. IsTrue c.are_links_held_in.result ↔ All (IsHeldOrKnown c.args.keys.now c.args.known.now.signatures) (said_by c.args.slot content [] c.args.links.now))
    c.content_of.ensures c.are_links_held_in.ensures

use Rattle.std.proofs.Common.{[]}
use Rattle.dsr_chain.specs.Support.SignedLists.{content_of}
use Rattle.dsr_script.proofs.BriefLemmas.{short_each}
use Rattle.dsr_script.proofs.said_text.are_links.Goals as goal

-- a text always names only the signers of signatures that fit
pub returns-then-are_short : goal.returns-then-are_short
returns-then-are_short c = (λ t. short_each c.args.slot (content_of c.args.asks.now) [] c.args.links.now (c.are_short.ensures.0 c.if-are_short.true), λ e. c.if-are_short.true)

use Rattle.dsr_explain.proofs.LentLemmas.{lent_at}
use Rattle.dsr_explain.proofs.lines.chain_at.Goals as goal

pub returns : goal.returns
returns c = lent_at c.args.chains.now c.args.place c.get.result c.get.ensures.lookup.1 c.get.ensures.lookup.3

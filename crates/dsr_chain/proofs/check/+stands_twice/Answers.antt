use Rattle.dsr_chain.proofs.Twice.{decided_by_first, decided_by_rest}
use Rattle.dsr_chain.proofs.check.+stands_twice.Goals as goal

pub returns-then-stands_in : goal.returns-then-stands_in
returns-then-stands_in t c =
    decided_by_first c.args.signers.now c.first-item.result c.stands_in.result c.in-len1-up.len_at_least c.first-item.is c.stands_in.ensures
    c.if-stands_in.true

pub returns-else-stands_in : goal.returns-else-stands_in
returns-else-stands_in t c =
    decided_by_rest c.args.signers.now c.first-item.result c.stands_in.result c.stands_twice.result c.in-len1-up.len_at_least c.first-item.is
    c.stands_in.ensures c.if-stands_in.false c.stands_twice.ensures

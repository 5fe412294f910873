use Rattle.dsr_envelope.proofs.Distinct.{decided_by_first, decided_by_rest}
use Rattle.dsr_envelope.proofs.clients.+are_different.Goals as goal

pub returns-then-differs_from : goal.returns-then-differs_from
returns-then-differs_from t c =
    decided_by_rest c.args.clients.now c.first-item.result c.differs_from.result c.are_different.result c.in-len1-up.len_at_least c.first-item.is
    c.differs_from.ensures c.if-differs_from.true c.are_different.ensures

pub returns-else-differs_from : goal.returns-else-differs_from
returns-else-differs_from t c =
    decided_by_first c.args.clients.now c.first-item.result c.differs_from.result c.in-len1-up.len_at_least c.first-item.is c.differs_from.ensures
    c.if-differs_from.false

use Rattle.std.proofs.Common.{ap}
use Rattle.dsr_node.specs.Customer.{Customer}
use Rattle.dsr_node.proofs.customer.Customer.begin.Goals as goal

pub returns-clause-begun : goal.returns-clause-begun
returns-clause-begun c log q stands =
    let same = ap (λ (x : Customer). x.client) c.self.view_is in
    rw same at (c.in-Ok.ensures.stands log q (rw (← same) at stands))

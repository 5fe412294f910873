use Rattle.dsr_base.proofs.FewLemmas.{pushed_few}
use Rattle.dsr_base.proofs.few.Few.push.Goals as goal

pub invariant_of-self : goal.invariant_of-self
invariant_of-self g c = pushed_few g.row.N c.self.inside.len _ c.self.inside.items c.self.invariant (rw c.self.view_is c.requires)

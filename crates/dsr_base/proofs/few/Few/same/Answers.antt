use Rattle.std.proofs.lemmas.Slice.Eq.{slice_eq-Decides}
use Rattle.dsr_base.proofs.few.Few.same.Goals as goal

pub returns : goal.returns
returns g c = slice_eq-Decides g.met.T.Exact.decides c.args.self.now c.args.other.now c.eq.result c.eq.ensures

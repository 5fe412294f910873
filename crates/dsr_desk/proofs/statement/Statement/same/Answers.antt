use Rattle.dsr_desk.specs.Support.StatementEquality.{statement_eq-Decides}
use Rattle.dsr_desk.proofs.statement.Statement.same.Goals as goal

pub returns : goal.returns
returns c = rw c.eq.ensures (statement_eq-Decides c.args.self.now c.args.other.now)

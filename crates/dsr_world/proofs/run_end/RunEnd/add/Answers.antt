use Rattle.std.proofs.Common.{None, Some}
use Rattle.dsr_world.proofs.Ending.{counts_more}
use Rattle.dsr_world.proofs.run_end.RunEnd.add.Goals as goal

pub returns-in-None-clause-counts : goal.returns-in-None-clause-counts
returns-in-None-clause-counts c outcomes h = rw c.in-None.is (counts_more outcomes None c.args.self.now h)

pub returns-in-Some-clause-counts : goal.returns-in-Some-clause-counts
returns-in-Some-clause-counts c outcomes h =
    rw (c.in-Some.is, c.starved_by.ensures.same, c.or-self.ensures) (counts_more outcomes (Some c.in-Some.refusal) c.args.self.now h)

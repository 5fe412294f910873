use Rattle.std.proofs.Common.{refl}
use Rattle.dsr_replica.proofs.Holding.{newer_held, older_dropped, foreign_dropped, no_ask_dropped, others_dropped}
use Rattle.dsr_replica.proofs.laws.own_asks_are_held.Goals as goal

pub returns-clause-start : goal.returns-clause-start
returns-clause-start c shape client = refl

pub returns-clause-newer : goal.returns-clause-newer
returns-clause-newer c shape client log ask is asked least = newer_held shape client log ask is asked least

pub returns-clause-older : goal.returns-clause-older
returns-clause-older c shape client log ask before is below = older_dropped shape client log ask before is below

pub returns-clause-foreign : goal.returns-clause-foreign
returns-clause-foreign c shape client log ask foreign = foreign_dropped shape client log ask foreign

pub returns-clause-no_ask : goal.returns-clause-no_ask
returns-clause-no_ask c shape client log envelope none = no_ask_dropped shape client log envelope none

pub returns-clause-others : goal.returns-clause-others
returns-clause-others c shape client other log envelope differ = others_dropped shape client log other envelope differ

pub returns-clause-replicas : goal.returns-clause-replicas
returns-clause-replicas c shape client p log envelope = refl

pub returns-clause-posts : goal.returns-clause-posts
returns-clause-posts c shape client to log envelope = refl

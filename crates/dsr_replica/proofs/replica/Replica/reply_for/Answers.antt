use Rattle.dsr_replica.proofs.Standing.{stands_reply}
use Rattle.dsr_replica.proofs.replica.Replica.reply_for.Goals as goal

pub returns-clause-posted : goal.returns-clause-posted
returns-clause-posted c = λ log envelope stands is. stands_reply c.args.self.now log c.args.client envelope stands

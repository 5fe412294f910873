use Rattle.dsr_replica.proofs.Choosing.{allowed_is}
use Rattle.dsr_replica.proofs.replica.Replica.allows.Goals as goal

pub returns-clause-stands : goal.returns-clause-stands
returns-clause-stands c = λ log stands.
    let both = allowed_is c.args.self.now log c.args.to c.args.pick stands in
    (λ e. both.0 (c.is_allowed.ensures.0 e), λ h. c.is_allowed.ensures.1 (both.1 h))

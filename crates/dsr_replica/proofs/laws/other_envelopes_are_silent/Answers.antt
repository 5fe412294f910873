use Rattle.std.proofs.Common.{refl}
use Rattle.dsr_replica.proofs.Silence.{own_chains, other_chains}
use Rattle.dsr_replica.proofs.laws.other_envelopes_are_silent.Goals as goal

pub returns-clause-own : goal.returns-clause-own
returns-clause-own c t chains = own_chains t chains

pub returns-clause-others : goal.returns-clause-others
returns-clause-others c t round chains other = other_chains t round chains other

pub returns-clause-empty : goal.returns-clause-empty
returns-clause-empty c t = refl

pub returns-clause-asks : goal.returns-clause-asks
returns-clause-asks c t ask = refl

pub returns-clause-replies : goal.returns-clause-replies
returns-clause-replies c t reply = refl

pub returns-clause-fronts : goal.returns-clause-fronts
returns-clause-fronts c t front = refl

use Rattle.std.proofs.Common.{◌≡◌, ◌⊎◌, inl, inr, List, [], Option, None, Some, IfNone, ap, subst}
use Rattle.dsr_names.specs.Shape.{Shape}
use Rattle.dsr_names.specs.declared.actor.Actor.TheVariants.{Replica}
use Rattle.dsr_rotation.specs.Calendar.{closed_slots}
use Rattle.dsr_envelope.specs.declared.entry.Entry.{Entry}
use Rattle.dsr_replica.specs.Decided.{decided_values}
use Rattle.dsr_node.specs.Node.{Plays}
use Rattle.dsr_mail.specs.Logs.{logs_of}
use Rattle.dsr_mail.proofs.logs.Logs.loyal.Goals as goal

-- who has done nothing has decided nothing
none_decided : (shape : Shape) (log : List Entry) → log ≡ [] → decided_values shape log ≡ []
unfolding closed_slots
none_decided shape log e = ap (decided_values shape) e

-- the first of two reasons
either_none : {A : Type 0} (P Q : Type 0) (o : Option A) → IfNone o P → IfNone o (P ⊎ Q)
either_none P Q None p = inl p
either_none P Q (Some x) p = tt

pub returns-in-Some-clause-none : goal.returns-in-Some-clause-none
returns-in-Some-clause-none c =
    let logs = c.args.self.now in
    let plays = subst (λ p. Plays logs.shape (Replica p) (logs_of logs (Replica p)) c.in-Some.node.now) c.of.ensures c.in-Some.ensures.plays in
    either_none _ _ c.replica.result (c.replica.ensures.traitor _ _ _ plays)

pub returns-in-None-clause-none : goal.returns-in-None-clause-none
returns-in-None-clause-none c =
    inr (none_decided c.args.self.now.shape _ (c.in-None.ensures.none (Replica c.args.number)))

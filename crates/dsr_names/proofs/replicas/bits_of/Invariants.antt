use Rattle.std.proofs.Common.{◌≡◌, drop}
use Rattle.dsr_names.specs.Support.ReplicaSets.{bits_with}
use Rattle.dsr_names.proofs.replicas.bits_of.Given as goal

-- with the replicas that are left it is the whole set
abbrev pub invariant-loop-replica : goal.invariant-loop-replica
invariant-loop-replica l = bits_with l.bits (drop l.replica-index l.replicas) ≡ bits_with 0 l.replicas

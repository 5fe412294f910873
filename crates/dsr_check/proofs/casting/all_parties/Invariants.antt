use Rattle.std.proofs.Common.{◌≡◌, ℕ, ◌+◌, ◌≤◌, false}
use Rattle.dsr_names.specs.declared.actor.Actor.TheVariants.{Replica, Client}
use Rattle.dsr_desk.specs.Keys.{is_taken}
use Rattle.dsr_check.specs.Support.Audit.{AreCast, AreKeysBelow}
use Rattle.dsr_check.proofs.casting.all_parties.Given as goal

-- the replicas' parties so far, and the traitors' keys; the keys of later actors are not taken
abbrev pub invariant-loop-number : goal.invariant-loop-number
invariant-loop-number l = AreCast l.shape l.number l.parties.items × AreKeysBelow l.shape l.number l.traitors.items × (l.number-end ≡ l.shape.n)
    × (l.keys.shape ≡ l.shape) × ((q : ℕ) → l.number ≤ q → is_taken l.keys (Replica q) ≡ false) × ((c : ℕ) → is_taken l.keys (Client c) ≡ false)

-- all replicas' parties and the clients' so far; the keys of later clients are not taken
abbrev pub invariant-loop-number-2 : goal.invariant-loop-number-2
invariant-loop-number-2 l = AreCast l.shape (l.shape.n + l.number) l.parties.items × AreKeysBelow l.shape l.shape.n l.traitors.items × (l.number-end ≡ l.shape.m)
    × (l.keys.shape ≡ l.shape) × ((c : ℕ) → l.number ≤ c → is_taken l.keys (Client c) ≡ false)

use Rattle.std.proofs.Common.{◌≡◌, ℕ, ◌+◌, ◌≤◌, false, length}
use Rattle.dsr_names.specs.declared.actor.Actor.TheVariants.{Replica, Client}
use Rattle.dsr_desk.specs.Keys.{is_taken}
use Rattle.dsr_record.specs.Support.KeysBelow.{HasKeysBelow}
use Rattle.dsr_record.proofs.keys.all_keys.Given as goal

-- the replicas' keys so far; those of later actors are not taken
abbrev pub invariant-loop-number : goal.invariant-loop-number
invariant-loop-number l = HasKeysBelow l.shape l.number l.keys.items × (l.number-end ≡ l.shape.n)
    × (l.untaken.shape ≡ l.shape) × ((q : ℕ) → l.number ≤ q → is_taken l.untaken (Replica q) ≡ false) × ((c : ℕ) → is_taken l.untaken (Client c) ≡ false)
    × (length l.keys.items ≡ l.number)

-- all replicas' keys and the clients' so far; those of later clients are not taken
abbrev pub invariant-loop-number-2 : goal.invariant-loop-number-2
invariant-loop-number-2 l = HasKeysBelow l.shape (l.shape.n + l.number) l.keys.items × (l.number-end ≡ l.shape.m)
    × (l.untaken.shape ≡ l.shape) × ((c : ℕ) → l.number ≤ c → is_taken l.untaken (Client c) ≡ false)
    × (length l.keys.items ≡ l.shape.n + l.number)

use Rattle.std.proofs.Common.{◌≡◌, ℕ, ◌+◌, ◌≤◌, false}
use Rattle.dsr_names.specs.declared.actor.Actor.TheVariants.{Replica, Client}
use Rattle.dsr_desk.specs.Keys.{is_taken}
use Rattle.dsr_world.specs.Support.StageFields.{AreOpened, AreKeysBelow}
use Rattle.dsr_world.proofs.stage.Stage.open.Given as goal

-- the replicas' nodes so far, and the traitors' keys; the keys of later actors are not taken
abbrev pub invariant-loop-number : goal.invariant-loop-number
invariant-loop-number l = AreOpened l.shape l.number l.nodes.items × AreKeysBelow l.shape l.number l.traitors.items × (l.number-end ≡ l.shape.n)
    × (l.keys.shape ≡ l.shape) × ((q : ℕ) → l.number ≤ q → is_taken l.keys (Replica q) ≡ false) × ((c : ℕ) → is_taken l.keys (Client c) ≡ false)

-- all replicas' nodes and the clients' so far; the keys of later clients are not taken
abbrev pub invariant-loop-number-2 : goal.invariant-loop-number-2
invariant-loop-number-2 l = AreOpened l.shape (l.shape.n + l.number) l.nodes.items × AreKeysBelow l.shape l.shape.n l.traitors.items × (l.number-end ≡ l.shape.m)
    × (l.keys.shape ≡ l.shape) × ((c : ℕ) → l.number ≤ c → is_taken l.keys (Client c) ≡ false)

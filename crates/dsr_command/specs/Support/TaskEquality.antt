-- `==` holds for two narrowings, and for two tasks, exactly if they are equal.
use Rattle.std.specs.Prelude.{◌≡◌, ◌&&◌, ℕ, Bool, Option}
use Rattle.std.specs.Bool.{Decides}
use Rattle.std.specs.Bool.{beq}
use Rattle.std.specs.Cmp.{booleans_Decides}
use Rattle.std.specs.Option.{option_eq}
use Rattle.std.proofs.Common.{ap, eqb, refl}
use Rattle.std.proofs.lemmas.Bool.Decides.{Decides-and, Decides-like, Decides-eqb}
use Rattle.dsr_base.specs.Support.Equality.{equal_options}
use Rattle.dsr_names.specs.Support.ActorEquality.{actor_eq, actor_eq-Decides}
use Rattle.dsr_names.specs.declared.actor.Actor.{Actor}
use Rattle.dsr_command.specs.declared.narrowing.Narrowing.{Narrowing}
use Rattle.dsr_command.specs.declared.Task.{Task}
use Rattle.dsr_command.specs.declared.Task.TheVariants.{Apply, Check, Explain, Play, Serve}
use Rattle.dsr_command.specs.contracts.narrowing.NarrowingPartialEq.TheImpl.{ghosts as of_narrowings}
use Rattle.dsr_command.specs.contracts.TaskPartialEq.TheImpl.{ghosts}

-- the narrowing with these fields
abbrev narrows : Option ℕ → Option Actor → Bool → Bool → Narrowing
narrows slot actor refused as_data = record { slot = slot; actor = actor; refused = refused; as_data = as_data }

-- `==` holds for two narrowings exactly if they are equal
pub narrowing_eq-Decides : (a b : Narrowing) → Decides (of_narrowings.eq a b) (a ≡ b)
narrowing_eq-Decides a b =
    let flags = beq a.refused b.refused && beq a.as_data b.as_data in
    Decides-like (option_eq eqb a.slot b.slot && (option_eq actor_eq a.actor b.actor && flags))
    (λ p. let q = p.1 in let r = q.1 in λ i. narrows (p.0 i) (q.0 i) (r.0 i) (r.1 i))
    (λ e. (ap (λ n. n.slot) e, (ap (λ n. n.actor) e, (ap (λ n. n.refused) e, ap (λ n. n.as_data) e))))
    (Decides-and (option_eq eqb a.slot b.slot) (option_eq actor_eq a.actor b.actor && flags) (equal_options Decides-eqb a.slot b.slot)
    (Decides-and (option_eq actor_eq a.actor b.actor) flags (equal_options actor_eq-Decides a.actor b.actor)
    (Decides-and (beq a.refused b.refused) (beq a.as_data b.as_data) (booleans_Decides a.refused b.refused) (booleans_Decides a.as_data b.as_data))))

-- `==` holds for two tasks exactly if they are equal
pub task_eq-Decides : (a b : Task) → Decides (ghosts.eq a b) (a ≡ b)
task_eq-Decides Apply Apply = (λ e. refl, λ e. refl)
task_eq-Decides Apply (Play stricter told) = (λ e. cc, λ e. cc)
task_eq-Decides Apply (Serve told) = (λ e. cc, λ e. cc)
task_eq-Decides Apply Check = (λ e. cc, λ e. cc)
task_eq-Decides Apply (Explain n) = (λ e. cc, λ e. cc)
task_eq-Decides (Play strict transcript) Apply = (λ e. cc, λ e. cc)
task_eq-Decides (Play strict transcript) (Play stricter told) =
    Decides-like (beq strict stricter && beq transcript told) (λ p. λ i. Play (p.0 i) (p.1 i)) (λ e. (cc, cc))
    (Decides-and (beq strict stricter) (beq transcript told) (booleans_Decides strict stricter) (booleans_Decides transcript told))
task_eq-Decides (Play strict transcript) (Serve told) = (λ e. cc, λ e. cc)
task_eq-Decides (Play strict transcript) Check = (λ e. cc, λ e. cc)
task_eq-Decides (Play strict transcript) (Explain n) = (λ e. cc, λ e. cc)
task_eq-Decides (Serve transcript) Apply = (λ e. cc, λ e. cc)
task_eq-Decides (Serve transcript) (Play stricter told) = (λ e. cc, λ e. cc)
task_eq-Decides (Serve transcript) (Serve told) = Decides-like (beq transcript told) (λ e. ap Serve e) (λ e. cc) (booleans_Decides transcript told)
task_eq-Decides (Serve transcript) Check = (λ e. cc, λ e. cc)
task_eq-Decides (Serve transcript) (Explain n) = (λ e. cc, λ e. cc)
task_eq-Decides Check Apply = (λ e. cc, λ e. cc)
task_eq-Decides Check (Play stricter told) = (λ e. cc, λ e. cc)
task_eq-Decides Check (Serve told) = (λ e. cc, λ e. cc)
task_eq-Decides Check Check = (λ e. refl, λ e. refl)
task_eq-Decides Check (Explain n) = (λ e. cc, λ e. cc)
task_eq-Decides (Explain m) Apply = (λ e. cc, λ e. cc)
task_eq-Decides (Explain m) (Play stricter told) = (λ e. cc, λ e. cc)
task_eq-Decides (Explain m) (Serve told) = (λ e. cc, λ e. cc)
task_eq-Decides (Explain m) Check = (λ e. cc, λ e. cc)
task_eq-Decides (Explain m) (Explain n) = Decides-like (of_narrowings.eq m n) (λ e. ap Explain e) (λ e. cc) (narrowing_eq-Decides m n)

-- When `==` holds for two picks: exactly if they are equal.
use Rattle.std.specs.Prelude.{◌≡◌, ℕ, List, Bool}
use Rattle.std.specs.Bool.{Decides}
use Rattle.std.proofs.lemmas.Bool.Decides.{Decides-like}
use Rattle.std.proofs.Common.{rules}
use Rattle.dsr_request.specs.declared.op.Op.{Op}
use Rattle.dsr_request.specs.contracts.op.OpPartialEq.TheImpl.{ghosts as of_ops}
use Rattle.dsr_envelope.specs.contracts.clients.ClientsPartialEq.TheImpl.{ghosts as of_clients}
use Rattle.dsr_envelope.specs.declared.pick.Pick.{Pick}
use Rattle.dsr_envelope.specs.declared.pick.Pick.TheVariants.{Plain, From, Begin}
use Rattle.dsr_envelope.specs.contracts.pick.PickPartialEq.TheImpl.{ghosts}

-- whether `==` holds for two picks
abbrev pub pick_eq : Pick → Pick → Bool
pick_eq = ghosts.eq

-- it holds for two operations exactly if they are equal
one_op : (a b : Op) → Decides (of_ops.eq a b) (a ≡ b)
one_op a b = search rules

-- given that it holds for two lists of clients exactly if they are equal, which `Clients` shows
module _ (same_lists : (xs ys : List ℕ) → Decides (of_clients.eq xs ys) (xs ≡ ys)) where
  -- it holds exactly for equal picks
  pub pick_eq-Decides : (a b : Pick) → Decides (pick_eq a b) (a ≡ b)
  pick_eq-Decides Plain Plain = (λ e. cc, λ e. cc)
  pick_eq-Decides Plain (From ys) = (λ e. cc, λ e. cc)
  pick_eq-Decides Plain (Begin b) = (λ e. cc, λ e. cc)
  pick_eq-Decides (From xs) Plain = (λ e. cc, λ e. cc)
  pick_eq-Decides (From xs) (From ys) = Decides-like (of_clients.eq xs ys) (λ e. cc) (λ e. cc) (same_lists xs ys)
  pick_eq-Decides (From xs) (Begin b) = (λ e. cc, λ e. cc)
  pick_eq-Decides (Begin a) Plain = (λ e. cc, λ e. cc)
  pick_eq-Decides (Begin a) (From ys) = (λ e. cc, λ e. cc)
  pick_eq-Decides (Begin a) (Begin b) = Decides-like (of_ops.eq a b) (λ e. cc) (λ e. cc) (one_op a b)

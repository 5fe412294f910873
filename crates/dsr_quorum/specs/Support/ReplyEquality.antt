-- When `==` holds for two replies: exactly if they are equal.
use Rattle.std.specs.Prelude.{◌≡◌, Bool}
use Rattle.std.specs.Bool.{Decides}
use Rattle.std.proofs.Common.{rules}
use Rattle.dsr_ledger.specs.declared.reply.Reply.{Reply}
use Rattle.dsr_ledger.specs.contracts.reply.ReplyPartialEq.TheImpl.{ghosts}

-- whether `==` holds for two replies
abbrev pub reply_eq : Reply → Reply → Bool
reply_eq = ghosts.eq

-- it holds exactly for equal replies
pub reply_eq-Decides : (a b : Reply) → Decides (reply_eq a b) (a ≡ b)
reply_eq-Decides a b = search rules

-- Accepted replies have all numbers from 1 on.
use Rattle.std.proofs.Common.{ℕ, ◌<◌, ◌≤◌, List, [], ◌∷◌, length, inl, inr, refl, arith}
use Rattle.std.proofs.lemmas.Bool.{cases_lt}
use Rattle.dsr_base.specs.Member.{here, there}
use Rattle.dsr_ledger.specs.declared.reply.Reply.{Reply as AReply}
use Rattle.dsr_client.specs.Accepted.{AreNumbered}
use Rattle.dsr_run.specs.Right.{HasReplyTo}

-- a number up to their count is that of one of them
pub has_numbers : (replies : List AReply) → AreNumbered replies → (number : ℕ) → 0 < number → number ≤ length replies → HasReplyTo number replies
has_numbers [] are number some within = absurd (omega (arith, some, within))
has_numbers (r ∷ older) are number some within = elim (cases_lt (length older) number) [
  | inl last ↦ let next = are.0 in (r, here refl, omega (arith, next, last, within))
  | inr before ↦ let found = has_numbers older are.1 number some before in (found.0, there found.1, found.2)
]

-- When a history and the replies to its requests are right, whatever made them (this project; Schneider 1990: the replies are
-- those of one machine that processes the requests one after another).
use Rattle.std.specs.Prelude.{ℕ, List, reverse}
use Rattle.dsr_base.specs.Member.{In}
use Rattle.dsr_request.specs.Request.{Request}
use Rattle.dsr_ledger.specs.declared.reply.Reply.{Reply}
use Rattle.dsr_history.specs.History.{IsLegal, IsReplyTo}

-- the numbers of each client rise in the history; and each reply answers a request of the client beside it, which is at
-- the reply's place in the history, with the reply's number and the answer of the sequential directory there. The
-- history is listed oldest first here
pub record IsJudgedRight (history : List Request) (accepted : List (ℕ × Reply)) : Type 0 where
  pub legal : IsLegal (reverse history)
  pub replies : (client : ℕ) (reply : Reply) → In (client, reply) accepted → IsReplyTo (reverse history) client reply

-- A service as contracts see it, and the history that led to it.
use Rattle.std.specs.Prelude.{◌≡◌, ℕ, List, Option, length}
use Rattle.dsr_register.specs.Table.{StandsFor}
use Rattle.dsr_ledger.specs.declared.reply.Reply.{Reply}
use Rattle.dsr_ledger.specs.LastReply.{last_reply}
use Rattle.dsr_request.specs.Request.{Request}
use Rattle.dsr_history.specs.History.{operations, reply_in}

-- the registers that hold a number, each client's last reply, and how many requests acted
pub record Service : Type 0 where
  pub registers : List (List ℕ × ℕ)
  pub replies : List (Option Reply)
  pub count : ℕ

-- the service after this history: the registers represent its operations, the replies are its clients' last ones, and the
-- count is its length
pub record IsAfter (service : Service) (history : List Request) : Type 0 where
  pub registers : StandsFor service.registers (operations history)
  pub replies : (client : ℕ) → last_reply service.replies client ≡ reply_in history client
  pub count : service.count ≡ length history

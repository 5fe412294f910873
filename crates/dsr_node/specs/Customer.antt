-- A client with the replies that it accepted (this project).
use Rattle.std.specs.Prelude.{ℕ, List}
use Rattle.dsr_ledger.specs.declared.reply.Reply.{Reply}
use Rattle.dsr_client.specs.Client.{Client}

-- the client, the replies in the order in which it accepted them, and for how many more there is room
pub record Customer : Type 0 where
  pub client : Client
  pub accepted : List Reply
  pub room : ℕ

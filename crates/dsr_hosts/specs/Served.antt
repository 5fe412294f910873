-- When all operations of a client are replied to, in order (this project). Logs, replies and operations are listed newest first.
use Rattle.std.specs.Prelude.{◌≡◌, ℕ, suc, List, [], ◌∷◌, None, length, reverse}
use Rattle.dsr_base.specs.Member.{In}
use Rattle.dsr_names.specs.Shape.{Shape}
use Rattle.dsr_names.specs.declared.actor.Actor.TheVariants.{Replica}
use Rattle.dsr_request.specs.declared.op.Op.{Op}
use Rattle.dsr_ledger.specs.declared.reply.Reply.{Reply as AReply}
use Rattle.dsr_envelope.specs.declared.envelope.Envelope.TheVariants.{Ask}
use Rattle.dsr_envelope.specs.declared.entry.Entry.{Entry}
use Rattle.dsr_envelope.specs.declared.entry.Entry.TheVariants.{Post}
use Rattle.dsr_client.specs.Conduct.{ask_of}
use Rattle.dsr_client.specs.State.{outstanding, accepted}

-- the reply is one to the client's request of this number and operation, which it posted to some replica
pub record IsReplyTo (me : ℕ) (log : List Entry) (number : ℕ) (op : Op) (reply : AReply) : Type 0 where
  pub number_is : reply.number ≡ number
  pub replica : ℕ
  pub posted : In (Post (Replica replica) (Ask (ask_of me number op))) log

-- the replies answer these operations, one each; the requests are numbered from 1 on
abbrev pub AreRepliesTo : ℕ → List Entry → List AReply → List Op → Type 0
AreRepliesTo me log [] [] = Unit {0}
AreRepliesTo me log [] (op ∷ ops) = ⊥
AreRepliesTo me log (reply ∷ replies) [] = ⊥
AreRepliesTo me log (reply ∷ replies) (op ∷ ops) = IsReplyTo me log (suc (length replies)) op reply × AreRepliesTo me log replies ops

-- the client accepted the replies to exactly these operations, given oldest first, in their order, and nothing is outstanding
pub record HasAll (shape : Shape) (me : ℕ) (log : List Entry) (ops : List Op) : Type 0 where
  pub none : outstanding shape log ≡ None
  pub replies : AreRepliesTo me log (accepted shape log) (reverse ops)

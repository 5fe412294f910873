-- Which reply the replicas vote for (Schneider 1990: if at most f of the replicas are faulty, an output on which
-- f+1 of them agree is right). Notes are listed newest first.
use Rattle.std.specs.Prelude.{ℕ, ◌==◌, nat_lt, Bool, false, List, [], ◌∷◌, Option, None, Some, if◌then◌else◌}
use Rattle.std.specs.Option.{option_or}
use Rattle.dsr_base.specs.Bits.{count_below}
use Rattle.dsr_ledger.specs.declared.reply.Reply.{Reply}
use Rattle.dsr_quorum.specs.Support.ReplyEquality.{reply_eq}

-- a note that a replica gave a reply
pub record Note : Type 0 where
  pub replica : ℕ
  pub reply : Reply

-- the first reply that a replica gave, the one it votes for whatever it says later
abbrev pub first_of : ℕ → List Note → Option Reply
first_of replica [] = None
first_of replica (note ∷ older) = option_or (first_of replica older) (if note.replica == replica then Some note.reply else None)

-- whether there is a reply and it is this one
abbrev pub is_reply : Reply → Option Reply → Bool
is_reply reply None = false
is_reply reply (Some given) = reply_eq given reply

-- the number of replicas below n that vote for a reply
abbrev pub votes : ℕ → List Note → Reply → ℕ
votes n notes reply = count_below (λ replica. is_reply reply (first_of replica notes)) n

-- the reply that was the first to have more than f votes; none if none has
abbrev pub winner : ℕ → ℕ → List Note → Option Reply
winner f n [] = None
winner f n (note ∷ older) = option_or (winner f n older) (if nat_lt f (votes n (note ∷ older) note.reply) then Some note.reply else None)

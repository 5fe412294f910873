-- What a replica's host has done (this project).
use Rattle.std.specs.Prelude.{◌≡◌, ◌⊎◌, ℕ, suc, ◌+◌, ◌<◌, ◌++◌, List, [], ◌∷◌, Some}
use Rattle.std.specs.Option.{option_map}
use Rattle.dsr_names.specs.Shape.{Shape}
use Rattle.dsr_names.specs.declared.actor.Actor.TheVariants.{Replica, Client}
use Rattle.dsr_request.specs.declared.request.Request.{Request}
use Rattle.dsr_ledger.specs.declared.reply.Reply.{Reply as AReply}
use Rattle.dsr_envelope.specs.declared.entry.Entry.{Entry}
use Rattle.dsr_envelope.specs.declared.entry.Entry.TheVariants.{Post, Take}
use Rattle.dsr_envelope.specs.declared.envelope.Envelope.TheVariants.{Reply}
use Rattle.dsr_envelope.specs.Log.{due, rounds}
use Rattle.dsr_envelope.specs.declared.due.Due.{Due}
use Rattle.dsr_envelope.specs.declared.due.Due.TheVariants.{Post as PostTo, Take as TakeFrom}
use Rattle.dsr_replica.specs.Conduct.{reply_to}
use Rattle.dsr_replica.specs.Held.{held}
use Rattle.dsr_run.specs.Eager.{IsEager}
use Rattle.dsr_boxes.specs.Pass.{Pass}
use Rattle.dsr_mail.specs.Serving.{IsUnanswered}

-- `count` more rounds are closed in the later log
abbrev pub HasClosed : Pass → Pass → ℕ → Type 0
HasClosed earlier later count = rounds later.shape later.log ≡ rounds earlier.shape earlier.log + count

-- the replica owes the client a reply: it has taken something from the client since it last posted to it, and the client's pending request is the one
-- that the reply is for
abbrev pub IsOwed : Shape → List Entry → ℕ → Type 0
IsOwed shape log c = IsUnanswered c log × (request : Request) × (reply : AReply) × (option_map (λ ask. ask.request) (held shape c log) ≡ Some request)
    × (reply_to shape log c ≡ Some (Reply reply)) × (request.number ≡ reply.number)

-- among the entries added to a log, each post to a client went to one then owed its reply
abbrev pub AreOwed : Shape → List Entry → List Entry → Type 0
AreOwed shape base [] = Unit {0}
AreOwed shape base (Post (Client c) envelope ∷ added) = AreOwed shape base added × IsOwed shape (added ++ base) c
AreOwed shape base (Post (Replica q) envelope ∷ added) = AreOwed shape base added
AreOwed shape base (Take from envelope ∷ added) = AreOwed shape base added

-- the later seat goes on from the earlier one, and has posted to clients only what they were owed
pub record AnswersOwed (later earlier : Pass) : Type 0 where
  pub id : later.id ≡ earlier.id
  pub shape : later.shape ≡ earlier.shape
  pub actor : later.actor ≡ earlier.actor
  pub added : List Entry
  pub log : later.log ≡ added ++ earlier.log
  pub owed : AreOwed earlier.shape earlier.log added

-- the later seat goes on from the earlier one as a host does: it has posted to clients only what they were owed, and was eager in its own slots
pub record DoesDuty (later earlier : Pass) : Type 0 where
  pub id : later.id ≡ earlier.id
  pub shape : later.shape ≡ earlier.shape
  pub actor : later.actor ≡ earlier.actor
  pub added : List Entry
  pub log : later.log ≡ added ++ earlier.log
  pub owed : AreOwed earlier.shape earlier.log added
  pub eager : IsEager earlier.shape earlier.actor earlier.log added

-- the same, and the round between replicas has not moved on: the same post or take is due, and as many rounds are closed
pub record KeepsRound (later earlier : Pass) : Type 0 where
  pub duty : DoesDuty later earlier
  pub due : due later.shape later.log ≡ due earlier.shape earlier.log
  pub rounds : rounds later.shape later.log ≡ rounds earlier.shape earlier.log

-- the next post of the round is to replica q; or the round has no post left, and q is n
abbrev pub IsAtPost : ℕ → ℕ → Due → Type 0
IsAtPost n q (PostTo to) = (to ≡ q) × (q < n)
IsAtPost n q (TakeFrom from) = q ≡ n

-- the takes of the round are due
abbrev pub IsTaking : Due → Type 0
IsTaking (PostTo to) = ⊥
IsTaking (TakeFrom from) = Unit {0}

-- the next take is from replica p, with this many rounds closed; or the round has no take left, p is n, and one more round is closed
abbrev pub IsAtTake : Pass → ℕ → ℕ → ℕ → Type 0
IsAtTake seat n p closed =
    ((p < n) × (due seat.shape seat.log ≡ TakeFrom p) × (rounds seat.shape seat.log ≡ closed))
    ⊎ ((p ≡ n) × (rounds seat.shape seat.log ≡ suc closed))

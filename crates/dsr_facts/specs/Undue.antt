-- Why a post or a take is not due (this project).
use Rattle.std.specs.Prelude.{◌≡◌, ℕ, ◌<◌, true, false, List, None, Some, IsSome, slice_get}
use Rattle.dsr_names.specs.Shape.{Shape, sender}
use Rattle.dsr_names.specs.declared.actor.Actor.{Actor}
use Rattle.dsr_names.specs.declared.actor.Actor.TheVariants.{Replica}
use Rattle.dsr_names.specs.Support.ActorEquality.{actor_eq}
use Rattle.dsr_chain.specs.Proper.{sender_of}
use Rattle.dsr_envelope.specs.declared.entry.Entry.{Entry}
use Rattle.dsr_envelope.specs.declared.due.Due.TheVariants.{Post as PostTo}
use Rattle.dsr_envelope.specs.declared.pick.Pick.{Pick}
use Rattle.dsr_envelope.specs.declared.pick.Pick.TheVariants.{From, Begin}
use Rattle.dsr_envelope.specs.Log.{due, rounds}
use Rattle.dsr_replica.specs.Conduct.{is_due}
use Rattle.dsr_replica.specs.Held.{held}
use Rattle.dsr_facts.specs.declared.undue.Undue.{Undue}
use Rattle.dsr_facts.specs.declared.undue.Undue.TheVariants.{First, ChosenBefore, OtherSender, NothingHeld, BeginsNothing}

-- the client is the first of these whose ask the replica does not hold
pub record IsFirstUnheld (shape : Shape) (log : List Entry) (clients : List ℕ) (client : ℕ) : Type 0 where
  pub place : ℕ
  pub at : slice_get clients place ≡ Some client
  pub none : held shape client log ≡ None
  pub before : (i c : ℕ) → i < place → slice_get clients i ≡ Some c → IsSome (held shape c log)

-- why a loyal replica with this log does not post to this replica by this choice. First: something else is due with the replicas.
-- Otherwise the post is due, and the choice is not allowed there: a replica begins no request; or what is proposed was chosen at the post
-- to replica 0; or the slot that begins with the round, the one with its number, has another sender; or it is the sender, and this
-- client is the first of the chosen ones whose ask it does not hold
abbrev pub IsUndueRound : Shape → Actor → List Entry → ℕ → Pick → Undue → Type 0
IsUndueRound shape me log q pick (First next) = (due shape log ≡ next) × (is_due next q ≡ false)
IsUndueRound shape me log q (Begin op) BeginsNothing = due shape log ≡ PostTo q
IsUndueRound shape me log q (From clients) ChosenBefore = (due shape log ≡ PostTo q) × (0 < q)
IsUndueRound shape me log q (From clients) (OtherSender slot other) =
    (due shape log ≡ PostTo q) × (q ≡ 0) × (slot ≡ rounds shape log) × (other ≡ sender shape slot) × (actor_eq me (Replica other) ≡ false)
IsUndueRound shape me log q (From clients) (NothingHeld client) =
    (due shape log ≡ PostTo q) × (q ≡ 0) × (actor_eq me (sender_of shape (rounds shape log)) ≡ true) × IsFirstUnheld shape log clients client
IsUndueRound shape me log q pick why = ⊥

-- What ends a client's call before it has a reply (this project).
use Rattle.std.specs.Prelude.{◌≡◌, ◌⊎◌, Some}
use Rattle.dsr_names.specs.declared.actor.Actor.{Actor}
use Rattle.dsr_names.specs.declared.refusal.Refusal.{Refusal}
use Rattle.dsr_names.specs.declared.refusal.Refusal.TheVariants.{Exhausted, Unanswered, NoMemory}
use Rattle.dsr_envelope.specs.declared.envelope.Envelope.{Envelope}
use Rattle.dsr_envelope.specs.declared.pick.Pick.{Pick}
use Rattle.dsr_node.specs.Conduct.{post_of}
use Rattle.dsr_boxes.specs.Pass.{Pass}
use Rattle.dsr_mail.specs.Refusals.{post_refused}

-- a counter is at its limit: a due post would pass the limit, and the seat's own log refuses that post for this reason
pub record IsExhausted (seat : Pass) : Type 0 where
  pub to : Actor
  pub pick : Pick
  pub envelope : Envelope
  pub due : post_of seat.shape seat.log seat.actor to pick ≡ Some envelope
  pub past : post_refused seat.shape seat.actor seat.log to pick ≡ Some Exhausted

-- what ends a call: a counter is at its limit, the turns ran out, or memory ran out
abbrev pub CallRefusal : Pass → Refusal → Type 0
CallRefusal seat refusal = ((refusal ≡ Exhausted) × IsExhausted seat) ⊎ ((refusal ≡ Unanswered) ⊎ (refusal ≡ NoMemory))

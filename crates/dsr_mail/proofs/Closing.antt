-- What the logs of a closed mail are.
use Rattle.std.proofs.Common.{◌≡◌, List, ◌++◌, reverse, inl, inr}
use Rattle.std.proofs.lemmas.List.{reverse-reverse}
use Rattle.dsr_base.proofs.MemberLemmas.{In-append_cases}
use Rattle.dsr_base.specs.Member.{In}
use Rattle.dsr_names.specs.Shape.{Shape}
use Rattle.dsr_envelope.specs.declared.entry.Entry.{Entry}
use Rattle.dsr_boxes.specs.Pass.{Pass}
use Rattle.dsr_mail.specs.Leaving.{IsLogged}
use Rattle.dsr_mail.specs.Logs.{Logs, logs_of}
use Rattle.dsr_mail.proofs.Clearing.{actor_decides}

-- each seat's log is its actor's
pub own_logs : (closed : Logs) (shape : Shape) (logs : List (List Entry)) (replicas traitors clients : List Pass) → closed.shape ≡ shape
    → closed.lists ≡ reverse logs → ((seat : Pass) → In seat replicas → IsLogged shape logs seat)
    → ((seat : Pass) → In seat traitors → IsLogged shape logs seat) → ((seat : Pass) → In seat clients → IsLogged shape logs seat)
    → (seat : Pass) → In seat (replicas ++ (traitors ++ clients)) → logs_of closed seat.actor ≡ seat.log
own_logs closed shape logs replicas traitors clients same lists of_replicas of_traitors of_clients seat inside =
    rw (same, lists, (actor_decides shape seat.actor).1 is.actor, reverse-reverse logs) is.log
  where
    is : IsLogged shape logs seat
    is = elim (In-append_cases seat replicas (traitors ++ clients) inside) [
      | inl replica ↦ of_replicas seat replica
      | inr other ↦ elim (In-append_cases seat traitors clients other) [
        | inl traitor ↦ of_traitors seat traitor
        | inr client ↦ of_clients seat client
      ]
    ]

-- What the logs of all actors say together (Schneider 1990: equal machines that process the same requests in the same order).
use Rattle.std.specs.Prelude.{ℕ, zero, suc, nat_lt, List, [], length, map, if◌then◌else◌}
use Rattle.dsr_names.specs.Shape.{Shape, is_traitor}
use Rattle.dsr_names.specs.declared.actor.Actor.TheVariants.{Replica, Client}
use Rattle.dsr_request.specs.Request.{Request}
use Rattle.dsr_ledger.specs.declared.reply.Reply.{Reply}
use Rattle.dsr_history.specs.History.{acted}
use Rattle.dsr_chain.specs.Content.{requests_in}
use Rattle.dsr_chain.specs.declared.slot_value.SlotValue.{SlotValue}
use Rattle.dsr_replica.specs.Decided.{decided_values}
use Rattle.dsr_client.specs.State.{accepted, seen}
use Rattle.dsr_run.specs.Step.{Logs}

-- the replies that a client accepted, the latest first
abbrev pub accepted_by : Shape → Logs → ℕ → List Reply
accepted_by shape logs client = accepted shape (logs (Client client))

-- a client's seen front
abbrev pub seen_by : Shape → Logs → ℕ → ℕ
seen_by shape logs client = seen shape (logs (Client client))

-- the values that a replica decided, one for each closed slot, the latest first
abbrev pub decided_at : Shape → Logs → ℕ → List SlotValue
decided_at shape logs replica = decided_values shape (logs (Replica replica))

-- the longer one of two lists
abbrev pub longer : {A : Type 0} → List A → List A → List A
longer xs ys = if nat_lt (length ys) (length xs) then xs else ys

-- the values decided by the loyal replica below this number with the most closed slots; none if all of them are traitors
abbrev pub most_decided : Shape → Logs → ℕ → List SlotValue
most_decided shape logs zero = []
most_decided shape logs (suc p) =
    if is_traitor shape p then most_decided shape logs p else longer (decided_at shape logs p) (most_decided shape logs p)

-- the history: the requests that acted, at the loyal replica with the most closed slots; the latest first
abbrev pub history : Shape → Logs → List Request
history shape logs = acted (map requests_in (most_decided shape logs shape.n))

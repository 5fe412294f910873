-- After how many closed rounds a request that an eager loyal replica holds has acted, and what then answers its client (this project).
use Rattle.std.specs.Prelude.{◌≡◌, ℕ, ◌+◌, ◌*◌, ◌<◌, ◌≤◌, List, ◌++◌, Some, length}
use Rattle.std.specs.Int.{div_ceil}
use Rattle.dsr_base.specs.Member.{In}
use Rattle.dsr_names.specs.Shape.{Shape, IsLoyal}
use Rattle.dsr_names.specs.declared.actor.Actor.TheVariants.{Replica, Client}
use Rattle.dsr_request.specs.Request.{Request}
use Rattle.dsr_history.specs.History.{acted}
use Rattle.dsr_chain.specs.declared.signed_request.SignedRequest.{SignedRequest}
use Rattle.dsr_envelope.specs.declared.entry.Entry.{Entry}
use Rattle.dsr_envelope.specs.Log.{posted_to, taken_from, rounds}
use Rattle.dsr_replica.specs.Decided.{decided_requests}
use Rattle.dsr_replica.specs.Held.{held}
use Rattle.dsr_run.specs.Eager.{IsEager}
use Rattle.dsr_run.specs.Run.{IsRun}
use Rattle.dsr_run.specs.Step.{Step, Logs, log_of}

-- an eager replica holds the ask since it closed t rounds: at some moment a loyal replica has closed t rounds and holds this ask of the
-- ask's client, and from then on it is eager
pub record IsHeldEagerly (shape : Shape) (logs : Logs) (ask : SignedRequest) (t : ℕ) : Type 0 where
  pub replica : ℕ
  pub loyal : IsLoyal shape (Replica replica)
  pub added : List Entry
  pub base : List Entry
  pub parts : logs (Replica replica) ≡ added ++ base
  pub round : rounds shape base ≡ t
  pub holds : held shape ask.request.client base ≡ Some ask
  pub eager : IsEager shape (Replica replica) base added

-- in how many slots of its own an eager replica proposes each of m clients that wait, 8 clients in a slot
abbrev pub turns : ℕ → ℕ
turns m = div_ceil m 8

-- how many rounds it takes at most until a request that an eager loyal replica holds has acted: the replica's next slot begins at most n
-- rounds later, and so does each further one of its turns; and the last of them takes f+1 rounds to close
abbrev pub rounds_to_act : Shape → ℕ
rounds_to_act shape = shape.n * turns shape.m + shape.f + 1

-- the request has acted at the replica of this log: it is in what this one has processed
abbrev pub HasActed : Shape → List Entry → Request → Type 0
HasActed shape log request = In request (acted (decided_requests shape log))

-- in each run of the shape, a request that an eager loyal replica holds since it closed t rounds has acted at each loyal replica that
-- has closed t + count rounds
abbrev pub ActsWithin : Shape → ℕ → Type 0
ActsWithin shape count = (run : List Step) → IsRun shape run → (ask : SignedRequest) (t : ℕ) → IsHeldEagerly shape (log_of run) ask t
    → (q : ℕ) → IsLoyal shape (Replica q) → t + count ≤ rounds shape (log_of run (Replica q)) → HasActed shape (log_of run (Replica q)) ask.request

-- since these earlier logs the client has taken an envelope that the replica posted since then: it has taken more envelopes from the
-- replica than the replica posted to it by then
abbrev pub TookSince : Logs → Logs → ℕ → ℕ → Type 0
TookSince logs earlier client replica =
    length (posted_to (Client client) (earlier (Replica replica))) < length (taken_from (Replica replica) (logs (Client client)))

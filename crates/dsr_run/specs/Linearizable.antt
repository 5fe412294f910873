-- Linearizable runs (Herlihy and Wing 1990): each request that has a response seems to act at one instant between its invocation and its
-- response. What seems to have happened stays so, whatever comes later (strong linearizability: Golab, Higham and Woelfel 2011).
use Rattle.std.specs.Prelude.{◌≡◌, ℕ, List, ◌∷◌, ◌++◌}
use Rattle.dsr_base.specs.Growth.{Extends}
use Rattle.dsr_base.specs.Member.{In}
use Rattle.dsr_names.specs.Shape.{Shape}
use Rattle.dsr_names.specs.declared.actor.Actor.{Actor}
use Rattle.dsr_names.specs.declared.actor.Actor.TheVariants.{Replica, Client}
use Rattle.dsr_request.specs.Request.{Request}
use Rattle.dsr_ledger.specs.declared.reply.Reply.{Reply}
use Rattle.dsr_history.specs.History.{StandsAt, IsLegal}
use Rattle.dsr_chain.specs.declared.signed_request.SignedRequest.{SignedRequest}
use Rattle.dsr_envelope.specs.declared.envelope.Envelope.TheVariants.{Ask}
use Rattle.dsr_envelope.specs.declared.entry.Entry.TheVariants.{Post}
use Rattle.dsr_client.specs.State.{accepted}
use Rattle.dsr_run.specs.Run.{IsRun}
use Rattle.dsr_run.specs.Step.{Step, Logs, log_of}

-- the request is invoked: its client has asked a replica for it
pub record IsInvoked (logs : Logs) (request : Request) : Type 0 where
  pub replica : ℕ
  pub ask : SignedRequest
  pub posted : In (Post (Replica replica) (Ask ask)) (logs (Client request.client))
  pub is : ask.request ≡ request

-- the request, which is invoked, has this response: its client has accepted this reply to it
pub record HasResponse (shape : Shape) (logs : Logs) (request : Request) (reply : Reply) : Type 0 where
  pub invoked : IsInvoked logs request
  pub accepted : In reply (accepted shape (logs (Client request.client)))
  pub number : reply.number ≡ request.number

-- real time (Herlihy and Wing 1990): at some moment of the run the first request has a response and the second is not yet invoked
pub record Precedes (shape : Shape) (run : List Step) (first second : Request) : Type 0 where
  pub moment : List Step
  pub past : Extends run moment
  pub reply : Reply
  pub response : HasResponse shape (log_of moment) first reply
  pub not_yet : ¬ IsInvoked (log_of moment) second

-- an order of requests, newest first, linearizes the run (Herlihy and Wing 1990): each request in it was invoked; the numbers of each
-- client rise in it, so none is in it twice; each request that has a response is in it, at the reply's place, with the answer of one
-- directory that processes these requests one after another; and all that precede a request in real time are before it
pub record IsLinearization (shape : Shape) (run : List Step) (order : List Request) : Type 0 where
  pub invoked : (request : Request) → In request order → IsInvoked (log_of run) request
  pub in_turn : IsLegal order
  pub answered : (request : Request) (reply : Reply) → HasResponse shape (log_of run) request reply → StandsAt order reply.place request reply.answer
  pub real_time : (first second : Request) → Precedes shape run first second → (newer older : List Request) → order ≡ newer ++ second ∷ older
      → In first older

-- a run is linearizable: some order linearizes it
abbrev pub IsLinearizable : Shape → List Step → Type 0
IsLinearizable shape run = (order : List Request) × IsLinearization shape run order

-- runs of the shape are strongly linearizable (Golab, Higham and Woelfel 2011): one function gives each run an order that linearizes
-- it, and if a run extends another, its order extends the order of that one by newer requests
pub record AreStronglyLinearizable (shape : Shape) : Type 0 where
  pub order : List Step → List Request
  pub each : (run : List Step) → IsRun shape run → IsLinearization shape run (order run)
  pub grows : (run earlier : List Step) → IsRun shape run → Extends run earlier → Extends (order run) (order earlier)

-- an order linearizes logs if it linearizes every run that has these logs, whatever the order of its steps (this project)
abbrev pub LinearizesLogs : Shape → Logs → List Request → Type 0
LinearizesLogs shape logs order = (run : List Step) → IsRun shape run → ((a : Actor) → log_of run a ≡ logs a) → IsLinearization shape run order

-- Moments order requests in real time.
use Rattle.std.proofs.Common.{◌≡◌, ◌<◌, List, sym, subst}
use Rattle.dsr_base.specs.Growth.{Extends}
use Rattle.dsr_base.specs.Member.{In}
use Rattle.dsr_base.proofs.MemberLemmas.{In-append_right}
use Rattle.dsr_names.specs.Shape.{Shape, HasFewTraitors}
use Rattle.dsr_names.specs.declared.actor.Actor.{Actor}
use Rattle.dsr_names.specs.declared.actor.Actor.TheVariants.{Client}
use Rattle.dsr_ledger.specs.declared.reply.Reply.{Reply}
use Rattle.dsr_request.specs.Request.{Request}
use Rattle.dsr_chain.specs.declared.signed_request.SignedRequest.{SignedRequest}
use Rattle.dsr_client.specs.Accepted.{WasPosted}
use Rattle.dsr_envelope.specs.declared.entry.Entry.{Entry}
use Rattle.dsr_run.specs.Linearizable.{HasResponse, IsInvoked, Precedes}
use Rattle.dsr_run.specs.Run.{IsRun}
use Rattle.dsr_run.specs.Step.{Step, Logs, log_of}
use Rattle.dsr_run.proofs.Lemmas.{logs_grew, logs_places_rise}
use Rattle.dsr_boxes.specs.Moment.{AreLogsAfter}

-- what the log does not show now was not invoked at the past moment
not_yet : (past : List Step) (own : List Entry) (request : Request) → Extends own (log_of past (Client request.client)) → ((ask : SignedRequest) → ask.request ≡ request → ¬ WasPosted own ask)
    → ¬ IsInvoked (log_of past) request
not_yet past own request grown not_asked invoked = not_asked invoked.ask invoked.is (record {
  replica = invoked.replica;
  posted = subst (In _) (sym grown.1) (In-append_right _ grown.0 (log_of past (Client request.client)) invoked.posted);
})

module _ (shape : Shape) (past : List Step) (logs : Logs) (own : List Entry) (first second : Request) (reply : Reply) where
  pub precedes : HasResponse shape (log_of past) first reply → Extends own (log_of past (Client second.client)) → ((ask : SignedRequest) → ask.request ≡ second → ¬ WasPosted own ask)
      → (after : AreLogsAfter shape past logs) → Precedes shape after.run first second
  precedes response grown not_asked after =
      record { moment = past; past = after.grown; reply = reply; response = response; not_yet = not_yet past own second grown not_asked }

  pub places_rise_after : (later : Reply) → HasFewTraitors shape → IsRun shape past → HasResponse shape (log_of past) first reply
      → Extends own (log_of past (Client second.client)) → ((ask : SignedRequest) → ask.request ≡ second → ¬ WasPosted own ask) → AreLogsAfter shape past logs → HasResponse shape logs second later
      → reply.place < later.place
  places_rise_after later few is response grown not_asked after answered =
      logs_places_rise shape few logs (log_of past) (record { run = after.run; is = after.is; each = after.each }) (record { run = past; is = is; each = λ a. refl_of a })
      first second reply later (λ a. subst (λ l. Extends l (log_of past a)) (after.each a) (logs_grew after.run past after.grown a)) response
      (not_yet past own second grown not_asked) answered
    where
      refl_of : (a : Actor) → log_of past a ≡ log_of past a
      refl_of a = λ i. log_of past a

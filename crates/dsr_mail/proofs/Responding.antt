-- What a client has received by its own log has its response in all logs among which this log is.
use Rattle.std.proofs.Common.{◌≡◌, ℕ, List, refl, ap, sym, ◌∙◌}
use Rattle.dsr_base.specs.Member.{In}
use Rattle.dsr_names.specs.Shape.{Shape}
use Rattle.dsr_names.specs.declared.actor.Actor.{Actor}
use Rattle.dsr_names.specs.declared.actor.Actor.TheVariants.{Client}
use Rattle.dsr_request.specs.Request.{Request}
use Rattle.dsr_ledger.specs.declared.reply.Reply.{Reply}
use Rattle.dsr_envelope.specs.declared.entry.Entry.{Entry}
use Rattle.dsr_client.specs.Conduct.{IsClientLog}
use Rattle.dsr_client.specs.State.{accepted}
use Rattle.dsr_client.proofs.Lemmas.{accepted_posted, numbered}
use Rattle.dsr_run.specs.Linearizable.{HasResponse}
use Rattle.dsr_run.specs.Step.{Logs}
use Rattle.dsr_mail.specs.Responses.{HasReceived}

module _ (shape : Shape) (logs : Logs) (me : Actor) (log : List Entry) (own : logs me ≡ log) where
  -- what is received has its response
  pub responds : (request : Request) (reply : Reply) → me ≡ Client request.client → HasReceived shape log request reply
      → HasResponse shape logs request reply
  responds request reply is h = record {
    invoked = record { replica = h.invoked.2.replica; ask = h.invoked.0; posted = rw (← is, own) h.invoked.2.posted; is = h.invoked.1 };
    accepted = rw (← is, own) h.accepted;
    number = h.number;
  }

  -- so each reply that is accepted is the response to some request of the client
  pub answers : (c : ℕ) → me ≡ Client c → IsClientLog shape c log → (reply : Reply) → In reply (accepted shape log)
      → (request : Request) × (me ≡ Client request.client) × HasResponse shape logs request reply
  answers c is conduct reply inside =
      let asked = accepted_posted shape log reply inside in
      let its_own = ((numbered shape c log conduct).posted asked.1.replica asked.0 asked.1.posted).0 in
      let client : me ≡ Client asked.0.request.client = is ∙ ap (λ z. Client z.request.client) its_own.is in
      (asked.0.request, client, responds asked.0.request reply client (record { invoked = (asked.0, refl, asked.1); accepted = inside; number = sym asked.2 }))

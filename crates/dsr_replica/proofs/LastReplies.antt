-- The last request of each client that acted has a reply.
use Rattle.std.proofs.Common.{◌≡◌, ◌≢◌, ℕ, ◌≤◌, List, None, Some, ap, ◌∙◌}
use Rattle.std.specs.Option.{option_map}
use Rattle.dsr_base.specs.Member.{In}
use Rattle.dsr_names.specs.Shape.{Shape}
use Rattle.dsr_request.specs.Request.{Request}
use Rattle.dsr_request.specs.declared.answer.Answer.{Answer}
use Rattle.dsr_ledger.specs.declared.reply.Reply.{Reply as AReply}
use Rattle.dsr_history.specs.History.{acted, requests_of, StandsAt, IsReplyTo}
use Rattle.dsr_history.proofs.Lemmas.{legal_acting, reply_stands, reply_some, reply_last, reply_none}
use Rattle.dsr_envelope.specs.declared.envelope.Envelope.TheVariants.{Reply}
use Rattle.dsr_envelope.specs.declared.entry.Entry.{Entry}
use Rattle.dsr_replica.specs.Conduct.{reply_to}
use Rattle.dsr_replica.specs.Decided.{decided_requests}
use Rattle.dsr_replica.proofs.Saying.{reply_made}

module _ (shape : Shape) (log : List Entry) where
  -- a request that acted is replied to, or a later one of its client is
  pub acted_replied : (r : Request) → In r (acted (decided_requests shape log))
      → (reply : AReply) × (reply_to shape log r.client ≡ Some (Reply reply)) × IsReplyTo (acted (decided_requests shape log)) r.client reply × (r.number ≤ reply.number)
  acted_replied r inside =
      let history = acted (decided_requests shape log) in
      let h = reply_some history (legal_acting (requests_of (decided_requests shape log))) r inside in
      (h.reply, reply_made shape log r.client ∙ ap (option_map Reply) h.is, reply_stands history r.client h.reply h.is, h.most)

  -- the last of its client is
  pub last_replied : (place : ℕ) (r : Request) (answer : Answer) → (stands : StandsAt (acted (decided_requests shape log)) place r answer)
      → ((q : Request) → In q stands.newer → q.client ≢ r.client)
      → reply_to shape log r.client ≡ Some (Reply (record { number = r.number; place = place; answer = answer }))
  last_replied place r answer stands none =
      reply_made shape log r.client ∙ ap (option_map Reply) (reply_last (acted (decided_requests shape log)) place r answer stands none)

  -- a client without a request that acted has no reply
  pub none_replied : (client : ℕ) → ((r : Request) → In r (acted (decided_requests shape log)) → r.client ≢ client) → reply_to shape log client ≡ None
  none_replied client none = reply_made shape log client ∙ ap (option_map Reply) (reply_none (acted (decided_requests shape log)) client none)

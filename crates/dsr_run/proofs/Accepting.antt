-- What clients accept is in the history: the reply of a loyal replica is behind it, and the request is one that its client posted.
use Rattle.std.proofs.Common.{◌≡◌, ℕ, ◌<◌, List, ◌∷◌, length, length-append, inl, inr, refl, ap, sym, subst, arith}
use Rattle.dsr_base.specs.Member.{In, here}
use Rattle.dsr_base.proofs.MemberLemmas.{In-append_right}
use Rattle.dsr_names.specs.Shape.{Shape, IsLoyal, HasFewTraitors}
use Rattle.dsr_names.specs.declared.actor.Actor.TheVariants.{Replica, Client}
use Rattle.dsr_request.specs.Request.{Request}
use Rattle.dsr_request.specs.declared.answer.Answer.{Answer}
use Rattle.dsr_ledger.specs.declared.reply.Reply.{Reply as AReply}
use Rattle.dsr_history.specs.History.{acted, StandsAt, IsReplyTo}
use Rattle.dsr_desk.specs.Signature.{signed}
use Rattle.dsr_desk.specs.declared.statement.Statement.TheVariants.{Ask as OnAsk}
use Rattle.dsr_chain.specs.Proper.{IsAsked}
use Rattle.dsr_chain.specs.declared.signed_request.SignedRequest.{SignedRequest}
use Rattle.dsr_envelope.specs.declared.envelope.Envelope.TheVariants.{Ask, Reply}
use Rattle.dsr_envelope.specs.declared.entry.Entry.{Entry}
use Rattle.dsr_envelope.specs.declared.entry.Entry.TheVariants.{Post, Take}
use Rattle.dsr_replica.specs.Decided.{decided_requests}
use Rattle.dsr_replica.specs.Posts.{WasTaken as HasTaken}
use Rattle.dsr_replica.proofs.Lemmas.{acted_source, reply_later, replied}
use Rattle.dsr_client.proofs.Lemmas.{loyal_gave, client_posted}
use Rattle.dsr_run.specs.History.{accepted_by, history}
use Rattle.dsr_run.specs.Run.{IsRun, IsMadeOrPosted}
use Rattle.dsr_run.specs.Step.{Step, log_of}
use Rattle.dsr_run.proofs.Boxes.{taken_was_posted}
use Rattle.dsr_run.proofs.Forging.{all_made}
use Rattle.dsr_run.proofs.Histories.{history_is, history_extends}
use Rattle.dsr_run.proofs.Logs.{log_loyal, log_client}

-- the client posted this request
pub record WasPosted (log : List Entry) (q : Request) : Type 0 where
  pub to : ℕ
  pub ask : SignedRequest
  pub posted : In (Post (Replica to) (Ask ask)) log
  pub is : ask.request ≡ q

-- what is at a place of the history is in it
pub stands_in : (h : List Request) (place : ℕ) (q : Request) (answer : Answer) → StandsAt h place q answer → In q h
stands_in h place q answer s = subst (In q) (sym s.parts) (In-append_right q s.newer (q ∷ s.older) (here refl))

-- and its place is below the history's length
pub stands_below : (h : List Request) (place : ℕ) (q : Request) (answer : Answer) → StandsAt h place q answer → place < length h
stands_below h place q answer s = omega (arith, s.place_is, ap length s.parts, length-append s.newer (q ∷ s.older))

same_ask : (a b : Request) → OnAsk a ≡ OnAsk b → a ≡ b
same_ask a b e = cc

module _ (shape : Shape) (run : List Step) (is : IsRun shape run) where
  -- a client's signature that was taken is on a request that this client posted
  signed_posted : (p : ℕ) (s : SignedRequest) → IsAsked shape s → HasTaken (log_of run (Replica p)) s.signature
      → WasPosted (log_of run (Client s.request.client)) s.request
  signed_posted p s asked taken =
      elim (subst (λ z. IsMadeOrPosted shape (log_of run) z) asked.signature
      (all_made shape run is (Replica p) (Take taken.from taken.envelope) taken.taken s.signature taken.carried)) [
        | inl traitor ↦ elim traitor [ ]
        | inr posted ↦
            let own = client_posted shape s.request.client (log_of run (Client s.request.client)) (log_client shape s.request.client run is)
            posted.to posted.envelope posted.posted (signed (Client s.request.client) (OnAsk s.request)) posted.carried in
            let same = same_ask own.ask.request s.request (ap (λ z. z.statement) own.own) in
            record { to = own.to; ask = own.ask; posted = own.posted; is = same }
      ]

  -- each request of the history was posted by its client
  pub history_posted : (q : Request) → In q (history shape (log_of run)) → WasPosted (log_of run (Client q.client)) q
  history_posted q h = elim (history_is shape (log_of run)) [
    | inl none ↦ elim (subst (In q) none h) [ ]
    | inr some ↦
        let source = acted_source shape (log_of run (Replica some.0)) q (subst (In q) some.2 h) in
        subst (λ r. WasPosted (log_of run (Client r.client)) r) source.1 (signed_posted some.0 source.0 source.2 source.3)
  ]

  -- what a loyal replica replied and the client took is in the history
  pub reply_right : HasFewTraitors shape → (c p : ℕ) → IsLoyal shape (Replica p) → (r : AReply)
      → In (Take (Replica p) (Reply r)) (log_of run (Client c)) → IsReplyTo (history shape (log_of run)) c r
  reply_right few c p loyal r taken =
      let posted = taken_was_posted shape run is (Replica p) (Client c) (Reply r) taken in
      let own = replied shape (Replica p) (omega (arith, loyal.0)) (log_of run (Replica p)) (log_loyal shape p loyal.1 run is) c r posted in
      reply_later (history shape (log_of run)) (acted (decided_requests shape (log_of run (Replica p)))) c r
      (history_extends shape few run is p loyal) own

  -- so is what a client accepted
  pub accepted_right : HasFewTraitors shape → (c : ℕ) (r : AReply) → In r (accepted_by shape (log_of run) c)
      → IsReplyTo (history shape (log_of run)) c r
  accepted_right few c r h =
      let gave = loyal_gave shape (log_of run (Client c)) r few h in
      reply_right few c gave.0 gave.1 r
      (subst (In (Take (Replica gave.0) (Reply r))) (sym gave.2.parts)
      (In-append_right (Take (Replica gave.0) (Reply r)) gave.2.newer (Take (Replica gave.0) (Reply r) ∷ gave.2.older) (here refl)))

-- If a request of a client has been reached, it has acted itself: a client asks for a next request only once it has accepted a reply to
-- the one before, and that one is in the history by then.
use Rattle.std.proofs.Common.{◌≡◌, ℕ, ◌<◌, ◌≤◌, List, [], ◌∷◌, ◌++◌, length, inl, inr, ap, sym, ◌∙◌, subst, arith}
use Rattle.std.proofs.lemmas.Bool.{cases_lt}
use Rattle.dsr_base.specs.Member.{In, here, there}
use Rattle.dsr_base.proofs.MemberLemmas.{In-append_right, In-append_cases}
use Rattle.dsr_names.specs.Shape.{Shape, HasFewTraitors, IsLoyal}
use Rattle.dsr_names.specs.declared.actor.Actor.TheVariants.{Replica, Client}
use Rattle.dsr_request.specs.Request.{Request}
use Rattle.dsr_history.specs.History.{acted, IsLegal}
use Rattle.dsr_history.proofs.Lemmas.{reply_stands}
use Rattle.dsr_chain.specs.declared.signed_request.SignedRequest.{SignedRequest}
use Rattle.dsr_envelope.specs.declared.envelope.Envelope.TheVariants.{Ask}
use Rattle.dsr_envelope.specs.declared.entry.Entry.TheVariants.{Post}
use Rattle.dsr_replica.specs.Decided.{decided_requests}
use Rattle.dsr_client.specs.State.{state_after}
use Rattle.dsr_client.proofs.Lemmas.{IsNumbered, numbered, accepted_numbered}
use Rattle.dsr_run.specs.Answered.{HasActed}
use Rattle.dsr_run.specs.History.{accepted_by, history}
use Rattle.dsr_run.specs.Run.{IsRun}
use Rattle.dsr_run.specs.Step.{Step, log_of}
use Rattle.dsr_run.proofs.Accepting.{stands_in, history_posted, accepted_right}
use Rattle.dsr_run.proofs.Histories.{history_extends, history_legal}
use Rattle.dsr_run.proofs.Logs.{log_client}
use Rattle.dsr_run.proofs.Numbering.{has_numbers}
use Rattle.dsr_run.proofs.Reaching.{IsReached}
use Rattle.dsr_run.proofs.Within.{posted_within}

-- of two requests of a client in a history the newer one has the greater number
newer_greater : (newer older : List Request) → IsLegal (newer ++ older) → (s r : Request) → In s newer → In r older → r.client ≡ s.client
    → r.number < s.number
newer_greater [] older legal s r inside h client = elim inside [ ]
newer_greater (x ∷ newer) older legal s r (here e) h client =
    subst (λ z. r.client ≡ z.client → r.number < z.number) e (λ same. legal.0 r (In-append_right r newer older h) same) client
newer_greater (x ∷ newer) older legal s r (there later) h client = newer_greater newer older legal.1 s r later h client

module _ (shape : Shape) (few : HasFewTraitors shape) (run : List Step) (is : IsRun shape run) (ask : SignedRequest) (p : ℕ)
    (asked : In (Post (Replica p) (Ask ask)) (log_of run (Client ask.request.client))) where
  abbrev c : ℕ
  c = ask.request.client

  are : IsNumbered ask.request.client (log_of run (Client ask.request.client)) (state_after shape (log_of run (Client ask.request.client)))
  are = numbered shape c (log_of run (Client c)) (log_client shape c run is)

  -- the client's request with this number in the history is the one that was asked
  is_asked : (r : Request) → In r (history shape (log_of run)) → r.client ≡ ask.request.client → r.number ≡ ask.request.number → r ≡ ask.request
  is_asked r inside client number =
      let posted = history_posted shape run is r inside in
      let own = subst (λ d. In (Post (Replica posted.to) (Ask posted.ask)) (log_of run (Client d))) client posted.posted in
      let same = are.once posted.to p posted.ask ask own asked (ap (λ (z : Request). z.number) posted.is ∙ number) in
      sym posted.is ∙ ap (λ (s : SignedRequest). s.request) same

  -- a later request of the client is in it only if this one was answered
  was_answered : (r : Request) → In r (history shape (log_of run)) → r.client ≡ ask.request.client → ask.request.number < r.number
      → ask.request.number ≤ length (accepted_by shape (log_of run) ask.request.client)
  was_answered r inside client later =
      let posted = history_posted shape run is r inside in
      let own = subst (λ d. In (Post (Replica posted.to) (Ask posted.ask)) (log_of run (Client d))) client posted.posted in
      let number = ap (λ (z : Request). z.number) posted.is in
      elim (are.posted posted.to posted.ask own).1 [
        | inl low ↦ omega (arith, low, number, later)
        | inr current ↦ let next = (are.next posted.ask current).0 in omega (arith, next, number, later)
      ]

  -- what was answered is in the history
  answered_stands : ask.request.number ≤ length (accepted_by shape (log_of run) ask.request.client) → In ask.request (history shape (log_of run))
  answered_stands within =
      let some = (posted_within shape run is (Client c) (Replica p) (Ask ask) asked).request.some_number in
      let reply = has_numbers (accepted_by shape (log_of run) c) (accepted_numbered shape c (log_of run (Client c)) (log_client shape c run is))
      ask.request.number some within in
      let right = accepted_right shape run is few c reply.0 reply.1 in
      let stands = stands_in (history shape (log_of run)) reply.0.place right.request reply.0.answer right.stands in
      subst (λ r. In r (history shape (log_of run))) (is_asked right.request stands right.client_is (right.number_is ∙ reply.2)) stands

  -- if the number of the client's last request is not smaller, this one has acted
  pub acted_itself : (q : ℕ) → IsLoyal shape (Replica q) → IsReached shape (log_of run (Replica q)) ask.request.client ask.request.number
      → HasActed shape (log_of run (Replica q)) ask.request
  acted_itself q loyal h =
      let mine = acted (decided_requests shape (log_of run (Replica q))) in
      let right = reply_stands mine c h.last h.is in
      let stands = stands_in mine h.last.place right.request h.last.answer right.stands in
      let grown = history_extends shape few run is q loyal in
      let whole = subst (In right.request) (sym grown.1) (In-append_right right.request grown.0 mine stands) in
      let reaches = h.reaches in
      let number = right.number_is in
      elim (cases_lt ask.request.number right.request.number) [
        | inl later ↦ elim (In-append_cases ask.request grown.0 mine
            (subst (In ask.request) grown.1 (answered_stands (was_answered right.request whole right.client_is later)))) [
              | inl newer ↦
                  let less = newer_greater grown.0 mine (subst IsLegal grown.1 (history_legal shape (log_of run))) ask.request right.request newer stands
                  right.client_is in
                  absurd (omega (arith, less, later))
              | inr inside ↦ inside
            ]
        | inr same ↦ subst (λ r. In r mine) (is_asked right.request whole right.client_is (omega (arith, same, reaches, number))) stands
      ]

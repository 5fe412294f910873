-- The history linearizes its run: what has a response is in it, and what is not yet invoked is not.
use Rattle.std.proofs.Common.{◌≡◌, ◌<◌, List, [], ◌∷◌, ◌++◌, length, inl, inr, refl, ap, sym, ◌∙◌, subst, append_assoc, arith}
use Rattle.std.proofs.lemmas.Bool.{cases_lt}
use Rattle.dsr_base.specs.Growth.{Extends}
use Rattle.dsr_base.specs.Member.{In, here}
use Rattle.dsr_base.proofs.MemberLemmas.{In-append_right}
use Rattle.dsr_names.specs.Shape.{Shape, HasFewTraitors}
use Rattle.dsr_names.specs.declared.actor.Actor.{Actor}
use Rattle.dsr_names.specs.declared.actor.Actor.TheVariants.{Replica, Client}
use Rattle.dsr_request.specs.Request.{Request}
use Rattle.dsr_ledger.specs.declared.reply.Reply.{Reply}
use Rattle.dsr_history.specs.History.{StandsAt}
use Rattle.dsr_history.proofs.Lemmas.{In-stands, stands_later, stood_before, stands_once}
use Rattle.dsr_envelope.specs.declared.envelope.Envelope.TheVariants.{Ask}
use Rattle.dsr_envelope.specs.declared.entry.Entry.{Entry}
use Rattle.dsr_envelope.specs.declared.entry.Entry.TheVariants.{Post}
use Rattle.dsr_client.specs.State.{accepted}
use Rattle.dsr_client.proofs.Lemmas.{accepted_grow, numbered}
use Rattle.dsr_run.specs.History.{history}
use Rattle.dsr_run.specs.Linearizable.{IsInvoked, HasResponse, Precedes, IsLinearization, AreStronglyLinearizable, LinearizesLogs}
use Rattle.dsr_run.specs.Run.{IsRun, AreLogs}
use Rattle.dsr_run.specs.Step.{Step, Logs, log_of}
use Rattle.dsr_run.proofs.Accepting.{WasPosted, stands_in, stands_below, history_posted, accepted_right}
use Rattle.dsr_run.proofs.Histories.{extends_on, history_grows, history_legal}
use Rattle.dsr_run.proofs.Issuing.{history_since}
use Rattle.dsr_run.proofs.Logs.{log_client, run_before, logs_grew}
use Rattle.dsr_run.proofs.NextSteps.{run_logs}

-- if a request is not in an earlier list, that list is the end of what is older than the request
all_behind : (grown earlier newer older : List Request) (q : Request) → grown ++ earlier ≡ newer ++ q ∷ older → ¬ In q earlier → Extends older earlier
all_behind [] earlier newer older q e absent = absurd (absent (subst (In q) (sym e) (In-append_right q newer (q ∷ older) (here refl))))
all_behind (g ∷ grown) earlier [] older q e absent = let rest : grown ++ earlier ≡ older = cc in (grown, sym rest)
all_behind (g ∷ grown) earlier (n ∷ newer) older q e absent =
    let rest : grown ++ earlier ≡ newer ++ q ∷ older = cc in all_behind grown earlier newer older q rest absent

-- an actor that posted a request has invoked it
posted_invoked : (logs : Logs) (q : Request) → WasPosted (logs (Client q.client)) q → IsInvoked logs q
posted_invoked logs q h = record { replica = h.to; ask = h.ask; posted = h.posted; is = h.is }

-- what is shown about places at two moments
abbrev pub PlacesRise : Shape → (logs earlier : Logs) → (first second : Request) → (reply later : Reply) → Type 0
PlacesRise shape logs earlier first second reply later =
    ((a : Actor) → Extends (logs a) (earlier a)) → HasResponse shape earlier first reply → ¬ IsInvoked earlier second → HasResponse shape logs second later
    → reply.place < later.place

module _ (shape : Shape) (few : HasFewTraitors shape) where
  -- a request with a response is in the history at the place that the reply says, with its answer: its client posted no other under that number
  answered_stands : (run : List Step) → IsRun shape run → (q : Request) (r : Reply) → HasResponse shape (log_of run) q r
      → StandsAt (history shape (log_of run)) r.place q r.answer
  answered_stands run is q r h =
      let right = accepted_right shape run is few q.client r h.accepted in
      let posted = subst (λ d. WasPosted (log_of run (Client d)) right.request) right.client_is
      (history_posted shape run is right.request (stands_in (history shape (log_of run)) r.place right.request r.answer right.stands)) in
      let number : posted.ask.request.number ≡ h.invoked.ask.request.number = ap (λ z. z.number) posted.is ∙ (right.number_is ∙ (h.number ∙ sym (ap (λ z. z.number) h.invoked.is))) in
      let one = (numbered shape q.client (log_of run (Client q.client)) (log_client shape q.client run is)).once posted.to h.invoked.replica
      posted.ask h.invoked.ask posted.posted h.invoked.posted number in
      subst (λ z. StandsAt (history shape (log_of run)) r.place z r.answer) (sym posted.is ∙ (ap (λ z. z.request) one ∙ h.invoked.is)) right.stands

  -- a request with a response at a moment is in the history of that moment, and one that is not yet invoked then is not
  in_real_time : (run : List Step) → IsRun shape run → (first second : Request) → Precedes shape run first second → (newer older : List Request)
      → history shape (log_of run) ≡ newer ++ second ∷ older → In first older
  in_real_time run is first second before newer older parts =
      let earlier = history shape (log_of before.moment) in
      let was = run_before shape run before.moment is before.past in
      let grown = history_since shape few run before.moment is before.past in
      let stood = answered_stands before.moment was first before.reply before.response in
      let behind = all_behind grown.0 earlier newer older second (sym grown.1 ∙ parts)
      (λ inside. before.not_yet (posted_invoked (log_of before.moment) second (history_posted shape before.moment was second inside))) in
      subst (In first) (sym behind.1) (In-append_right first behind.0 earlier (stands_in earlier before.reply.place first before.reply.answer stood))

  -- the history linearizes the run
  pub linearized : (run : List Step) → IsRun shape run → IsLinearization shape run (history shape (log_of run))
  linearized run is = record {
    invoked = λ q inside. posted_invoked (log_of run) q (history_posted shape run is q inside);
    in_turn = history_legal shape (log_of run);
    answered = λ q r h. answered_stands run is q r h;
    real_time = λ first second before newer older parts. in_real_time run is first second before newer older parts;
  }

  -- and it only grows
  pub strongly_linearized : AreStronglyLinearizable shape
  strongly_linearized = record {
    order = λ run. history shape (log_of run);
    each = λ run is. linearized run is;
    grows = λ run earlier is since. history_since shape few run earlier is since;
  }

  -- it depends on the logs alone
  pub logs_linearized : (logs : Logs) → LinearizesLogs shape logs (history shape logs)
  logs_linearized logs run is each =
      let same : log_of run ≡ logs = λ i a. each a i in subst (λ l. IsLinearization shape run (history shape l)) same (linearized run is)

  -- ---- at any two moments

  -- a request that was invoked only after another's response has a greater place than that one, whatever the order of the steps
  places_rise : (run : List Step) → IsRun shape run → (earlier : List Step) → IsRun shape earlier → (first second : Request) (reply later : Reply)
      → PlacesRise shape (log_of run) (log_of earlier) first second reply later
  places_rise run is earlier was first second reply later grown response not_yet response_later =
      let before = history shape (log_of earlier) in
      let stood = answered_stands earlier was first reply response in
      let stands = answered_stands run is second later response_later in
      let low = stands_below before reply.place first reply.answer stood in
      elim (cases_lt later.place (length before)) [
        | inl below ↦
            let too_early = stood_before (history shape (log_of run)) before later.place second later.answer (history_grows shape few run is (log_of earlier) grown) below stands in
            absurd (not_yet (posted_invoked (log_of earlier) second (history_posted shape earlier was second (stands_in before later.place second later.answer too_early))))
        | inr late ↦ omega (arith, low, late)
      ]

  -- and the same holds for logs alone
  pub logs_places_rise : (logs earlier : Logs) → AreLogs shape logs → AreLogs shape earlier → (first second : Request) (reply later : Reply)
      → PlacesRise shape logs earlier first second reply later
  logs_places_rise logs earlier are were first second reply later =
      subst (λ l. PlacesRise shape l earlier first second reply later) (run_logs shape logs are)
      (subst (λ l. PlacesRise shape (log_of are.run) l first second reply later) (run_logs shape earlier were)
      (places_rise are.run are.is were.run were.is first second reply later))

-- ---- what any order that linearizes a run says

-- what was accepted stays accepted
accepted_since : (shape : Shape) (newer older : List Entry) → Extends (accepted shape (newer ++ older)) (accepted shape older)
accepted_since shape [] older = ([], refl)
accepted_since shape (entry ∷ newer) older =
    extends_on (accepted shape (entry ∷ (newer ++ older))) (accepted shape (newer ++ older)) (accepted shape older)
    (accepted_grow shape entry (newer ++ older)) (accepted_since shape newer older)

module _ (shape : Shape) (run moment : List Step) (past : Extends run moment) where
  -- a response stays
  response_stays : (q : Request) (r : Reply) → HasResponse shape (log_of moment) q r → HasResponse shape (log_of run) q r
  response_stays q r h =
      let log = logs_grew run moment past (Client q.client) in
      let accepted_more = accepted_since shape log.0 (log_of moment (Client q.client)) in
      record {
        invoked = record {
          replica = h.invoked.replica;
          ask = h.invoked.ask;
          posted = subst (In (Post (Replica h.invoked.replica) (Ask h.invoked.ask))) (sym log.1)
              (In-append_right (Post (Replica h.invoked.replica) (Ask h.invoked.ask)) log.0 (log_of moment (Client q.client)) h.invoked.posted);
          is = h.invoked.is;
        };
        accepted = subst (In r) (sym (ap (accepted shape) log.1 ∙ accepted_more.1))
            (In-append_right r accepted_more.0 (accepted shape (log_of moment (Client q.client))) h.accepted);
        number = h.number;
      }

  -- a request that is invoked only after another has its response has the greater place
  pub order_rises : (order : List Request) → IsLinearization shape run order → (first second : Request) (reply later : Reply)
      → HasResponse shape (log_of moment) first reply → ¬ IsInvoked (log_of moment) second → HasResponse shape (log_of run) second later → reply.place < later.place
  order_rises order is first second reply later response not_yet response_later =
      let last = is.answered second later response_later in
      let inside = is.real_time first second (record { moment = moment; past = past; reply = reply; response = response; not_yet = not_yet })
      last.newer last.older last.parts in
      let found = In-stands first last.older inside in
      let lower = stands_later order last.older found.0 first found.1
      (last.newer ++ second ∷ [], last.parts ∙ sym (append_assoc last.newer (second ∷ []) last.older)) found.2 in
      let stood = is.answered first reply (response_stays first reply response) in
      let same = (stands_once order reply.place found.0 first first reply.answer found.1 is.in_turn stood lower refl refl).1 in
      let low = stands_below last.older found.0 first found.1 found.2 in
      omega (arith, same, low, last.place_is)

-- A client's seen front is within the history, and the request that it asks for next is not: so its place is not before the front.
use Rattle.std.proofs.Common.{◌≡◌, ℕ, ◌≤◌, Bool, true, false, if◌then◌else◌, List, [], ◌∷◌, None, Some, length, length-append, ◌⊎◌, inl, inr, refl, ap, sym, ◌∙◌, subst, arith}
use Rattle.std.specs.Option.{option_or}
use Rattle.std.proofs.lemmas.Bool.{cases_lt, true≢false}
use Rattle.std.proofs.lemmas.Bool.Decides.{Decides-eqb}
use Rattle.dsr_base.specs.Growth.{Extends}
use Rattle.dsr_base.specs.Member.{In, here, there}
use Rattle.dsr_names.specs.Shape.{Shape, HasFewTraitors}
use Rattle.dsr_names.specs.declared.actor.Actor.TheVariants.{Replica, Client}
use Rattle.dsr_request.specs.Request.{Request}
use Rattle.dsr_request.specs.declared.answer.Answer.{Answer}
use Rattle.dsr_history.specs.History.{StandsAt}
use Rattle.dsr_history.proofs.Lemmas.{stood_before}
use Rattle.dsr_chain.specs.declared.signed_request.SignedRequest.{SignedRequest}
use Rattle.dsr_envelope.specs.declared.envelope.Envelope.TheVariants.{Ask, Seen}
use Rattle.dsr_envelope.specs.declared.entry.Entry.{Entry}
use Rattle.dsr_envelope.specs.declared.entry.Entry.TheVariants.{Post}
use Rattle.dsr_client.specs.State.{seen}
use Rattle.dsr_client.proofs.Lemmas.{seen_below}
use Rattle.dsr_run.specs.History.{seen_by, history}
use Rattle.dsr_client.specs.Issue.{is_ask_for, issue_front}
use Rattle.dsr_run.specs.Run.{KeepsConduct, IsRun}
use Rattle.dsr_run.specs.Step.{Step, log_of}
use Rattle.dsr_run.proofs.Accepting.{WasPosted, stands_in, stands_below, history_posted, accepted_right}
use Rattle.dsr_run.proofs.Boxes.{from_log, taken_was_posted}
use Rattle.dsr_run.proofs.Histories.{history_grows}
use Rattle.dsr_run.proofs.Logs.{log_cases, run_before, logs_grew}

-- a list is at most as long as one that extends it
extends_length : {A : Type 0} (later earlier : List A) → Extends later earlier → length earlier ≤ length later
extends_length later earlier more = omega (arith, ap length more.1, length-append more.0 earlier)

module _ (shape : Shape) (few : HasFewTraitors shape) where
  -- the history of a run has that of each earlier time in it
  pub history_since : (run earlier : List Step) → IsRun shape run → Extends run earlier
      → Extends (history shape (log_of run)) (history shape (log_of earlier))
  history_since run earlier is more = history_grows shape few run is (log_of earlier) (logs_grew run earlier more)

  -- ---- seen fronts

  -- what clients have seen, and what they posted to other clients, is within the history
  pub record AreFronts (run : List Step) : Type 0 where
    pub had : (c : ℕ) → seen_by shape (log_of run) c ≤ length (history shape (log_of run))
    pub told : (c d front : ℕ) → In (Post (Client c) (Seen front)) (log_of run (Client d)) → front ≤ length (history shape (log_of run))

  -- what a client posts as its seen front is what it has seen
  told_now : (step : Step) (older : List Step) → IsRun shape (step ∷ older) → AreFronts older → (c d front : ℕ)
      → In (Post (Client c) (Seen front)) (log_of (step ∷ older) (Client d)) → front ≤ length (history shape (log_of (step ∷ older)))
  told_now step older is before c d front h =
      let grown = extends_length (history shape (log_of (step ∷ older))) (history shape (log_of older)) (history_since (step ∷ older) older is (step ∷ [], refl)) in
      elim (from_log step older (Client d) (Post (Client c) (Seen front)) h) [
        | inl new ↦
            let keeps = subst (λ a. KeepsConduct shape (log_of older) a step.1) new.0 is.1.conduct in
            let next = subst (KeepsConduct shape (log_of older) (Client d)) new.1 keeps in
            let front_is = same_front front (seen shape (log_of older (Client d))) next.2 in
            let had = before.had d in
            omega (arith, grown, front_is, had)
        | inr old ↦ let had = before.told c d front old in omega (arith, grown, had)
      ]
    where
      same_front : (a b : ℕ) → Seen a ≡ Seen b → a ≡ b
      same_front a b e = cc

  pub fronts : (run : List Step) → IsRun shape run → AreFronts run
  fronts [] is = record { had = λ c. omega arith; told = λ c d front h. elim h [ ] }
  fronts (step ∷ older) is =
      let told = told_now step older is (fronts older is.0) in
      record {
        had = λ c. seen_below shape (log_of (step ∷ older) (Client c)) (length (history shape (log_of (step ∷ older))))
            (λ w h. let right = accepted_right shape (step ∷ older) is few c w h in
            stands_below (history shape (log_of (step ∷ older))) w.place right.request w.answer right.stands)
            (λ d front h. told c d front (taken_was_posted shape (step ∷ older) is (Client d) (Client c) (Seen front) h));
        told = told;
      }

  -- ---- the issue front

  -- the time before a client first asked for a request with the number
  record WasIssued (run : List Step) (c number : ℕ) : Type 0 where
    pub earlier : List Step
    pub since : Extends run earlier
    pub front_is : issue_front shape number (log_of run (Client c)) ≡ Some (seen shape (log_of earlier (Client c)))
    pub none : (q : ℕ) (ask : SignedRequest) → In (Post (Replica q) (Ask ask)) (log_of earlier (Client c)) → ask.request.number ≡ number → ⊥

  -- it never did
  record WasNotIssued (run : List Step) (c number : ℕ) : Type 0 where
    pub front_is : issue_front shape number (log_of run (Client c)) ≡ None
    pub none : (q : ℕ) (ask : SignedRequest) → In (Post (Replica q) (Ask ask)) (log_of run (Client c)) → ask.request.number ≡ number → ⊥

  is_ask : (q : ℕ) (ask : SignedRequest) (number : ℕ) (entry : Entry) → entry ≡ Post (Replica q) (Ask ask) → ask.request.number ≡ number
      → is_ask_for number entry ≡ true
  is_ask q ask number entry e same = ap (is_ask_for number) e ∙ (Decides-eqb ask.request.number number).1 same

  issue_step : (step : Step) (older : List Step) (c number : ℕ) → WasIssued older c number ⊎ WasNotIssued older c number
      → WasIssued (step ∷ older) c number ⊎ WasNotIssued (step ∷ older) c number
  issue_step step older c number before = elim (log_cases step older (Client c)) [
    | inl own ↦ own_step own.1 before (is_ask_for number step.1) refl
    | inr other ↦ other_step other.1 before
  ]
    where
      other_step : log_of (step ∷ older) (Client c) ≡ log_of older (Client c) → WasIssued older c number ⊎ WasNotIssued older c number
          → WasIssued (step ∷ older) c number ⊎ WasNotIssued (step ∷ older) c number
      other_step same (inl h) = inl (record {
        earlier = h.earlier;
        since = (step ∷ h.since.0, ap (λ l. step ∷ l) h.since.1);
        front_is = ap (issue_front shape number) same ∙ h.front_is;
        none = h.none;
      })
      other_step same (inr h) = inr (record {
        front_is = ap (issue_front shape number) same ∙ h.front_is;
        none = λ q ask inside. h.none q ask (subst (In (Post (Replica q) (Ask ask))) same inside);
      })

      own_step : log_of (step ∷ older) (Client c) ≡ step.1 ∷ log_of older (Client c) → WasIssued older c number ⊎ WasNotIssued older c number
          → (b : Bool) → is_ask_for number step.1 ≡ b → WasIssued (step ∷ older) c number ⊎ WasNotIssued (step ∷ older) c number
      own_step grown (inl h) b asks = inl (record {
        earlier = h.earlier;
        since = (step ∷ h.since.0, ap (λ l. step ∷ l) h.since.1);
        front_is =
            ap (issue_front shape number) grown
            ∙ ap (λ o. option_or o (if is_ask_for number step.1 then Some (seen shape (log_of older (Client c))) else None)) h.front_is;
        none = h.none;
      })
      own_step grown (inr h) true asks = inl (record {
        earlier = older;
        since = (step ∷ [], refl);
        front_is =
            ap (issue_front shape number) grown
            ∙ (ap (λ o. option_or o (if is_ask_for number step.1 then Some (seen shape (log_of older (Client c))) else None)) h.front_is
            ∙ ap (λ b. if b then Some (seen shape (log_of older (Client c))) else None) asks);
        none = h.none;
      })
      own_step grown (inr h) false asks = inr (record {
        front_is =
            ap (issue_front shape number) grown
            ∙ (ap (λ o. option_or o (if is_ask_for number step.1 then Some (seen shape (log_of older (Client c))) else None)) h.front_is
            ∙ ap (λ b. if b then Some (seen shape (log_of older (Client c))) else None) asks);
        none = λ q ask inside same. none_now q ask (subst (In (Post (Replica q) (Ask ask))) grown inside) same;
      })
        where
          none_now : (q : ℕ) (ask : SignedRequest) → In (Post (Replica q) (Ask ask)) (step.1 ∷ log_of older (Client c)) → ask.request.number ≡ number → ⊥
          none_now q ask (here e) same = true≢false (sym (is_ask q ask number step.1 e same) ∙ asks)
          none_now q ask (there later) same = h.none q ask later same

  issue_cases : (run : List Step) (c number : ℕ) → WasIssued run c number ⊎ WasNotIssued run c number
  issue_cases [] c number = inr (record { front_is = refl; none = λ q ask h. elim h [ ] })
  issue_cases (step ∷ older) c number = issue_step step older c number (issue_cases older c number)

  -- the place of a request that a client asked for is not before the request's issue front
  pub not_before : (run : List Step) → IsRun shape run → (c : ℕ) (q : Request) (place : ℕ) (answer : Answer)
      → q.client ≡ c → StandsAt (history shape (log_of run)) place q answer → WasPosted (log_of run (Client c)) q
      → (front : ℕ) × (issue_front shape q.number (log_of run (Client c)) ≡ Some front) × (front ≤ place)
  not_before run is c q place answer client stands posted = elim (issue_cases run c q.number) [
    | inr never ↦ absurd (never.none posted.to posted.ask posted.posted (ap (λ r. r.number) posted.is))
    | inl h ↦
        let earlier = run_before shape run h.earlier is h.since in
        let front = (fronts h.earlier earlier).had c in
        let late = later_place h earlier in
        (seen shape (log_of h.earlier (Client c)), h.front_is, omega (arith, front, late))
  ]
    where
      later_place : (h : WasIssued run c q.number) → IsRun shape h.earlier → length (history shape (log_of h.earlier)) ≤ place
      later_place h earlier = elim (cases_lt place (length (history shape (log_of h.earlier)))) [
        | inl below ↦
            let stood = stood_before (history shape (log_of run)) (history shape (log_of h.earlier)) place q answer (history_since run h.earlier is h.since) below stands in
            let was = history_posted shape h.earlier earlier q (stands_in (history shape (log_of h.earlier)) place q answer stood) in
            absurd (h.none was.to was.ask (subst (λ d. In (Post (Replica was.to) (Ask was.ask)) (log_of h.earlier (Client d))) client was.posted) (ap (λ r. r.number) was.is))
        | inr late ↦ late
      ]

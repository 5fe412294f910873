-- A client whose request has acted at each loyal replica accepts a reply to it, once it has taken from each of them what that has posted since.
use Rattle.std.proofs.Common.{◌≡◌, ℕ, zero, suc, ◌+◌, ◌*◌, ◌<◌, ◌≤◌, Bool, true, false, List, [], ◌∷◌, ◌++◌, length, Option, None, Some, if◌then◌else◌, ◌⊎◌, inl, inr, refl, ap, sym, ◌∙◌, subst, length-append, arith}
use Rattle.std.specs.Prelude.{slice_get}
use Rattle.std.specs.Option.{option_map}
use Rattle.std.proofs.lemmas.Bool.{cases_lt}
use Rattle.std.proofs.lemmas.Option.{same_Some, none-some, slice_get_within}
use Rattle.dsr_base.specs.Growth.{Extends}
use Rattle.dsr_base.specs.Member.{In, here, there}
use Rattle.dsr_base.proofs.MemberLemmas.{In-append_left}
use Rattle.dsr_names.specs.Shape.{Shape, HasFewTraitors, IsLoyal}
use Rattle.dsr_names.specs.declared.actor.Actor.{Actor}
use Rattle.dsr_names.specs.declared.actor.Actor.TheVariants.{Replica, Client}
use Rattle.dsr_names.specs.Support.ActorEquality.{actor_eq, actor_eq-Decides}
use Rattle.dsr_request.specs.Request.{Request}
use Rattle.dsr_ledger.specs.declared.reply.Reply.{Reply as AReply}
use Rattle.dsr_history.specs.History.{reply}
use Rattle.dsr_chain.specs.declared.signed_request.SignedRequest.{SignedRequest}
use Rattle.dsr_envelope.specs.declared.envelope.Envelope.{Envelope}
use Rattle.dsr_envelope.specs.declared.envelope.Envelope.TheVariants.{Ask, Reply}
use Rattle.dsr_envelope.specs.declared.entry.Entry.{Entry}
use Rattle.dsr_envelope.specs.declared.entry.Entry.TheVariants.{Post, Take}
use Rattle.dsr_envelope.specs.Log.{posted_to, taken_from, rounds}
use Rattle.dsr_replica.specs.Decided.{decided_requests}
use Rattle.dsr_replica.proofs.Lemmas.{decided_later}
use Rattle.dsr_client.specs.State.{state_after, accepted, outstanding}
use Rattle.dsr_client.proofs.Lemmas.{IsNumbered, numbered, accepted_numbered, accepted_grow}
use Rattle.dsr_run.specs.Answered.{IsHeldEagerly, rounds_to_act, TookSince}
use Rattle.dsr_run.specs.History.{accepted_by, history}
use Rattle.dsr_run.specs.Right.{TookAllReplies, HasReplyTo}
use Rattle.dsr_run.specs.Run.{IsRun, AreLogs}
use Rattle.dsr_run.specs.Step.{Step, Logs, log_of}
use Rattle.dsr_run.proofs.Accepting.{stands_in, history_posted, reply_right}
use Rattle.dsr_run.proofs.Answering.{held_asked, reached_in_time}
use Rattle.dsr_run.proofs.Boxes.{boxes}
use Rattle.dsr_run.proofs.Eagerly.{loyal_since}
use Rattle.dsr_run.proofs.Family.{some_at, at_place, at_least}
use Rattle.dsr_run.proofs.Logs.{log_loyal, log_client, run_before}
use Rattle.dsr_run.proofs.NextSteps.{run_logs}
use Rattle.dsr_run.proofs.Numbering.{has_numbers}
use Rattle.dsr_run.proofs.Reaching.{IsReached, acted_later}
use Rattle.dsr_run.proofs.Righting.{all_taken_answered}
use Rattle.dsr_run.proofs.Within.{posted_within}

-- ---- what is new in a log

-- what is in a list that grew by an item or did not: it was there, or it is the new item, at the end
new_if : {A : Type 0} (b : Bool) (xs : List A) (y : A) (place : ℕ) (x : A) → slice_get (if b then xs ++ y ∷ [] else xs) place ≡ Some x
    → (slice_get xs place ≡ Some x) ⊎ ((b ≡ true) × (y ≡ x))
new_if false xs y place x e = inl e
new_if true [] y zero x e = inr (refl, same_Some y x e)
new_if true [] y (suc place) x e = absurd (none-some x e)
new_if true (z ∷ xs) y zero x e = inl e
new_if true (z ∷ xs) y (suc place) x e = new_if true xs y place x e

-- what was taken at a place past the earlier takes was taken since
taken_new : (a : Actor) (newer older : List Entry) (place : ℕ) (x : Envelope) → length (taken_from a older) ≤ place
    → slice_get (taken_from a (newer ++ older)) place ≡ Some x → In (Take a x) newer
taken_new a [] older place x past e = let inside = slice_get_within (taken_from a older) place x e in absurd (omega (arith, past, inside))
taken_new a (Post to y ∷ newer) older place x past e = there (taken_new a newer older place x past e)
taken_new a (Take from y ∷ newer) older place x past e = elim (new_if (actor_eq from a) (taken_from a (newer ++ older)) y place x e) [
  | inl old ↦ there (taken_new a newer older place x past old)
  | inr new ↦ here (λ i. Take ((actor_eq-Decides from a).0 new.0 i) (new.1 i))
]

-- what was posted at a place past the earlier posts was posted since, at some log between
pub record WasPostedSince (a : Actor) (later older : List Entry) (x : Envelope) : Type 0 where
  pub before : List Entry
  pub since : Extends before older
  pub after : Extends later (Post a x ∷ before)

posted_new : (a : Actor) (newer older : List Entry) (place : ℕ) (x : Envelope) → length (posted_to a older) ≤ place
    → slice_get (posted_to a (newer ++ older)) place ≡ Some x → WasPostedSince a (newer ++ older) older x
posted_new a [] older place x past e = let inside = slice_get_within (posted_to a older) place x e in absurd (omega (arith, past, inside))
posted_new a (Take from y ∷ newer) older place x past e = more (Take from y) (posted_new a newer older place x past e)
  where
    more : (entry : Entry) → WasPostedSince a (newer ++ older) older x → WasPostedSince a (entry ∷ (newer ++ older)) older x
    more entry h = record { before = h.before; since = h.since; after = (entry ∷ h.after.0, ap (λ es. entry ∷ es) h.after.1) }
posted_new a (Post to y ∷ newer) older place x past e = elim (new_if (actor_eq to a) (posted_to a (newer ++ older)) y place x e) [
  | inl old ↦ more (posted_new a newer older place x past old)
  | inr new ↦ record {
    before = newer ++ older;
    since = (newer, refl);
    after = ([], λ i. Post ((actor_eq-Decides to a).0 new.0 i) (new.1 i) ∷ (newer ++ older));
  }
]
  where
    more : WasPostedSince a (newer ++ older) older x → WasPostedSince a (Post to y ∷ (newer ++ older)) older x
    more h = record { before = h.before; since = h.since; after = (Post to y ∷ h.after.0, ap (λ es. Post to y ∷ es) h.after.1) }

-- ---- numbers

accepted_with : (shape : Shape) (newer older : List Entry) → length (accepted shape older) ≤ length (accepted shape (newer ++ older))
accepted_with shape [] older = omega arith
accepted_with shape (entry ∷ newer) older =
    let before = accepted_with shape newer older in
    let grown = accepted_grow shape entry (newer ++ older) in
    let count = ap length grown.1 ∙ length-append grown.0 (accepted shape (newer ++ older)) in
    omega (arith, before, count)

reply_parts : (o : Option AReply) (envelope : Envelope) → option_map Reply o ≡ Some envelope → (r : AReply) × (o ≡ Some r) × (Reply r ≡ envelope)
reply_parts None envelope e = absurd (none-some envelope e)
reply_parts (Some r) envelope e = (r, refl, same_Some (Reply r) envelope e)

-- ---- one client

module _ (shape : Shape) (few : HasFewTraitors shape) (run : List Step) (is : IsRun shape run) (c number : ℕ) where
  -- no client's request has a number past the next one
  most_number : (q : ℕ) → IsLoyal shape (Replica q) → (r : AReply) → In (Take (Replica q) (Reply r)) (log_of run (Client c))
      → r.number ≤ suc (length (accepted_by shape (log_of run) c))
  most_number q loyal r taken =
      let right = reply_right shape run is few c q loyal r taken in
      let stands = stands_in (history shape (log_of run)) r.place right.request r.answer right.stands in
      let posted = history_posted shape run is right.request stands in
      let are = numbered shape c (log_of run (Client c)) (log_client shape c run is) in
      let number_is = ap (λ (z : Request). z.number) posted.is ∙ right.number_is in
      by_cases r.number posted.ask number_is are
      ((are.posted posted.to posted.ask (subst (λ d. In (Post (Replica posted.to) (Ask posted.ask)) (log_of run (Client d))) right.client_is posted.posted)).1)
    where
      by_cases : (k : ℕ) (ask : SignedRequest) → ask.request.number ≡ k → IsNumbered c (log_of run (Client c)) (state_after shape (log_of run (Client c)))
          → (ask.request.number ≤ length (accepted_by shape (log_of run) c)) ⊎ (outstanding shape (log_of run (Client c)) ≡ Some ask)
          → k ≤ suc (length (accepted_by shape (log_of run) c))
      by_cases k ask same are (inl low) = omega (arith, same, low)
      by_cases k ask same are (inr current) = let next = (are.next ask current).0 in omega (arith, same, next)

  -- logs of an earlier moment
  module _ (moment : List Step) (earlier : IsRun shape moment) (grown : (a : Actor) → Extends (log_of run a) (log_of moment a)) where
    -- a reply that a loyal replica posted since its request acted there is one to that request or to a later one
    reply_since : (q : ℕ) → (loyal : IsLoyal shape (Replica q)) → IsReached shape (log_of moment (Replica q)) c number → (x : Envelope)
        → WasPostedSince (Client c) (log_of run (Replica q)) (log_of moment (Replica q)) x → (r : AReply) × (Reply r ≡ x) × (number ≤ r.number)
    reply_since q loyal acted x h =
        let low = loyal.0 in
        let some : 0 < shape.n = omega (arith, low) in
        let posted = loyal_since shape (Replica q) (log_of run (Replica q)) (Post (Client c) x ∷ h.before) (log_loyal shape q loyal.1 run is) h.after in
        let parts = reply_parts (reply (decided_requests shape h.before) c) x posted.1.1 in
        let later = acted_later shape h.before c number (log_of moment (Replica q))
        (decided_later shape (Replica q) some h.before (log_of moment (Replica q)) posted.0 h.since) acted in
        let same : later.last ≡ parts.0 = same_Some later.last parts.0 (sym later.is ∙ parts.1) in
        let number_is = ap (λ (r : AReply). r.number) same in
        let reaches = later.reaches in
        (parts.0, parts.2, omega (arith, reaches, number_is))

    -- what the client took since
    took_since : (newer : List Entry) → log_of run (Client c) ≡ newer ++ log_of moment (Client c) → (q : ℕ) → IsLoyal shape (Replica q)
        → IsReached shape (log_of moment (Replica q)) c number → TookSince (log_of run) (log_of moment) c q
        → (r : AReply) × In (Take (Replica q) (Reply r)) newer × (number ≤ r.number)
    took_since newer parts q loyal acted took =
        let place = length (posted_to (Client c) (log_of moment (Replica q))) in
        let x = some_at (taken_from (Replica q) (log_of run (Client c))) place took in
        let posts = grown (Replica q) in
        let posted = at_place (posted_to (Client c) (log_of run (Replica q))) (taken_from (Replica q) (log_of run (Client c)))
        (boxes shape run is (Replica q) (Client c)) place x.0 x.1 in
        let since = posted_new (Client c) posts.0 (log_of moment (Replica q)) place x.0 (omega arith)
        (subst (λ l. slice_get (posted_to (Client c) l) place ≡ Some x.0) posts.1 posted) in
        let reply = reply_since q loyal acted x.0 (subst (λ l. WasPostedSince (Client c) l (log_of moment (Replica q)) x.0) (sym posts.1) since) in
        let box = at_least (posted_to (Client c) (log_of moment (Replica q))) (taken_from (Replica q) (log_of moment (Client c)))
        (boxes shape moment earlier (Replica q) (Client c)) in
        let new = taken_new (Replica q) newer (log_of moment (Client c)) place x.0 box
        (subst (λ l. slice_get (taken_from (Replica q) l) place ≡ Some x.0) parts x.1) in
        (reply.0, subst (λ z. In (Take (Replica q) z) newer) (sym reply.1) new, reply.2)

    -- so it accepts a reply to its request, unless it did so earlier
    pub accepts_since : 2 * shape.f < shape.n → (p : ℕ) (ask : SignedRequest) → ask.request.number ≡ number
        → In (Post (Replica p) (Ask ask)) (log_of moment (Client c))
        → ((q : ℕ) → IsLoyal shape (Replica q) → IsReached shape (log_of moment (Replica q)) c number × TookSince (log_of run) (log_of moment) c q)
        → HasReplyTo number (accepted_by shape (log_of run) c)
    accepts_since most p ask is_number asked each = elim (cases_lt (length (accepted_by shape (log_of run) c)) number) [
      | inl next ↦ all_taken_answered shape few most run is c number (took_all next)
      | inr done ↦ has_numbers (accepted_by shape (log_of run) c) (accepted_numbered shape c (log_of run (Client c)) (log_client shape c run is)) number some done
    ]
      where
        some : 0 < number
        some =
            let low = (posted_within shape moment earlier (Client c) (Replica p) (Ask ask) asked).request.some_number in
            omega (arith, low, is_number)

        log_grew : Extends (log_of run (Client c)) (log_of moment (Client c))
        log_grew = grown (Client c)

        -- nothing else is outstanding, if no reply to it is accepted in the end
        current : length (accepted_by shape (log_of run) c) < number → outstanding shape (log_of moment (Client c)) ≡ Some ask
        current next =
            let are = numbered shape c (log_of moment (Client c)) (log_client shape c moment earlier) in
            let fewer = subst (λ l. length (accepted shape (log_of moment (Client c))) ≤ length (accepted shape l)) (sym log_grew.1)
            (accepted_with shape log_grew.0 (log_of moment (Client c))) in
            elim (are.posted p ask asked).1 [
              | inl low ↦ absurd (omega (arith, low, fewer, next, is_number))
              | inr out ↦ out
            ]

        took : length (accepted_by shape (log_of run) c) < number → (q : ℕ) → IsLoyal shape (Replica q)
            → (r : AReply) × In (Take (Replica q) (Reply r)) log_grew.0 × (r.number ≡ number)
        took next q loyal =
            let h = each q loyal in
            let found = took_since log_grew.0 log_grew.1 q loyal h.0 h.1 in
            let whole = subst (In (Take (Replica q) (Reply found.0))) (sym log_grew.1)
            (In-append_left (Take (Replica q) (Reply found.0)) log_grew.0 (log_of moment (Client c)) found.1) in
            let high = most_number q loyal found.0 whole in
            let low = found.2 in
            (found.0, found.1, omega (arith, low, high, next))

        took_all : length (accepted_by shape (log_of run) c) < number → TookAllReplies shape (log_of run (Client c)) number
        took_all next = record {
          older = log_of moment (Client c);
          newer = log_grew.0;
          parts = log_grew.1;
          ask = ask;
          asked = current next;
          is_number = is_number;
          took = took next;
        }

-- a client is answered in time: if an eager replica held its request, and after the stated number of rounds it took from each loyal
-- replica what this one posted since
abbrev pub AnswersInTime : Shape → Logs → Logs → Type 0
AnswersInTime shape logs earlier = ((a : Actor) → Extends (logs a) (earlier a)) → (ask : SignedRequest) (t : ℕ) → IsHeldEagerly shape earlier ask t
    → ((q : ℕ) → IsLoyal shape (Replica q) → (t + rounds_to_act shape ≤ rounds shape (earlier (Replica q))) × TookSince logs earlier ask.request.client q)
    → HasReplyTo ask.request.number (accepted_by shape logs ask.request.client)

answered_in_time : (shape : Shape) (run moment : List Step) → HasFewTraitors shape → 2 * shape.f < shape.n → IsRun shape run
    → IsRun shape moment → AnswersInTime shape (log_of run) (log_of moment)
answered_in_time shape run moment few most is earlier grown ask t h each =
    accepts_since shape few run is ask.request.client ask.request.number moment earlier grown most h.replica ask refl (held_asked shape moment earlier ask t h)
    (λ q loyal. let now = each q loyal in (reached_in_time shape moment few earlier ask t h q loyal now.0, now.1))

-- for an earlier moment of the run
pub answered_in_run : (shape : Shape) (run moment : List Step) → HasFewTraitors shape → 2 * shape.f < shape.n → IsRun shape run
    → Extends run moment → AnswersInTime shape (log_of run) (log_of moment)
answered_in_run shape run moment few most is grown = answered_in_time shape run moment few most is (run_before shape run moment is grown)

-- and for logs of a run that were such logs before
pub answered_in_logs : (shape : Shape) (logs earlier : Logs) → HasFewTraitors shape → 2 * shape.f < shape.n → AreLogs shape logs
    → AreLogs shape earlier → AnswersInTime shape logs earlier
answered_in_logs shape logs earlier few most are were =
    subst (λ l. AnswersInTime shape l earlier) (run_logs shape logs are)
    (subst (λ e. AnswersInTime shape (log_of are.run) e) (run_logs shape earlier were)
    (answered_in_time shape are.run were.run few most are.is were.is))

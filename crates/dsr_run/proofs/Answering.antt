-- What an eager replica holds acts within a bounded number of rounds at every loyal replica.
use Rattle.std.proofs.Common.{◌≡◌, ℕ, suc, ◌+◌, ◌*◌, ◌<◌, ◌≤◌, List, [], ◌∷◌, ◌++◌, inl, inr, ap, sym, ◌∙◌, subst, arith}
use Rattle.std.proofs.lemmas.Bool.Decides.{nat_tests}
use Rattle.dsr_base.specs.Growth.{Extends}
use Rattle.dsr_base.specs.Member.{In}
use Rattle.dsr_base.proofs.MemberLemmas.{In-append_right}
use Rattle.dsr_names.specs.Shape.{Shape, HasFewTraitors, IsLoyal}
use Rattle.dsr_names.specs.declared.actor.Actor.TheVariants.{Replica, Client}
use Rattle.dsr_rotation.specs.Calendar.{last_round, closed_slots}
use Rattle.dsr_rotation.proofs.Lemmas.{closed_below, closed_above, closed_stays, begins_at}
use Rattle.dsr_chain.specs.Content.{requests_in}
use Rattle.dsr_chain.specs.declared.signed_request.SignedRequest.{SignedRequest}
use Rattle.dsr_slot.specs.Decision.{decision}
use Rattle.dsr_envelope.specs.declared.envelope.Envelope.TheVariants.{Ask}
use Rattle.dsr_envelope.specs.declared.entry.Entry.{Entry}
use Rattle.dsr_envelope.specs.declared.entry.Entry.TheVariants.{Post, Take}
use Rattle.dsr_envelope.specs.declared.due.Due.{Due}
use Rattle.dsr_envelope.specs.declared.due.Due.TheVariants.{Post as PostTo, Take as TakeFrom}
use Rattle.dsr_envelope.specs.Log.{posted_to, taken_from, due, rounds}
use Rattle.dsr_replica.specs.Conduct.{IsLoyalLog}
use Rattle.dsr_replica.specs.Counts.{posts_at}
use Rattle.dsr_replica.specs.Decided.{slot_decided, decided_values}
use Rattle.dsr_replica.specs.Held.{held}
use Rattle.dsr_replica.proofs.Lemmas.{counts, all_taken, kept_later, values_same, values_grow, rounds_grow, held_from}
use Rattle.dsr_run.specs.Agreement.{HasProposed}
use Rattle.dsr_run.specs.Answered.{IsHeldEagerly, turns, rounds_to_act, HasActed}
use Rattle.dsr_run.specs.Eager.{IsEager}
use Rattle.dsr_run.specs.Run.{IsRun, AreLogs}
use Rattle.dsr_run.specs.Step.{Step, Logs, log_of}
use Rattle.dsr_run.proofs.Agreeing.{same_decided}
use Rattle.dsr_run.proofs.Boxes.{boxes, taken_was_posted}
use Rattle.dsr_run.proofs.Eagerly.{loyal_with, begun, IsProposed, IsAnswered, turn_comes}
use Rattle.dsr_run.proofs.Family.{at_least}
use Rattle.dsr_run.proofs.Holding.{IsHeld}
use Rattle.dsr_run.proofs.Itself.{acted_itself}
use Rattle.dsr_run.proofs.Logs.{log_loyal}
use Rattle.dsr_run.proofs.NextSteps.{run_logs}
use Rattle.dsr_run.proofs.Proposing.{as_proposed}
use Rattle.dsr_run.proofs.Reaching.{IsReached, decided_acted, acted_later}

-- ---- counts

-- the post to replica 0 is the first of a round
first_most : (d : Due) (t q : ℕ) → posts_at d t q ≤ posts_at d t 0
first_most (PostTo k) t q = grind (arith, nat_tests)
first_most (TakeFrom k) t q = omega arith

begun_at_most : (d : Due) (t : ℕ) → posts_at d t 0 ≤ suc t
begun_at_most (PostTo k) t = grind (arith, nat_tests)
begun_at_most (TakeFrom k) t = omega arith

-- at most one more slot has begun than rounds are closed
pub begun_within : (shape : Shape) (p : ℕ) → p < shape.n → (log : List Entry) → IsLoyalLog shape (Replica p) log → begun log ≤ suc (rounds shape log)
begun_within shape p inside log loyal =
    let some : 0 < shape.n = omega (arith, inside) in
    let count = (counts shape (Replica p) some log loyal).posts 0 some in
    let most = begun_at_most (due shape log) (rounds shape log) in
    omega (arith, count, most)

rounds_with : (shape : Shape) (newer log : List Entry) → rounds shape log ≤ rounds shape (newer ++ log)
rounds_with shape [] log = omega arith
rounds_with shape (entry ∷ newer) log =
    let before = rounds_with shape newer log in
    let next = rounds_grow shape entry (newer ++ log) in
    omega (arith, before, next)

-- no round is closed that was not closed later
rounds_since : (shape : Shape) (later log : List Entry) → Extends later log → rounds shape log ≤ rounds shape later
rounds_since shape later log grown =
    subst (λ l. rounds shape log ≤ rounds shape l) (sym grown.1) (rounds_with shape grown.0 log)

module _ (shape : Shape) (run : List Step) (is : IsRun shape run) where
  loyal_log : (p : ℕ) → IsLoyal shape (Replica p) → IsLoyalLog shape (Replica p) (log_of run (Replica p))
  loyal_log p loyal = log_loyal shape p loyal.1 run is

  -- what a loyal replica has closed, every other loyal one has begun
  pub begun_where_closed : (p q : ℕ) → IsLoyal shape (Replica p) → IsLoyal shape (Replica q)
      → rounds shape (log_of run (Replica q)) ≤ begun (log_of run (Replica p))
  begun_where_closed p q loyal loyal_too =
      let low = loyal.0 in
      let some : 0 < shape.n = omega (arith, low) in
      let all = all_taken shape (Replica q) some (log_of run (Replica q)) (loyal_log q loyal_too) p loyal.0 in
      let box = at_least (posted_to (Replica q) (log_of run (Replica p))) (taken_from (Replica p) (log_of run (Replica q)))
      (boxes shape run is (Replica p) (Replica q)) in
      let count = counts shape (Replica p) some (log_of run (Replica p)) (loyal_log p loyal) in
      let to = count.posts q loyal_too.0 in
      let first = count.posts 0 some in
      let most = first_most (due shape (log_of run (Replica p))) (rounds shape (log_of run (Replica p))) q in
      omega (arith, all, box, to, first, most)

  -- what was decided at a loyal replica at an earlier moment is decided at each loyal one that has closed as many rounds
  pub decided_since : HasFewTraitors shape → (p q : ℕ) → IsLoyal shape (Replica p) → IsLoyal shape (Replica q) → (moment : List Entry)
      → Extends (log_of run (Replica p)) moment → rounds shape moment ≤ rounds shape (log_of run (Replica p))
      → rounds shape moment ≤ rounds shape (log_of run (Replica q))
      → Extends (decided_values shape (log_of run (Replica q))) (decided_values shape moment)
  decided_since few p q loyal loyal_too moment past own more =
      let low = loyal.0 in
      let some : 0 < shape.n = omega (arith, low) in
      let theirs = closed_slots shape (rounds shape moment) in
      let mine = closed_slots shape (rounds shape (log_of run (Replica q))) in
      let grown = values_grow (slot_decided shape (log_of run (Replica q))) theirs mine
      (closed_stays shape (rounds shape moment) (rounds shape (log_of run (Replica q))) more) in
      let same = values_same (slot_decided shape (log_of run (Replica q))) (slot_decided shape moment) theirs
      (λ slot closed.
      let last = closed_below shape slot (rounds shape moment) closed in
      same_decided shape run is slot few q p loyal_too loyal (omega (arith, last, more)) (omega (arith, last, own))
      ∙ ap decision (kept_later shape (Replica p) some (log_of run (Replica p)) moment (loyal_log p loyal) past slot (suc shape.f) (omega (arith, last)))) in
      (grown.0, grown.1 ∙ ap (λ vs. grown.0 ++ vs) same)

  module _ (few : HasFewTraitors shape) (p : ℕ) (loyal : IsLoyal shape (Replica p)) (added base : List Entry)
      (parts : log_of run (Replica p) ≡ added ++ base) (eager : IsEager shape (Replica p) base added) (c : ℕ) (client : c < shape.m)
      (number : ℕ) (asked : IsHeld (held shape c base) number) where
    -- all slots before this one have begun when the client's turn has come
    abbrev last_turn : ℕ
    last_turn = begun base + shape.n * turns shape.m

    from_proposed : (q : ℕ) → IsLoyal shape (Replica q) → last_turn + shape.f ≤ rounds shape (log_of run (Replica q))
        → IsProposed shape p loyal.0 (log_of run (Replica p)) (loyal_log p loyal) base c client number asked
        → IsReached shape (log_of run (Replica q)) c number
    from_proposed q loyal_too closed h =
        let soon = h.soon in
        let begins = begins_at shape h.slot in
        let over : last_round shape h.slot < rounds shape (log_of run (Replica q)) = omega (arith, closed, soon, begins) in
        let value = as_proposed shape run is h.slot (subst (IsLoyal shape) h.own loyal) q loyal_too over h.value
        (subst (λ a. HasProposed shape a (log_of run a) h.slot h.value) h.own h.proposed) in
        decided_acted shape (log_of run (Replica q)) c number h.slot (closed_above shape h.slot (rounds shape (log_of run (Replica q))) over) h.request
        (subst (λ v. In h.request (requests_in v)) (sym value) h.stands) h.is_client h.reaches

    from_answered : (q : ℕ) → IsLoyal shape (Replica q) → last_turn + shape.f ≤ rounds shape (log_of run (Replica q))
        → IsAnswered shape p loyal.0 (log_of run (Replica p)) (loyal_log p loyal) base c client number asked
        → IsReached shape (log_of run (Replica q)) c number
    from_answered q loyal_too closed h =
        let soon = h.soon in
        acted_later shape (log_of run (Replica q)) c number h.moment
        (decided_since few p q loyal loyal_too h.moment h.past (rounds_since shape (log_of run (Replica p)) h.moment h.past) (omega (arith, soon, closed)))
        h.acted

    -- the same, counted by begun slots
    pub acts_by_slots : (q : ℕ) → IsLoyal shape (Replica q) → last_turn + shape.f ≤ rounds shape (log_of run (Replica q))
        → IsReached shape (log_of run (Replica q)) c number
    acts_by_slots q loyal_too closed =
        let reached = begun_where_closed p q loyal loyal_too in
        elim (turn_comes shape p loyal.0 (log_of run (Replica p)) (loyal_log p loyal) base c client number asked added parts eager
        (omega (arith, closed, reached))) [
          | inl proposed ↦ from_proposed q loyal_too closed proposed
          | inr answered ↦ from_answered q loyal_too closed answered
        ]

-- an eager replica's held ask was posted by its client
pub held_asked : (shape : Shape) (run : List Step) → IsRun shape run → (ask : SignedRequest) (t : ℕ) → (h : IsHeldEagerly shape (log_of run) ask t)
    → In (Post (Replica h.replica) (Ask ask)) (log_of run (Client ask.request.client))
held_asked shape run is ask t h =
    let c = ask.request.client in
    let was = held_from shape c h.base ask h.holds in
    let taken = subst (In (Take (Client c) (Ask ask))) (sym h.parts) (In-append_right (Take (Client c) (Ask ask)) h.added h.base was.taken) in
    taken_was_posted shape run is (Client c) (Replica h.replica) (Ask ask) taken

-- after the stated number of rounds its number is reached
pub reached_in_time : (shape : Shape) (run : List Step) → HasFewTraitors shape → IsRun shape run → (ask : SignedRequest) (t : ℕ)
    → IsHeldEagerly shape (log_of run) ask t → (q : ℕ) → IsLoyal shape (Replica q)
    → t + rounds_to_act shape ≤ rounds shape (log_of run (Replica q)) → IsReached shape (log_of run (Replica q)) ask.request.client ask.request.number
reached_in_time shape run few is ask t h q loyal closed =
    let loyal_base = loyal_with shape (Replica h.replica) h.added h.base
    (subst (IsLoyalLog shape (Replica h.replica)) h.parts (log_loyal shape h.replica h.loyal.1 run is)) in
    let near = begun_within shape h.replica h.loyal.0 h.base loyal_base in
    let round = h.round in
    acts_by_slots shape run is few h.replica h.loyal h.added h.base h.parts h.eager ask.request.client
    (held_from shape ask.request.client h.base ask h.holds).own.asked.client ask.request.number
    (record { ask = ask; is = h.holds; reaches = omega arith }) q loyal (omega (arith, closed, near, round))

-- what an eager replica holds has acted, after the stated number of rounds, at every loyal replica
abbrev pub ActsInTime : Shape → Logs → Type 0
ActsInTime shape logs = (ask : SignedRequest) (t : ℕ) → IsHeldEagerly shape logs ask t → (q : ℕ) → IsLoyal shape (Replica q)
    → t + rounds_to_act shape ≤ rounds shape (logs (Replica q)) → HasActed shape (logs (Replica q)) ask.request

pub acts_in_time : (shape : Shape) (run : List Step) → HasFewTraitors shape → IsRun shape run → ActsInTime shape (log_of run)
acts_in_time shape run few is ask t h q loyal closed =
    acted_itself shape few run is ask h.replica (held_asked shape run is ask t h) q loyal (reached_in_time shape run few is ask t h q loyal closed)

-- the same for the logs of a run
pub acts_in_logs : (shape : Shape) (logs : Logs) → HasFewTraitors shape → AreLogs shape logs → ActsInTime shape logs
acts_in_logs shape logs few are = subst (ActsInTime shape) (run_logs shape logs are) (acts_in_time shape are.run few are.is)

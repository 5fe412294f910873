-- How lists of events end: outcomes, one after another, and their numbers.
use Rattle.std.proofs.Common.{◌≡◌, ℕ, suc, ◌+◌, ◌<◌, ◌≤◌, List, [], ◌∷◌, ◌++◌, Option, None, Some, length, refl, ap, ◌∙◌, arith}
use Rattle.std.specs.Option.{option_or}
use Rattle.std.specs.Prelude.{Result, Ok, Err, IfOk, OnErr, ◌↔◌, take, slice_index_or}
use Rattle.std.specs.Result.{result_err}
use Rattle.std.proofs.lemmas.List.{length-take-le, take_all, take_more}
use Rattle.dsr_base.specs.Growth.{Extends}
use Rattle.dsr_names.specs.Shape.{Shape}
use Rattle.dsr_names.specs.declared.refusal.Refusal.{Refusal}
use Rattle.dsr_names.specs.declared.refusal.Refusal.TheVariants.{Forged}
use Rattle.dsr_ledger.specs.declared.reply.Reply.{Reply as AReply}
use Rattle.dsr_play.specs.declared.event.Event.{Event}
use Rattle.dsr_run.specs.Step.{Step, log_of}
use Rattle.dsr_run.proofs.Lemmas.{extends_on}
use Rattle.dsr_world.specs.Event.{HasDone, IsRefusedBy, IsForgedAtLast, refusal_of}
use Rattle.dsr_world.specs.Outcome.{IsOutcome, AreOutcomes, done_in, refused_in, starved_by, starved_in, first_from, Counts, HasEnded}
use Rattle.dsr_world.specs.declared.run_end.RunEnd.{RunEnd}

-- ---- numbers

-- the numbers of two lists of outcomes, one after the other; and each outcome is done or refused
record AddUp (xs ys : List (Option Refusal)) : Type 0 where
  done : done_in (xs ++ ys) ≡ done_in xs + done_in ys
  refused : refused_in (xs ++ ys) ≡ refused_in xs + refused_in ys
  starved : starved_in (xs ++ ys) ≡ starved_in xs + starved_in ys
  all : done_in xs + refused_in xs ≡ length xs

add_up : (xs ys : List (Option Refusal)) → AddUp xs ys
add_up [] ys = omega arith
add_up (None ∷ rest) ys = let later = add_up rest ys in omega arith
add_up (Some refusal ∷ rest) ys = let later = add_up rest ys in omega arith

-- the first refusal in both
first_of_both : (index : ℕ) (xs ys : List (Option Refusal))
    → first_from index (xs ++ ys) ≡ option_or (first_from index xs) (first_from (index + length xs) ys)
first_of_both index [] ys = ap (λ k. first_from k ys) (omega arith)
first_of_both index (None ∷ rest) ys =
    first_of_both (suc index) rest ys ∙ ap (λ k. option_or (first_from (suc index) rest) (first_from k ys)) (omega arith)
first_of_both index (Some refusal ∷ rest) ys = refl

-- an end with one more outcome
abbrev pub counted : RunEnd → Option Refusal → RunEnd
counted end None = record { done = end.done + 1; refused = end.refused; starved = end.starved; first = end.first }
counted end (Some refusal) = record {
  done = end.done;
  refused = end.refused + 1;
  starved = end.starved + starved_by refusal;
  first = option_or end.first (Some (end.done + end.refused, refusal));
}

pub counts_more : (outcomes : List (Option Refusal)) (outcome : Option Refusal) (end : RunEnd) → Counts outcomes end
    → Counts (outcomes ++ outcome ∷ []) (counted end outcome)
counts_more outcomes None end h =
    let sums = add_up outcomes (None ∷ []) in
    let first = first_of_both 0 outcomes (None ∷ []) in
    record { done = omega arith; refused = omega arith; starved = omega arith; first = grind (arith, h.first, first) }
counts_more outcomes (Some refusal) end h =
    let sums = add_up outcomes (Some refusal ∷ []) in
    let place : end.done + end.refused ≡ 0 + length outcomes = omega arith in
    record { done = omega arith; refused = omega arith; starved = omega arith; first = rw (first_of_both 0 outcomes (Some refusal ∷ []), h.first, place) }

-- ---- steps

-- what a step says about its event, in the words of its contract
pub record Says (shape : Shape) (last first : List Step) (event : Event) (result : Result (Option AReply) Refusal) : Type 0 where
  pub done : IfOk result (HasDone shape last first event)
  pub refused : (refusal : Refusal) → refusal_of shape (log_of first) event ≡ Some refusal → result ≡ Err refusal
  pub forged : (result ≡ Err Forged) ↔ IsForgedAtLast shape (log_of first) event
  pub why : (refusal : Refusal) → result ≡ Err refusal → IsRefusedBy shape (log_of first) event refusal
  pub unchanged : OnErr result (last ≡ first)

-- it is an outcome
pub step_outcome : (shape : Shape) (last first : List Step) (event : Event) (result : Result (Option AReply) Refusal) (outcome : Option Refusal)
    → Says shape last first event result → outcome ≡ result_err result → IsOutcome shape last first event outcome
step_outcome shape last first event (Ok reply) outcome says e =
    let none = nothing (refusal_of shape (log_of first) event) refl in
    rw e ((none, (λ forged. let refused = says.forged.1 (none, forged) in cc)), (reply, says.done))
  where
    nothing : (o : Option Refusal) → refusal_of shape (log_of first) event ≡ o → refusal_of shape (log_of first) event ≡ None
    nothing None is = is
    nothing (Some refusal) is = let refused = says.refused refusal is in cc
step_outcome shape last first event (Err refusal) outcome says e = rw e (says.unchanged, says.why refusal refl)

-- ---- outcomes

-- one more event
outcomes_one : (shape : Shape) (first mid last : List Step) (events : List Event) (event : Event) (outcomes : List (Option Refusal)) (outcome : Option Refusal)
    → AreOutcomes shape mid first events outcomes → IsOutcome shape last mid event outcome
    → AreOutcomes shape last first (events ++ event ∷ []) (outcomes ++ outcome ∷ [])
outcomes_one shape first mid last [] event [] outcome are is = (last, rw are at is, refl)
outcomes_one shape first mid last [] event (o ∷ outcomes) outcome are is = absurd are
outcomes_one shape first mid last (e ∷ events) event [] outcome are is = absurd are
outcomes_one shape first mid last (e ∷ events) event (o ∷ outcomes) outcome are is =
    (are.0, are.1, outcomes_one shape are.0 mid last events event outcomes outcome are.2 is)

-- a run that goes on by `count` steps
pub record GrewBy (later earlier : List Step) (count : ℕ) : Type 0 where
  pub grew : Extends later earlier
  pub size : length later ≡ count + length earlier

-- there is an outcome for each event, and a step for each that was done
outcomes_grow : (shape : Shape) (last first : List Step) (events : List Event) (outcomes : List (Option Refusal)) → AreOutcomes shape last first events outcomes
    → (length outcomes ≡ length events) × GrewBy last first (done_in outcomes)
outcomes_grow shape last first [] [] are = (refl, record { grew = ([], are); size = let same = ap length are in omega arith })
outcomes_grow shape last first [] (o ∷ outcomes) are = absurd are
outcomes_grow shape last first (e ∷ events) [] are = absurd are
outcomes_grow shape last first (e ∷ events) (None ∷ outcomes) are =
    let later = outcomes_grow shape last are.0 events outcomes are.2 in
    let step = are.1.1.1 in
    let long = ap length step.went_on in
    (ap suc later.0, record { grew = extends_on last are.0 first later.1.grew (step.step ∷ [], step.went_on); size = omega arith })
outcomes_grow shape last first (e ∷ events) (Some refusal ∷ outcomes) are =
    let later = outcomes_grow shape last are.0 events outcomes are.2 in
    (ap suc later.0, rw are.1.0 at later.1)

-- ---- ends

-- after one more event
pub ended_one : (shape : Shape) (last mid first : List Step) (events : List Event) (event : Event) (outcome : Option Refusal) (before after : RunEnd)
    → HasEnded shape mid first events before → IsOutcome shape last mid event outcome
    → ((outcomes : List (Option Refusal)) → Counts outcomes before → Counts (outcomes ++ outcome ∷ []) after)
    → HasEnded shape last first (events ++ event ∷ []) after
ended_one shape last mid first events event outcome before after h is counts = record {
  outcomes = h.outcomes ++ outcome ∷ [];
  are = outcomes_one shape first mid last events event h.outcomes outcome h.are is;
  counts = counts h.outcomes h.counts;
}

module _ (shape : Shape) (last first : List Step) (events : List Event) (end : RunEnd) (h : HasEnded shape last first events end) where
  -- each event is done or refused
  pub ended_all : end.done + end.refused ≡ length events
  ended_all =
      let sums = add_up h.outcomes [] in
      let each = (outcomes_grow shape last first events h.outcomes h.are).0 in
      omega arith

  -- the run went on by one step for each event that was done
  pub ended_grew : GrewBy last first end.done
  ended_grew = rw h.counts.done (outcomes_grow shape last first events h.outcomes h.are).1

-- ---- the first events of a list

module _ (shape : Shape) (first : List Step) (events : List Event) where
  -- after one more event
  pub ended_next : (last mid : List Step) (k : ℕ) (event : Event) (outcome : Option Refusal) (before after : RunEnd) → k < length events
      → event ≡ slice_index_or events k event → HasEnded shape mid first (take k events) before → IsOutcome shape last mid event outcome
      → ((outcomes : List (Option Refusal)) → Counts outcomes before → Counts (outcomes ++ outcome ∷ []) after)
      → HasEnded shape last first (take (k + 1) events) after
  ended_next last mid k event outcome before after inside at h is counts =
      rw (take_more events k event inside, ← at) (ended_one shape last mid first (take k events) event outcome before after h is counts)

  -- the first `k` events have ended
  pub ended_few : (mid : List Step) (k : ℕ) (end : RunEnd) → k ≤ length events → HasEnded shape mid first (take k events) end → end.done + end.refused ≡ k
  ended_few mid k end inside h = ended_all shape mid first (take k events) end h ∙ length-take-le k events inside

  -- after the last
  pub ended_last : (last : List Step) (k : ℕ) (end : RunEnd) → k ≤ length events → length events ≤ k → HasEnded shape last first (take k events) end
      → HasEnded shape last first events end
  ended_last last k end inside past h = rw (take_all k events past) at h

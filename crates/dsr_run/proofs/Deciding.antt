-- The history of a world is found replica by replica: it is what the loyal one of the first replicas with the most closed slots has.
use Rattle.std.proofs.Common.{◌≡◌, ℕ, suc, ◌+◌, ◌<◌, ◌≤◌, true, false, List, length, reverse, inl, inr, refl, ap, sym, ◌∙◌, arith}
use Rattle.std.specs.Prelude.{map}
use Rattle.std.proofs.lemmas.List.{length-reverse}
use Rattle.dsr_names.specs.Shape.{Shape, is_traitor}
use Rattle.dsr_names.specs.declared.actor.Actor.TheVariants.{Replica}
use Rattle.dsr_request.specs.Request.{Request}
use Rattle.dsr_history.specs.History.{acted}
use Rattle.dsr_chain.specs.Content.{requests_in}
use Rattle.dsr_chain.specs.declared.slot_value.SlotValue.{SlotValue}
use Rattle.dsr_replica.specs.Decided.{decided_requests, decided_values}
use Rattle.dsr_envelope.specs.declared.entry.Entry.{Entry}
use Rattle.dsr_run.specs.History.{decided_at, longer, most_decided}
use Rattle.dsr_run.specs.Step.{Logs}
use Rattle.dsr_run.proofs.Histories.{past_traitor, past_loyal, longer_cases}

-- these are the history and the number of closed slots of the loyal one of the first replicas with the most closed slots
pub record IsBest (shape : Shape) (logs : Logs) (k closed : ℕ) (requests : List Request) : Type 0 where
  pub count : closed ≡ length (most_decided shape logs k)
  pub requests_are : requests ≡ reverse (acted (map requests_in (most_decided shape logs k)))

-- what a loyal replica lends
pub record Lends (shape : Shape) (log : List Entry) (values : List SlotValue) (requests : List Request) : Type 0 where
  pub values_are : values ≡ reverse (decided_values shape log)
  pub requests_are : requests ≡ reverse (acted (decided_requests shape log))

module _ (shape : Shape) (logs : Logs) (k closed : ℕ) (requests : List Request) (best : IsBest shape logs k closed requests) where
  moved : (values : List SlotValue) → values ≡ most_decided shape logs k → most_decided shape logs (suc k) ≡ values
      → IsBest shape logs (suc k) closed requests
  moved values same next = record {
    count = best.count ∙ ap length (sym (next ∙ same));
    requests_are = best.requests_are ∙ ap (λ vs. reverse (acted (map requests_in vs))) (sym (next ∙ same));
  }

  -- a traitor is passed over
  pub best_past : is_traitor shape k ≡ true → IsBest shape logs (suc k) closed requests
  best_past traitor = moved (most_decided shape logs k) refl (past_traitor shape logs k traitor)

  -- a loyal replica with no more closed slots is passed over
  pub best_kept : (values : List SlotValue) → is_traitor shape k ≡ false → values ≡ reverse (decided_at shape logs k) → length values ≤ closed
      → IsBest shape logs (suc k) closed requests
  best_kept values loyal are fewer =
      let size = ap length are ∙ length-reverse (decided_at shape logs k) in
      let count = best.count in
      elim (longer_cases (decided_at shape logs k) (most_decided shape logs k)) [
        | inl more ↦ let longest = more.0 in absurd (omega (arith, size, count, longest, fewer))
        | inr other ↦ moved (longer (decided_at shape logs k) (most_decided shape logs k)) other.1 (past_loyal shape logs k loyal)
      ]

  -- one with more is the best
  pub best_more : (values : List SlotValue) (own : List Request) → is_traitor shape k ≡ false → values ≡ reverse (decided_at shape logs k)
      → own ≡ reverse (acted (decided_requests shape (logs (Replica k)))) → closed < length values
      → IsBest shape logs (suc k) (length values) own
  best_more values own loyal are own_are more =
      let size = ap length are ∙ length-reverse (decided_at shape logs k) in
      let count = best.count in
      elim (longer_cases (decided_at shape logs k) (most_decided shape logs k)) [
        | inl longest ↦
            let next = past_loyal shape logs k loyal ∙ longest.1 in
            record {
              count = size ∙ ap length (sym next);
              requests_are = own_are ∙ ap (λ vs. reverse (acted (map requests_in vs))) (sym next);
            }
        | inr other ↦ let fewer = other.0 in absurd (omega (arith, size, count, fewer, more))
      ]

-- the same numbers, in another form
pub as_best : (shape : Shape) (logs : Logs) (k closed other : ℕ) (requests others : List Request) → IsBest shape logs (suc k) closed requests
    → other ≡ closed → others ≡ requests → IsBest shape logs (k + 1) other others
as_best shape logs k closed other requests others best count same = record {
  count = count ∙ (best.count ∙ ap (λ j. length (most_decided shape logs j)) next);
  requests_are = same ∙ (best.requests_are ∙ ap (λ j. reverse (acted (map requests_in (most_decided shape logs j)))) next);
}
  where
    next : suc k ≡ k + 1
    next = omega arith

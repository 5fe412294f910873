-- The line of a client that waits.
use Rattle.std.proofs.Common.{◌≡◌, ◌∙◌, ℕ, suc, ◌+◌, List, ◌++◌, add-one, ap, sym}
use Rattle.dsr_names.specs.Shape.{Shape}
use Rattle.dsr_run.specs.Step.{Logs}
use Rattle.dsr_explain.specs.Waiting.{standing_part, standings_text}
use Rattle.dsr_explain.proofs.TextLemmas.{then}

-- one more replica after those below it
pub one_more : (shape : Shape) (logs : Logs) (client number p : ℕ) (old mid new : List ℕ) → mid ≡ old ++ standings_text shape logs client number p
    → new ≡ mid ++ standing_part shape logs client number p → new ≡ old ++ standings_text shape logs client number (p + 1)
one_more shape logs client number p old mid new before after =
    let both : new ≡ old ++ standings_text shape logs client number (suc p) =
    then old mid new (standings_text shape logs client number p) (standing_part shape logs client number p) before after in
    both ∙ ap (λ n. old ++ standings_text shape logs client number n) (sym (add-one p))

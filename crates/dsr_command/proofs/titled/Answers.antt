use Rattle.std.proofs.Common.{◌≡◌, ◌≤◌, ◌++◌, List, ℕ, length, codes, subst, sym, arith}
use Rattle.dsr_command.specs.ShownTexts.{title, most_shown}
use Rattle.dsr_command.proofs.titled.Goals as goal

-- the title and two line feeds have at most 96 bytes
short_enough : (text shown : List ℕ) → length text ≤ 3700 → shown ≡ title ++ (codes "\n\n" ++ text) → length shown ≤ most_shown
short_enough text shown short is = subst (λ s. length s ≤ most_shown) (sym is) (omega (arith, short))

pub returns-in-Ok-clause-shown : goal.returns-in-Ok-clause-shown
returns-in-Ok-clause-shown c =
    record { rest = _; is = c.in-Ok.ensures.ok; short = short_enough _ _ c.shortened-said.ensures.short c.in-Ok.ensures.ok }

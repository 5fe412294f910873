use Rattle.std.proofs.Common.{◌≡◌, ◌+◌, ◌≤◌, length}
use Rattle.dsr_text.proofs.LinesLemmas.{TakenSoFar}
use Rattle.dsr_text.proofs.lines.take_lines.Given as goal

-- the lines before the rest were taken in
abbrev pub invariant-loop-rest : goal.invariant-loop-rest
invariant-loop-rest g l =
    TakenSoFar g.T.TakesLines.kind (g.T.TakesLines.shape l.fn.taker) (g.T.TakesLines.gives l.taker) l.text l.rest l.number
    × (g.T.TakesLines.shape l.taker ≡ g.T.TakesLines.shape l.fn.taker) × (l.number + length l.rest ≤ length l.text + 1)

abbrev pub decreases-loop-rest : goal.decreases-loop-rest
decreases-loop-rest g l = length l.rest

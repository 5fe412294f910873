use Rattle.std.proofs.Common.{◌≡◌, ◌+◌, ◌≤◌, length}
use Rattle.dsr_history.proofs.RunLemmas.{AnsweredSoFar}
use Rattle.dsr_history.proofs.apply.Run.answer_lines.Given as goal

-- the lines before the rest are answered, and for each at most one request acted
abbrev pub invariant-loop-rest : goal.invariant-loop-rest
invariant-loop-rest l =
    AnsweredSoFar l.text l.rest l.count l.self.service l.self.answers.items
    × (length l.self.service.replies ≡ 32) × (l.self.service.count + length l.rest ≤ length l.text) × (l.count + length l.rest ≤ length l.text)

abbrev pub decreases-loop-rest : goal.decreases-loop-rest
decreases-loop-rest l = length l.rest

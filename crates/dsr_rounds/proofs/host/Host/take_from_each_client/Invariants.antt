use Rattle.dsr_rounds.specs.Traitors.{KeepsCounts}
use Rattle.dsr_rounds.specs.Tries.{TriesTakes}
use Rattle.dsr_rounds.specs.Turns.{KeepsTurns}
use Rattle.dsr_rounds.proofs.host.Host.take_from_each_client.Given as goal

-- the loop did nothing with replicas
abbrev pub invariant-loop-number : goal.invariant-loop-number
invariant-loop-number g l = KeepsCounts l.fn.seat l.seat × KeepsTurns (g.G.Gate.may_pass l.self.gate.now) l.fn.seat l.seat l.fn.turn.number l.turn.number
    × TriesTakes (g.G.Gate.may_pass l.self.gate.now) l.number l.fn.seat l.seat l.fn.turn.number l.turn.number

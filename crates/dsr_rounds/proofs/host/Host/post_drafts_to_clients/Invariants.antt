use Rattle.dsr_rounds.specs.Traitors.{PostsToClients}
use Rattle.dsr_rounds.specs.Tries.{TriesPosts}
use Rattle.dsr_rounds.specs.Turns.{KeepsTurns}
use Rattle.dsr_rounds.proofs.host.Host.post_drafts_to_clients.Given as goal

-- the loop only posted to clients
abbrev pub invariant-loop-number : goal.invariant-loop-number
invariant-loop-number g l = PostsToClients l.script l.round l.self.mail.now.shape.n l.fn.seat l.seat
    × KeepsTurns (g.G.Gate.may_pass l.self.gate.now) l.fn.seat l.seat l.fn.turn.number l.turn.number
    × TriesPosts (g.G.Gate.may_pass l.self.gate.now) l.script l.round l.number l.fn.seat l.seat l.fn.turn.number l.turn.number

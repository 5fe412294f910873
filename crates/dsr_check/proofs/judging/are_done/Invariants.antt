use Rattle.std.proofs.Common.{ℕ, ◌<◌, ◌≤◌, take, length}
use Rattle.dsr_base.specs.Member.{In}
use Rattle.dsr_ledger.specs.declared.reply.Reply.{Reply}
use Rattle.dsr_check.specs.Support.Heads.{head_of}
use Rattle.dsr_check.proofs.judging.are_done.Given as goal

-- the heads of the clients of the replies so far are at the end
abbrev pub invariant-loop-entry : goal.invariant-loop-entry
invariant-loop-entry l =
    (client : ℕ) (reply : Reply) → In (client, reply) (take l.entry-index l.accepted) → (client < 32) × (length l.accepted ≤ head_of l.heads client)

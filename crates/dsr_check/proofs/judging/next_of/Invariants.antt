use Rattle.std.proofs.Common.{take}
use Rattle.dsr_base.specs.Member.{In}
use Rattle.dsr_ledger.specs.declared.reply.Reply.{Reply}
use Rattle.dsr_check.proofs.judging.next_of.Given as goal

-- no reply to the client is between the first place and this one
abbrev pub invariant-loop-place : goal.invariant-loop-place
invariant-loop-place l = (reply : Reply) → In (l.client, reply) (take l.place l.accepted) → In (l.client, reply) (take l.from l.accepted)

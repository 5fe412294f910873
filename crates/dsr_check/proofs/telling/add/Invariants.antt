use Rattle.std.proofs.Common.{◌≡◌, ◌++◌, map}
use Rattle.std.specs.Prelude.{take}
use Rattle.dsr_check.proofs.telling.add.Given as goal

-- the replies so far are added
abbrev pub invariant-loop-reply : goal.invariant-loop-reply
invariant-loop-reply l = l.list.items ≡ l.initial.list.items ++ map (λ reply. (l.client, reply)) (take l.reply-index l.replies)

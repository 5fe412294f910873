use Rattle.std.proofs.Common.{take}
use Rattle.std.specs.Fmt.{HasWritten, IsPlainFormatter}
use Rattle.dsr_base.specs.Joined.{more_joined}
use Rattle.dsr_text.proofs.items.write_more.Given as goal

-- the items so far are written
abbrev pub invariant-loop-item : goal.invariant-loop-item
invariant-loop-item g l =
    IsPlainFormatter l.initial.f → HasWritten g.W.Write.write_str_gives l.initial.f (more_joined g.T.Item.MARK g.T.Item.text (take l.item-index l.items)) l.f

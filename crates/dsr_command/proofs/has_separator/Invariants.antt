use Rattle.std.proofs.Common.{◌≡◌, false, map, take}
use Rattle.dsr_command.specs.Asked.{has_two_hyphens}
use Rattle.dsr_command.proofs.has_separator.Given as goal

abbrev pub invariant-loop-word : goal.invariant-loop-word
invariant-loop-word g l = has_two_hyphens (map g.S.AsStr.text (take l.word-index l.words)) ≡ false

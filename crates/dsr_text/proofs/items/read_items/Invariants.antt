use Rattle.dsr_text.proofs.ItemsLemmas.{GoesOn}
use Rattle.dsr_text.proofs.items.read_items.Given as goal

-- what is read of the rest follows what was read so far
abbrev pub invariant-loop : goal.invariant-loop
invariant-loop g l =
    GoesOn g.T.Item.is g.T.Item.text g.T.Item.MARK g.met.T.Item.apart l.most l.bytes l.counter l.items.items l.rest

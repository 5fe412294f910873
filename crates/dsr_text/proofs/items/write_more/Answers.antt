use Rattle.std.proofs.Common.{◌∷◌, Some, rules, refl}
use Rattle.std.proofs.Output.{displays_on_ok_of_eq, has_written_append, has_written_of_eq}
use Rattle.std.proofs.lemmas.Str.{encode_ascii}
use Rattle.dsr_base.proofs.JoinedLemmas.{more_next}
use Rattle.dsr_text.proofs.items.write_more.Goals as goal

pub loop-item-preserved : goal.loop-item-preserved
loop-item-preserved g c plain =
    let text = more_next g.T.Item.text g.T.Item.MARK _ c.loop-item.item-index c.item-item.result c.loop-item-test.true c.item-item.is in
    let one = displays_on_ok_of_eq _ _ _ _ _ (Some (g.T.Item.MARK ∷ g.T.Item.text c.item-item.result))
    (rw (c.MARK.ensures, encode_ascii g.T.Item.MARK g.met.T.Item.ascii, g.met.T.Item.shown c.item-item.result) refl) c.write.ensures.writes in
    has_written_of_eq _ _ _ _ _ text (has_written_append _ _ _ _ _ _ (c.loop-item.invariant plain) (search (rules, one)))

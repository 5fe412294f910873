use Rattle.std.proofs.Common.{reverse, ap, sym, ◌∙◌}
use Rattle.std.proofs.lemmas.List.{reverse-reverse}
use Rattle.dsr_world.proofs.world.World.entries.Goals as goal

pub returns-clause-same : goal.returns-clause-same
returns-clause-same c =
    let are = c.self.invariant.1 c.self.invariant.0 in
    rw (← c.self.view_is) (c.as_slice.ensures ∙ (sym (reverse-reverse c.self.inside.entries.items.items) ∙ ap reverse are))

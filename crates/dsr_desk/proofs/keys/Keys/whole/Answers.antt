use Rattle.std.proofs.Common.{ap, ◌∙◌}
use Rattle.dsr_desk.proofs.Flags.{clients_decide, replicas_decide}
use Rattle.dsr_desk.proofs.keys.Keys.whole.Goals as goal

pub returns-then-none_is_set : goal.returns-then-none_is_set
returns-then-none_is_set c =
    clients_decide c.args.self.now c.deref.result.now c.deref-then-none_is_set.result.now c.none_is_set.result c.none_is_set-then-none_is_set.result
    (c.deref.ensures.value ∙ ap (λ keys. keys.replicas) c.self.view_is)
    (c.deref-then-none_is_set.ensures.value ∙ ap (λ keys. keys.clients) c.self.view_is)
    c.none_is_set.ensures c.if-none_is_set.true c.none_is_set-then-none_is_set.ensures

pub returns-else-none_is_set : goal.returns-else-none_is_set
returns-else-none_is_set c =
    replicas_decide c.args.self.now c.deref.result.now c.none_is_set.result
    (c.deref.ensures.value ∙ ap (λ keys. keys.replicas) c.self.view_is)
    c.none_is_set.ensures c.if-none_is_set.false

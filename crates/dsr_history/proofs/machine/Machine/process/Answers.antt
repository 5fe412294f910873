use Rattle.dsr_history.specs.Support.Machine.{history_of}
use Rattle.dsr_history.proofs.MachineLemmas.{machine_after}
use Rattle.dsr_history.proofs.machine.Machine.process.Goals as goal

pub invariant_of-self-2 : goal.invariant_of-self-2
invariant_of-self-2 c =
    machine_after c.self.inside _ c.args.request.now c.in-Some.answer c.self.invariant
    (c.in-Some.ensures.acted (history_of c.self.inside) c.self.invariant.service)
    (c.in-Some.ensures.answer (history_of c.self.inside) c.self.invariant.service)
    c.push_reserved.ensures.items
    c.push_reserved-2.ensures.items

use Rattle.std.proofs.Common.{sym, subst}
use Rattle.dsr_envelope.specs.Limits.{IsEnvelope}
use Rattle.dsr_facts.proofs.TakeLemmas.{in_box_within}
use Rattle.dsr_facts.proofs.takes.held_in.Goals as goal

pub of-requires : goal.of-requires
of-requires c =
    let w = c.args.stage.now in
    subst IsEnvelope (sym c.envelope.ensures)
    (in_box_within w.shape w.run c.steps_are_a_run.ensures c.args.from.now c.args.to.now c.in-Some.letter.now (sym c.in-Some.ensures))

use Rattle.std.proofs.Common.{Some, sym, subst}
use Rattle.dsr_base.specs.Reads.{Reads}
use Rattle.dsr_record.specs.RecordText.{IsSpelledStep, step_text}
use Rattle.dsr_record.proofs.LineLemmas.{no_space, no_actor, not_entry, reads_step}
use Rattle.dsr_record.proofs.transcript.read_step.Goals as goal

pub returns-in_default-clause-read : goal.returns-in_default-clause-read
returns-in_default-clause-read c = no_space c.args.bytes.now c.in_default.ensures.absent

pub returns-in_default-read-clause-read : goal.returns-in_default-read-clause-read
returns-in_default-read-clause-read c =
    no_actor c.args.bytes.now c.in-Some.actor.now c.in-Some.rest.now c.in-Some.ensures.found c.in-Some.ensures.first c.in_default-read.ensures

pub returns-in-Some-2-clause-read : goal.returns-in-Some-2-clause-read
returns-in-Some-2-clause-read c =
    subst (λ step. Reads IsSpelledStep step_text c.args.bytes.now (Some step)) (sym c.new.ensures)
    (reads_step c.args.bytes.now c.in-Some.actor.now c.in-Some.rest.now c.in-Some.ensures.found c.in-Some.ensures.first
    c.in-Some-read.actor c.in-Some-2.entry c.in-Some-read.ensures (rw c.in-Some-2.is at c.in_ok-entry.ensures.read))

pub returns-in-None-clause-read : goal.returns-in-None-clause-read
returns-in-None-clause-read c =
    not_entry c.args.bytes.now c.in-Some.actor.now c.in-Some.rest.now c.in-Some.ensures.found c.in-Some.ensures.first
    (rw c.in-None.is at c.in_ok-entry.ensures.read)

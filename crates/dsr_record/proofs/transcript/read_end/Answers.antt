use Rattle.dsr_base.proofs.TwoParts.{at_byte, no_parts, no_front, no_rest, reads_parts}
use Rattle.dsr_names.specs.Actor.{IsNumbered, actor_text}
use Rattle.dsr_script.specs.EnvelopeText.{envelope_text, IsSpelledEnvelope}
use Rattle.dsr_record.proofs.LineLemmas.{actor_spaceless}
use Rattle.dsr_record.proofs.transcript.read_end.Goals as goal

pub returns-in_default-clause-read : goal.returns-in_default-clause-read
returns-in_default-clause-read c =
    no_parts IsNumbered actor_text IsSpelledEnvelope envelope_text 32 (at_byte 32) actor_spaceless c.args.bytes.now c.in_default.ensures.absent

pub returns-in_default-read-clause-read : goal.returns-in_default-read-clause-read
returns-in_default-read-clause-read c =
    no_front IsNumbered actor_text IsSpelledEnvelope envelope_text 32 (at_byte 32) actor_spaceless c.args.bytes.now c.in-Some.other.now c.in-Some.envelope.now
    c.in-Some.ensures.found c.in-Some.ensures.first c.in_default-read.ensures

pub returns-in-Some-2-clause-read : goal.returns-in-Some-2-clause-read
returns-in-Some-2-clause-read c =
    reads_parts IsNumbered actor_text IsSpelledEnvelope envelope_text 32 (at_byte 32) actor_spaceless c.args.bytes.now c.in-Some.other.now c.in-Some.envelope.now
    c.in-Some.ensures.found c.in-Some.ensures.first c.in-Some-read.other c.in-Some-2.envelope c.in-Some-read.ensures
    (rw c.in-Some-2.is at c.in_ok-envelope.ensures.read)

pub returns-in-None-clause-read : goal.returns-in-None-clause-read
returns-in-None-clause-read c =
    no_rest IsNumbered actor_text IsSpelledEnvelope envelope_text 32 (at_byte 32) actor_spaceless c.args.bytes.now c.in-Some.other.now c.in-Some.envelope.now
    c.in-Some.ensures.found c.in-Some.ensures.first (rw c.in-None.is at c.in_ok-envelope.ensures.read)

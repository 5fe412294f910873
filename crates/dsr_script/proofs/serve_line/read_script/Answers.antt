use Rattle.dsr_base.proofs.TwoParts.{at_byte, no_parts, no_front, no_rest, reads_parts}
use Rattle.std.proofs.Common.{ℕ, ◌<◌}
use Rattle.dsr_names.specs.Actor.{replica_text}
use Rattle.dsr_script.proofs.ServeLemmas.{replica_spaceless, IsRound, round_text}
use Rattle.dsr_script.proofs.serve_line.read_script.Goals as goal

pub returns-in_default-clause-read : goal.returns-in_default-clause-read
returns-in_default-clause-read c =
    no_parts (λ (r : ℕ). r < 16) replica_text IsRound round_text 32 (at_byte 32) replica_spaceless c.args.bytes.now c.in_default.ensures.absent

pub returns-in_default-read-clause-read : goal.returns-in_default-read-clause-read
returns-in_default-read-clause-read c =
    no_front (λ (r : ℕ). r < 16) replica_text IsRound round_text 32 (at_byte 32) replica_spaceless c.args.bytes.now c.in-Some.from.now c.in-Some.rest.now
    c.in-Some.ensures.found c.in-Some.ensures.first c.in_default-read.ensures

pub returns-in-Some-2-clause-read : goal.returns-in-Some-2-clause-read
returns-in-Some-2-clause-read c =
    reads_parts (λ (r : ℕ). r < 16) replica_text IsRound round_text 32 (at_byte 32) replica_spaceless c.args.bytes.now c.in-Some.from.now c.in-Some.rest.now
    c.in-Some.ensures.found c.in-Some.ensures.first c.in-Some-read.from c.in-Some-2.on c.in-Some-read.ensures
    (rw c.in-Some-2.is at c.in_ok-on.ensures.read)

pub returns-in-None-clause-read : goal.returns-in-None-clause-read
returns-in-None-clause-read c =
    no_rest (λ (r : ℕ). r < 16) replica_text IsRound round_text 32 (at_byte 32) replica_spaceless c.args.bytes.now c.in-Some.from.now c.in-Some.rest.now
    c.in-Some.ensures.found c.in-Some.ensures.first (rw c.in-None.is at c.in_ok-on.ensures.read)

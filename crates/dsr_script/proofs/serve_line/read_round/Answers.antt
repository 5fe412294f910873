use Rattle.dsr_base.proofs.TwoParts.{at_byte, no_parts, no_front, no_rest, reads_parts}
use Rattle.std.proofs.Common.{ℕ, ◌<◌, ◌^◌}
use Rattle.std.specs.Fmt.{decimal}
use Rattle.dsr_script.proofs.ServeLemmas.{round_spaceless, IsEnd, end_text}
use Rattle.dsr_script.proofs.serve_line.read_round.Goals as goal

pub returns-in_default-clause-read : goal.returns-in_default-clause-read
returns-in_default-clause-read c =
    no_parts (λ (n : ℕ). n < 2 ^ 40) decimal IsEnd end_text 32 (at_byte 32) round_spaceless c.args.bytes.now c.in_default.ensures.absent

pub returns-in_default-read_num-clause-read : goal.returns-in_default-read_num-clause-read
returns-in_default-read_num-clause-read c =
    no_front (λ (n : ℕ). n < 2 ^ 40) decimal IsEnd end_text 32 (at_byte 32) round_spaceless c.args.bytes.now c.in-Some.round.now c.in-Some.rest.now
    c.in-Some.ensures.found c.in-Some.ensures.first c.in_default-read_num.ensures

pub returns-in-Some-2-clause-read : goal.returns-in-Some-2-clause-read
returns-in-Some-2-clause-read c =
    reads_parts (λ (n : ℕ). n < 2 ^ 40) decimal IsEnd end_text 32 (at_byte 32) round_spaceless c.args.bytes.now c.in-Some.round.now c.in-Some.rest.now
    c.in-Some.ensures.found c.in-Some.ensures.first c.in-Some-read_num.round c.in-Some-2.end c.in-Some-read_num.ensures
    (rw c.in-Some-2.is at c.in_ok-end.ensures.read)

pub returns-in-None-clause-read : goal.returns-in-None-clause-read
returns-in-None-clause-read c =
    no_rest (λ (n : ℕ). n < 2 ^ 40) decimal IsEnd end_text 32 (at_byte 32) round_spaceless c.args.bytes.now c.in-Some.round.now c.in-Some.rest.now
    c.in-Some.ensures.found c.in-Some.ensures.first (rw c.in-None.is at c.in_ok-end.ensures.read)

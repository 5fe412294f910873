use Rattle.std.proofs.Common.{codes, sym, subst}
use Rattle.dsr_base.specs.Reads.{Reads}
use Rattle.dsr_record.specs.Support.Noted.{IsNoted, noted_text}
use Rattle.dsr_record.proofs.LineLemmas.{no_entry, other_word, reads_post, reads_take, same_word, not_same_word}
use Rattle.dsr_record.proofs.transcript.read_entry.Goals as goal

pub returns-in_default-clause-read : goal.returns-in_default-clause-read
returns-in_default-clause-read c = no_entry c.args.bytes.now c.in_default.ensures.absent

pub returns-in_ok-end-clause-read : goal.returns-in_ok-end-clause-read
returns-in_ok-end-clause-read c =
    subst (Reads IsNoted noted_text c.args.bytes.now) (sym c.posted.ensures)
    (reads_post c.args.bytes.now c.in-Some.word.now c.in-Some.rest.now c.in-Some.ensures.found c.in-Some.ensures.first
    (same_word c.in-Some.word.now c.as_slice.result.now (codes "post") c.eq.result c.eq.ensures c.if-eq.true c.as_slice.ensures)
    c.in_ok-end.end c.in_ok-end.ensures.read)

pub returns-in_ok-end-2-clause-read : goal.returns-in_ok-end-2-clause-read
returns-in_ok-end-2-clause-read c =
    subst (Reads IsNoted noted_text c.args.bytes.now) (sym c.taken.ensures)
    (reads_take c.args.bytes.now c.in-Some.word.now c.in-Some.rest.now c.in-Some.ensures.found c.in-Some.ensures.first
    (same_word c.in-Some.word.now c.as_slice-else-eq.result.now (codes "take") c.eq-else-eq.result c.eq-else-eq.ensures c.if-eq-2.true
    c.as_slice-else-eq.ensures)
    c.in_ok-end-2.end c.in_ok-end-2.ensures.read)

pub returns-else-eq-2-clause-read : goal.returns-else-eq-2-clause-read
returns-else-eq-2-clause-read c =
    other_word c.args.bytes.now c.in-Some.word.now c.in-Some.rest.now c.in-Some.ensures.found c.in-Some.ensures.first
    (not_same_word c.in-Some.word.now c.as_slice.result.now (codes "post") c.eq.result c.eq.ensures c.if-eq.false c.as_slice.ensures)
    (not_same_word c.in-Some.word.now c.as_slice-else-eq.result.now (codes "take") c.eq-else-eq.result c.eq-else-eq.ensures c.if-eq-2.false
    c.as_slice-else-eq.ensures)

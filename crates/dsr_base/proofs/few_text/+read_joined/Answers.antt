use Rattle.std.proofs.Common.{Some, ◌∷◌, ◌<◌, ◌-◌, length, arith, sym, subst}
use Rattle.dsr_base.specs.Reads.{Reads}
use Rattle.dsr_base.specs.Joined.{AreFew, joined}
use Rattle.dsr_base.proofs.ReadsLemmas.{some_only, was_read}
use Rattle.dsr_base.proofs.JoinedLemmas.{no_item, reads_alone, no_first, no_others, reads_led}
use Rattle.dsr_base.proofs.few_text.+read_joined.Goals as goal

pub returns-in-None-read : goal.returns-in-None-read
returns-in-None-read g t c =
    no_item g.T.Token.is g.T.Token.text g.T.Token.MARK g.met.T.Token.apart c.args.most c.args.bytes.now (rw c.MARK.ensures at c.in-None.ensures.free)
    c.in-None-read.ensures

pub returns-in-Some-read : goal.returns-in-Some-read
returns-in-Some-read g t c =
    subst (λ only. Reads (AreFew g.T.Token.is c.args.most) (joined g.T.Token.MARK g.T.Token.text) c.args.bytes.now (Some only)) (sym c.one.ensures)
    (reads_alone g.T.Token.is g.T.Token.text g.T.Token.MARK g.met.T.Token.apart c.args.most c.args.bytes.now c.in-Some-read.only
    (omega (arith, c.if-most-eq0.false)) (rw c.MARK.ensures at c.in-None.ensures.free) c.in-Some-read.ensures)

pub returns-in_err-first-in-Some : goal.returns-in_err-first-in-Some
returns-in_err-first-in-Some g t c =
    subst (Reads (AreFew g.T.Token.is c.args.most) (joined g.T.Token.MARK g.T.Token.text) c.args.bytes.now) (sym c.from_residual.ensures)
    (no_first g.T.Token.is g.T.Token.text g.T.Token.MARK g.met.T.Token.apart c.args.most c.args.bytes.now c.in-Some.front.now c.in-Some.rest.now
    (rw c.MARK.ensures at c.in-Some.ensures.found) (rw c.MARK.ensures at c.in-Some.ensures.first) c.in_err-first-in-Some.ensures)

pub returns-in_err-others-in-Some : goal.returns-in_err-others-in-Some
returns-in_err-others-in-Some g t c =
    subst (Reads (AreFew g.T.Token.is c.args.most) (joined g.T.Token.MARK g.T.Token.text) c.args.bytes.now) (sym c.from_residual-in_err-others-in-Some.ensures)
    (no_others g.T.Token.is g.T.Token.text g.T.Token.MARK g.met.T.Token.apart c.args.most c.args.bytes.now c.in-Some.front.now c.in-Some.rest.now
    (rw c.MARK.ensures at c.in-Some.ensures.found) (rw c.MARK.ensures at c.in-Some.ensures.first) c.in_err-others-in-Some.ensures)

pub returns-in_ok-others-in-Some : goal.returns-in_ok-others-in-Some
returns-in_ok-others-in-Some g t c =
    let first = c.in_ok-first-in-Some.first in
    let others = c.in_ok-others-in-Some.others in
    let few = (was_read (AreFew g.T.Token.is (c.args.most - 1)) (joined g.T.Token.MARK g.T.Token.text) c.in-Some.rest.now others c.in_ok-others-in-Some.ensures).0.few in
    let room : length others < g.row.N = omega (arith, few, c.requires, c.if-most-eq0.false) in
    subst (Reads (AreFew g.T.Token.is c.args.most) (joined g.T.Token.MARK g.T.Token.text) c.args.bytes.now) (sym (some_only c.after.result (length others < g.row.N) (first ∷ others) c.after.ensures room))
    (reads_led g.T.Token.is g.T.Token.text g.T.Token.MARK g.met.T.Token.apart c.args.most c.args.bytes.now c.in-Some.front.now c.in-Some.rest.now first others
    (omega (arith, c.if-most-eq0.false)) (rw c.MARK.ensures at c.in-Some.ensures.found) (rw c.MARK.ensures at c.in-Some.ensures.first)
    c.in_ok-first-in-Some.ensures c.in_ok-others-in-Some.ensures)

use Rattle.std.proofs.Common.{◌≡◌, ◌∙◌, Some, true, codes, rules, sym, subst}
use Rattle.std.proofs.lemmas.Bool.{false≢true}
use Rattle.std.proofs.lemmas.Slice.Eq.{bytes_eq-Decides}
use Rattle.dsr_base.specs.Reads.{Reads}
use Rattle.dsr_base.specs.Joined.{AreUpTo, joined_or_dash}
use Rattle.dsr_base.proofs.JoinedLemmas.{reads_dash, reads_some_items}
use Rattle.dsr_base.proofs.up_to.UpTo.read.Goals as goal

pub returns-then-eq : goal.returns-then-eq
returns-then-eq g c =
    let dash : c.args.bytes.now ≡ codes "-" = (bytes_eq-Decides c.args.bytes.now (codes "-")).0 (search (rules, c.eq.ensures, c.if-eq.true)) in
    subst (λ none. Reads (AreUpTo g.T.Token.is g.row.N) (joined_or_dash g.T.Token.MARK g.T.Token.text) c.args.bytes.now (Some none)) (sym c.new.ensures)
    (reads_dash g.T.Token.is g.T.Token.text g.T.Token.MARK g.met.T.Token.begun g.row.N c.args.bytes.now dash)

pub returns : goal.returns
returns g c =
    let other : c.args.bytes.now ≡ codes "-" → ⊥ = λ dash.
    let same : c.eq.result ≡ true = rw (c.eq.ensures, c.as_slice.ensures) ((bytes_eq-Decides c.args.bytes.now (codes "-")).1 dash) in
    false≢true (sym c.if-eq.false ∙ same) in
    reads_some_items g.T.Token.is g.T.Token.text g.T.Token.MARK g.row.N c.args.bytes.now (Some c.in_ok-read.field-0) other c.in_ok-read.ensures

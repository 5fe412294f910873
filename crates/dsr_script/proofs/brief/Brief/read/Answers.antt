use Rattle.std.proofs.Common.{◌≡◌, sym, subst}
use Rattle.std.proofs.lemmas.Result.{IfOk-weaker}
use Rattle.std.specs.Option.{option_map}
use Rattle.dsr_base.specs.Reads.{Reads}
use Rattle.dsr_script.specs.SignatureText.{spelled_text}
use Rattle.dsr_script.specs.Support.SpelledText.{IsSpelled, long_form, pair_of}
use Rattle.dsr_script.proofs.SpelledLemmas.{reads_short, reads_long}
use Rattle.dsr_script.proofs.brief.Brief.read.Goals as goal

pub returns-in-None-clause-read : goal.returns-in-None-clause-read
returns-in-None-clause-read c =
    subst (Reads IsSpelled spelled_text c.args.bytes.now) (sym c.short_form_of.ensures)
    (reads_short c.args.bytes.now c.in-None.ensures.absent c.read.result c.read.ensures)

pub returns-in-Some-clause-read : goal.returns-in-Some-clause-read
returns-in-Some-clause-read c =
    IfOk-weaker c.long_form_of.result (λ brief. brief ≡ option_map long_form (pair_of c.read-in-Some.result c.read_closed.result))
    (Reads IsSpelled spelled_text c.args.bytes.now)
    (λ brief made. subst (Reads IsSpelled spelled_text c.args.bytes.now) (sym made)
    (reads_long c.args.bytes.now c.in-Some.signer.now c.in-Some.rest.now c.in-Some.ensures.found c.in-Some.ensures.first c.read-in-Some.result
    c.read_closed.result c.read-in-Some.ensures c.read_closed.ensures))
    c.long_form_of.ensures.made

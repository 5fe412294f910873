use Rattle.std.proofs.Common.{None, Some}
use Rattle.std.proofs.lemmas.Bool.Decides.{Decides-eqb}
use Rattle.std.proofs.lemmas.Slice.Eq.{strip_prefix_is}
use Rattle.dsr_names.specs.Token.{old_text}
use Rattle.dsr_request.proofs.Words.{reads_nothing}
use Rattle.dsr_request.proofs.AnswerLemmas.{token_after}
use Rattle.dsr_request.proofs.answer.old_after.Goals as goal

pub returns-in_err-rest : goal.returns-in_err-rest
returns-in_err-rest c old =
    reads_nothing c.from_residual.result old c.from_residual.ensures
    (λ h. strip_prefix_is Decides-eqb c.args.bytes.now c.args.word.now None c.in_err-rest.ensures.cases (old_text old) h.1)

pub returns : goal.returns
returns c old =
    token_after c.args.bytes.now c.args.word.now c.in_ok-rest.rest.now c.read_old.result old
    (strip_prefix_is Decides-eqb c.args.bytes.now c.args.word.now (Some c.in_ok-rest.rest) c.in_ok-rest.ensures.cases)
    (c.read_old.ensures old)

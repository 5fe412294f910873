use Rattle.std.proofs.Common.{◌∙◌, refl}
use Rattle.std.specs.Prelude.{string_bytes}
use Rattle.std.proofs.lemmas.Result.{IfOk-weaker}
use Rattle.dsr_transcripts.proofs.why.why_posted.Goals as goal

pub returns-clause-says : goal.returns-clause-says
returns-clause-says c = IfOk-weaker c.finish.result _ _
    (λ why is. record {
      shown = string_bytes c.in_ok-shown.shown;
      is = c.in_ok-shown.ensures.shown;
      told = is ∙ simp (c.write_posted.ensures, c.new-out.ensures) refl;
    }) c.finish.ensures.whole

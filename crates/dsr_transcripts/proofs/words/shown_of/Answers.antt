use Rattle.std.proofs.Common.{◌++◌, ◌∙◌, ap, codes, inr, sym}
use Rattle.std.proofs.lemmas.Bool.{true≢false}
use Rattle.dsr_transcripts.proofs.words.shown_of.Goals as goal

pub returns-clause-shown : goal.returns-clause-shown
returns-clause-shown c = inr (
  (λ is. true≢false (sym (c.fits.ensures.1 is) ∙ c.if-fits.false)),
  c.in_ok-push_str.ensures.bytes ∙ ap (λ l. l ++ codes "-") c.new-out.ensures.bytes,
)

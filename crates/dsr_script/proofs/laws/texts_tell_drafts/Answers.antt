use Rattle.dsr_script.proofs.EnvelopeLemmas.{one_text}
use Rattle.dsr_script.proofs.OneEnvelope.{one_envelope}
use Rattle.dsr_script.proofs.laws.texts_tell_drafts.Goals as goal

pub returns-clause-one_draft : goal.returns-clause-one_draft
returns-clause-one_draft c = one_envelope

pub returns-clause-one_text : goal.returns-clause-one_text
returns-clause-one_text c = one_text

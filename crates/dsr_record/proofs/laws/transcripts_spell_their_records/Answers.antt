use Rattle.std.proofs.Common.{subst}
use Rattle.dsr_names.specs.Shape.{IsAllowed}
use Rattle.dsr_record.proofs.SpellLemmas.{spells}
use Rattle.dsr_record.proofs.laws.transcripts_spell_their_records.Goals as goal

pub returns : goal.returns
returns c = spells c.args.recorded.now (subst IsAllowed c.shape.ensures c.n-n.ensures.allowed)

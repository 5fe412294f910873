use Rattle.dsr_facts.proofs.DifferenceLemmas.{goes_on}
use Rattle.dsr_facts.proofs.difference.parted.Goals as goal

pub parting_at-how-requires-clause-some : goal.parting_at-how-requires-clause-some
parting_at-how-requires-clause-some c =
    goes_on c.args.ours.now c.args.theirs.now c.agreed-place.result c.requires c.agreed-place.ensures.before c.agreed-place.ensures.ours
    c.agreed-place.ensures.theirs

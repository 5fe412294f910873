use Rattle.std.proofs.Common.{refl}
use Rattle.std.specs.Prelude.{slice_get}
use Rattle.dsr_facts.proofs.DifferenceLemmas.{go_apart}
use Rattle.dsr_facts.proofs.difference.parting_at.Goals as goal

pub returns : goal.returns
returns c = record {
  next = slice_get c.args.ours.now c.args.place;
  other = slice_get c.args.theirs.now c.args.place;
  part = record {
    before = c.requires.before;
    ours_next = refl;
    theirs_next = refl;
    apart = go_apart c.args.ours.now c.args.theirs.now c.args.place c.requires.apart c.requires.some;
  };
  is = c.parting_on-how.ensures;
}

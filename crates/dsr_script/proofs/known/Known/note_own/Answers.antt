use Rattle.std.proofs.Common.{arith}
use Rattle.dsr_script.proofs.Places.{noted_more}
use Rattle.dsr_script.proofs.known.Known.note_own.Goals as goal

pub loop-place-preserved : goal.loop-place-preserved
loop-place-preserved c = (
  noted_more c.args.self.now.signatures c.loop-place.self.signatures c.note.new.self.signatures c.args.chain.now.signatures c.loop-place.place
      c.signature.result c.signature.ensures c.loop-place.invariant.0 c.note.ensures.noted,
  omega (arith, c.loop-place.invariant.1, c.note.ensures.room),
)

use Rattle.dsr_request.proofs.Names.{written_name}
use Rattle.dsr_request.proofs.name.Name.read.Goals as goal

pub invariant_of-result : goal.invariant_of-result
invariant_of-result c =
    written_name c.args.bytes.now c.copy_from_slice.new.self
    (c.is_name.ensures.0 c.if-not-is_name.false) c.copy_from_slice.ensures.after

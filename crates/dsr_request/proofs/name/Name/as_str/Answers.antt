use Rattle.std.proofs.Common.{subst, sym, IsUtf8}
use Rattle.dsr_request.proofs.Names.{name_is_text}
use Rattle.dsr_request.proofs.name.Name.as_str.Goals as goal

pub unreachable-requires : goal.unreachable-requires
unreachable-requires c =
    c.in-Err.ensures.cases.0 (subst IsUtf8 (sym c.as_bytes.ensures.same) (name_is_text c.args.self.now c.as_bytes.ensures.name))

use Rattle.std.proofs.Common.{subst}
use Rattle.std.specs.List.{IsDistinct}
use Rattle.std.specs.Map.{keys_of}
use Rattle.std.specs.Str.{bytes_eq}
use Rattle.dsr_register.proofs.EntryLemmas.{distinct_held}
use Rattle.dsr_register.proofs.table.Table.len.Goals as goal

pub returns-clause-distinct : goal.returns-clause-distinct
returns-clause-distinct c =
    subst (λ t. IsDistinct bytes_eq (keys_of t)) c.self.view_is (distinct_held c.self.inside.entries.entries c.self.invariant.roomy.unique)

use Rattle.std.proofs.Common.{rules}
use Rattle.std.specs.Cmp.Lexicographic.{slice_cmp}
use Rattle.std.specs.Ordering.{nat_cmp}
use Rattle.std.proofs.lemmas.Fn.{always_returns_same}
use Rattle.dsr_check.proofs.TableLemmas.{searched}
use Rattle.dsr_check.proofs.table.Table.search.Goals as goal

pub returns-clause-found : goal.returns-clause-found
returns-clause-found c =
    let by_name = c.binary_search_by.ensures.position (λ register. slice_cmp nat_cmp register.0 c.args.name.now) (always_returns_same _ _ _ (λ a r f called. search rules)) in
    rw (← c.self.view_is, ← c.as_slice.ensures.value) ((searched _ (rw c.as_slice.ensures.value c.self.invariant) c.args.name.now _ c.binary_search_by.ensures.bound by_name).0)

pub returns-clause-absent : goal.returns-clause-absent
returns-clause-absent c =
    let by_name = c.binary_search_by.ensures.position (λ register. slice_cmp nat_cmp register.0 c.args.name.now) (always_returns_same _ _ _ (λ a r f called. search rules)) in
    rw (← c.self.view_is, ← c.as_slice.ensures.value) ((searched _ (rw c.as_slice.ensures.value c.self.invariant) c.args.name.now _ c.binary_search_by.ensures.bound by_name).1)

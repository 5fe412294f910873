use Rattle.std.proofs.Common.{◌≡◌, sym, ◌∙◌, ap, List, ℕ, Some, get_or, []}
use Rattle.std.proofs.lemmas.List.{get_or_default}
use Rattle.dsr_check.proofs.TableLemmas.{held_here, none_in_gap}
use Rattle.dsr_check.proofs.table.Table.get.Goals as goal

pub returns-in-Ok : goal.returns-in-Ok
returns-in-Ok c =
    let table = c.args.self.now in
    let place = c.in-Ok.place in
    let found = c.in-Ok.ensures.found in
    let all : c.deref.result.now ≡ table = c.deref.ensures.0 ∙ c.self.view_is in
    let read : (c.index-deref-place.result) ≡ get_or table place c.index-deref-place.result =
    c.index-deref-place.is ∙ ap (λ t. get_or t place c.index-deref-place.result) all in
    record {
      held = ap (λ (e : List ℕ × ℕ). Some e.1) (c.register.view_is ∙ read ∙ get_or_default table place c.index-deref-place.result ([], 0) found.within)
          ∙ held_here table c.in-Ok.ensures.order c.args.name.now place found;
      order = c.in-Ok.ensures.order;
    }

pub returns-in-Err-clause-held : goal.returns-in-Err-clause-held
returns-in-Err-clause-held c = sym (none_in_gap c.args.self.now c.args.name.now c.in-Err.field-0 c.in-Err.ensures.absent)

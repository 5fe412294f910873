use Rattle.std.proofs.Common.{◌∙◌, ap, sym, subst}
use Rattle.std.specs.List.{IsDistinct}
use Rattle.std.specs.Map.{keys_of}
use Rattle.std.specs.Option.{option_flatten}
use Rattle.std.specs.Str.{bytes_eq}
use Rattle.dsr_register.specs.Table.{held_in}
use Rattle.dsr_register.proofs.EntryLemmas.{held_found, distinct_held}
use Rattle.dsr_register.proofs.table.Table.get.Goals as goal

pub returns-clause-held : goal.returns-clause-held
returns-clause-held c =
    c.flatten.ensures
    ∙ (ap option_flatten (c.copied.ensures ∙ c.get.ensures.value)
    ∙ (sym (held_found c.self.inside.entries.entries c.args.name.now c.self.invariant.roomy.unique)
    ∙ ap (λ t. held_in t c.args.name.now) c.self.view_is))

pub returns-clause-distinct : goal.returns-clause-distinct
returns-clause-distinct c =
    subst (λ t. IsDistinct bytes_eq (keys_of t)) c.self.view_is (distinct_held c.self.inside.entries.entries c.self.invariant.roomy.unique)

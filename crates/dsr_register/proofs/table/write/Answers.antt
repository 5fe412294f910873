use Rattle.std.proofs.Common.{◌≡◌, ◌∙◌, Some, None, is_some, ap, sym, subst}
use Rattle.std.specs.Map.{lookup}
use Rattle.std.specs.Option.{option_copied_mut}
use Rattle.std.specs.Str.{bytes_eq}
use Rattle.dsr_register.specs.Support.Table.{held_entries, Changes}
use Rattle.dsr_register.proofs.EntryLemmas.{changes_set, changes_nothing}
use Rattle.dsr_register.proofs.table.write.Goals as goal

pub returns-in-Some-clause-changes : goal.returns-in-Some-clause-changes
returns-in-Some-clause-changes c =
    let h = c.get_mut.follows.holds c.replace.new.dest in
    let after = (c.get_mut.follows.lender c.replace.new.dest).entries in
    let found : lookup (bytes_eq c.args.name.now) c.args.entries.now.entries ≡ Some c.replace.result =
    sym c.get_mut.ensures.value ∙ (ap option_copied_mut c.in-Some.is ∙ ap Some (sym c.replace.ensures.value)) in
    subst (Changes (held_entries c.args.entries.now.entries) (held_entries after) c.args.name.now c.replace.result) c.replace.ensures.after
    (changes_set c.args.entries.now.entries after c.args.name.now c.replace.result c.replace.new.dest
    c.requires.unique h.4 found (h.3 (ap is_some found)).0 h.0)

pub returns-in-None-clause-nothing : goal.returns-in-None-clause-nothing
returns-in-None-clause-nothing c =
    let absent : lookup (bytes_eq c.args.name.now) c.args.entries.now.entries ≡ None =
    sym c.get_mut.ensures.value ∙ ap option_copied_mut c.in-None.is in
    changes_nothing c.args.entries.now.entries c.get_mut.follows.lender-at-none.entries c.args.name.now c.requires.unique absent
    (ap (λ m. m.entries) c.get_mut.follows.holds-at-none)

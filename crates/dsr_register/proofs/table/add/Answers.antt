use Rattle.std.proofs.Common.{◌∙◌, Some}
use Rattle.std.specs.Str.{bytes_eq}
use Rattle.indexmap.proofs.CallerLemmas.{insert_entry-new}
use Rattle.dsr_register.proofs.EntryLemmas.{changes_push}
use Rattle.dsr_register.proofs.table.add.Goals as goal

pub returns-clause-changes : goal.returns-clause-changes
returns-clause-changes c =
    let e = rw c.unwrap.ensures at c.insert.ensures.entries in
    let u = rw c.unwrap.ensures at c.insert.ensures.updates in
    changes_push c.args.entries.now.entries c.insert.new.self.entries c.args.name c.args.value
    c.requires.roomy.unique c.insert.ensures.unique c.requires.absent u.0
    (e ∙ insert_entry-new bytes_eq c.args.entries.now c.args.name (Some c.args.value) c.requires.absent)

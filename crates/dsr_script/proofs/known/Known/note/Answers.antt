use Rattle.std.proofs.Common.{◌∙◌, ap}
use Rattle.dsr_script.specs.Support.Noted.{noted}
use Rattle.dsr_script.proofs.KnownLemmas.{keys_noted}
use Rattle.dsr_script.proofs.known.Known.note.Goals as goal

pub returns-clause-noted : goal.returns-clause-noted
returns-clause-noted c =
    let keys = rw (c.unwrap.ensures, c.of.ensures, c.copy.ensures) at c.insert.ensures.keys in
    keys ∙ keys_noted c.self.inside.seen.keys c.args.signature.now
    ∙ ap (λ k. noted k.signatures c.args.signature.now) c.self.view_is

use Rattle.std.proofs.Common.{◌∷◌, sym, subst}
use Rattle.dsr_envelope.specs.declared.entry.Entry.TheVariants.{Take}
use Rattle.dsr_client.specs.Client.{StandsFor}
use Rattle.dsr_client.proofs.client.Client.taken.Goals as goal

pub returns-clause-stands : goal.returns-clause-stands
returns-clause-stands c log stands =
    subst (λ from. StandsFor c.taken_from_client.new.self (Take from c.args.envelope ∷ log)) (sym c.in-Client.is)
    (c.taken_from_client.ensures.stands log c.in-Client.field-0 stands)

use Rattle.std.proofs.Common.{◌∷◌, sym, subst}
use Rattle.dsr_names.specs.declared.actor.Actor.TheVariants.{Client as AClient}
use Rattle.dsr_envelope.specs.declared.entry.Entry.TheVariants.{Take}
use Rattle.dsr_client.specs.Client.{StandsFor}
use Rattle.dsr_client.proofs.client.Client.taken_from_client.Goals as goal

pub returns-in-Seen-clause-stands : goal.returns-in-Seen-clause-stands
returns-in-Seen-clause-stands c log other stands =
    subst (λ e. StandsFor c.told.new.self (Take (AClient other) e ∷ log)) (sym c.in-Seen.is) (c.told.ensures.stands log other stands)

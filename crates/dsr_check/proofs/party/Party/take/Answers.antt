use Rattle.std.proofs.Common.{◌≢◌, ◌∷◌, rules, subst}
use Rattle.dsr_envelope.specs.declared.entry.Entry.TheVariants.{Take}
use Rattle.dsr_run.specs.OwnStep.{KeepsOwn}
use Rattle.dsr_check.specs.declared.party.Party.TheVariants.{Client}
use Rattle.dsr_check.specs.Support.Party.{Plays}
use Rattle.dsr_check.proofs.Playing.{client_takes}
use Rattle.dsr_check.proofs.party.Party.take.Goals as goal

pub returns-in_ok-take-in-Client-clause-takes : goal.returns-in_ok-take-in-Client-clause-takes
returns-in_ok-take-in-Client-clause-takes c shape log plays inside =
    let other : c.args.from.now ≢ c.args.me.now = search rules in
    subst (λ e. KeepsOwn shape c.args.me.now log (Take c.args.from.now e) × Plays shape c.args.me.now (Take c.args.from.now e ∷ log) (Client c.take.new.self))
    c.in_ok-copy-in-Client.ensures.same
    (client_takes shape c.args.me.now log c.args.from.now c.in_ok-copy-in-Client.copy c.in-Client.customer c.take.new.self
    (subst (Plays shape c.args.me.now log) c.in-Client.is plays) inside other (λ d stands. c.in_ok-take-in-Client.ensures.plays shape d log stands))

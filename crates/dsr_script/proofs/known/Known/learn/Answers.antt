use Rattle.std.proofs.Common.{◌↔◌, ◌⊎◌, ◌∷◌, sym, subst}
use Rattle.std.proofs.lemmas.Result.{on_ok_weaker}
use Rattle.dsr_base.specs.Member.{In}
use Rattle.dsr_envelope.specs.Envelope.{Carries}
use Rattle.dsr_script.specs.Known.{StandFor}
use Rattle.dsr_script.proofs.KnownLemmas.{learned_is, stands_learned}
use Rattle.dsr_script.proofs.known.Known.learn.Goals as goal

pub returns-clause-learned : goal.returns-clause-learned
returns-clause-learned c s =
    on_ok_weaker c.take_in.result
    (λ noted.
    subst (λ now. In s now ↔ (In s c.args.self.now.signatures ⊎ Carries c.args.envelope.now s)) (sym noted)
    (learned_is c.args.self.now.signatures c.args.envelope.now s))
    c.take_in.ensures.noted

pub returns-clause-stands : goal.returns-clause-stands
returns-clause-stands c envelopes stands =
    on_ok_weaker c.take_in.result
    (λ noted.
    subst (λ now. StandFor now (c.args.envelope.now ∷ envelopes)) (sym noted)
    (stands_learned c.args.self.now.signatures c.args.envelope.now envelopes stands))
    c.take_in.ensures.noted

use Rattle.std.proofs.Common.{◌≡◌, ◌∙◌, refl, subst, sym}
use Rattle.std.specs.Prelude.{IsSome, IfSome}
use Rattle.dsr_base.specs.Member.{In}
use Rattle.dsr_script.specs.Support.Said.{said_of}
use Rattle.dsr_script.proofs.KnownLemmas.{found_says, found_in}
use Rattle.dsr_script.proofs.known.Known.find.Goals as goal

pub returns-in-Some-clause-found : goal.returns-in-Some-clause-found
returns-in-Some-clause-found c =
    let said = said_of c.args.said.now in
    c.signature.ensures ∙ subst (λ o. IfSome o (λ k. k ≡ said)) (sym c.in-Some.ensures.key) (found_says c.self.inside.seen.keys said)

pub returns-in-Some-clause-when : goal.returns-in-Some-clause-when
returns-in-Some-clause-when c =
    let said = said_of c.args.said.now in (
      λ h. subst (λ k. In said k.signatures) c.self.view_is ((found_in c.self.inside.seen.keys said).0 (subst IsSome c.in-Some.ensures.key refl)),
      λ h. refl,
    )

pub returns-in-None-clause-when : goal.returns-in-None-clause-when
returns-in-None-clause-when c =
    let said = said_of c.args.said.now in (
      λ h. absurd cc,
      λ h. subst IsSome (sym c.in-None.ensures.key)
          ((found_in c.self.inside.seen.keys said).1 (subst (λ k. In said k.signatures) (sym c.self.view_is) h)),
    )

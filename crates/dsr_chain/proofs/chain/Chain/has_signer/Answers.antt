use Rattle.std.proofs.Common.{◌≡◌, ◌↔◌, IsTrue, Any, subst, ◌∙◌}
use Rattle.dsr_chain.specs.Chain.{signers_of}
use Rattle.dsr_chain.proofs.Keeping.{signed_by_signers}
use Rattle.dsr_chain.proofs.chain.Chain.has_signer.Goals as goal

pub returns : goal.returns
returns c =
    let signers_are = c.as_slice.ensures.same ∙ c.signers.ensures in
    let tests : IsTrue c.stands_in.result ↔ Any (λ b. b ≡ c.args.actor) (signers_of c.args.self.now.signatures) =
    subst (λ xs. IsTrue c.stands_in.result ↔ Any (λ b. b ≡ c.args.actor) xs) signers_are c.stands_in.ensures in
    signed_by_signers c.args.actor c.args.self.now.signatures c.stands_in.result tests

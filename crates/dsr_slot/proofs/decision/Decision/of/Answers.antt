use Rattle.std.proofs.Common.{◌≡◌, List, [], ◌∷◌, length, ap, refl, sym, ◌∙◌}
use Rattle.std.proofs.lemmas.Bool.Decides.{Decides-eqb}
use Rattle.dsr_chain.specs.Content.{value_of}
use Rattle.dsr_chain.specs.declared.signed_request.SignedRequest.{SignedRequest}
use Rattle.dsr_slot.proofs.decision.Decision.of.Goals as goal

empty : (xs : List SignedRequest) → length xs ≡ 0 → xs ≡ []
empty [] e = refl
empty (x ∷ xs) e = absurd cc

pub returns-then-is_empty : goal.returns-then-is_empty
returns-then-is_empty c =
    let signed = c.signed.result.now in
    let none : signed ≡ [] = empty signed ((Decides-eqb (length signed) 0).0 (sym c.is_empty.ensures ∙ c.if-is_empty.true)) in
    c.idle.ensures ∙ (ap value_of (sym none) ∙ (ap value_of c.signed.ensures.same ∙ c.signed.ensures.value))

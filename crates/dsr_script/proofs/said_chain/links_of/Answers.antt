use Rattle.std.proofs.Common.{◌≡◌, [], ap, map, subst, sym, ◌∙◌}
use Rattle.std.specs.Prelude.{IfOk}
use Rattle.std.proofs.lemmas.Bool.{false≢true}
use Rattle.dsr_chain.specs.Content.{content}
use Rattle.dsr_chain.specs.Faults.{HasMisfit}
use Rattle.dsr_script.specs.ChainText.{spelled_links}
use Rattle.dsr_script.specs.Support.SpelledText.{short_form}
use Rattle.dsr_script.proofs.InTurn.{short_links}
use Rattle.dsr_script.proofs.said_chain.links_of.Goals as goal

pub returns-else-has_misfit-clause-same : goal.returns-else-has_misfit-clause-same
returns-else-has_misfit-clause-same c =
    let chain = c.args.chain.now in
    let none : ¬ HasMisfit chain = λ misfit. false≢true (sym c.if-has_misfit.false ∙ c.has_misfit.ensures.1 misfit) in
    let are : map short_form c.as_slice.result.now ≡ spelled_links chain.slot (content chain.value) [] chain.signatures =
    ap (map short_form) (c.as_slice.ensures.same ∙ c.signers.ensures) ∙ sym (short_links chain none) in
    subst (λ xs. IfOk c.links_by.result (λ links. links.items ≡ xs)) are c.links_by.ensures.same

use Rattle.std.proofs.Common.{ℕ, sym, ◌∙◌}
use Rattle.std.proofs.lemmas.Bool.{true≢false}
use Rattle.dsr_lines.specs.Begun.{ComesTwice}
use Rattle.dsr_lines.proofs.BegunLemmas.{none_of, none_twice, rest_of}
use Rattle.dsr_lines.proofs.begun.+client_twice.Goals as goal

pub returns-else-is_among-clause-none : goal.returns-else-is_among-clause-none
returns-else-is_among-clause-none t c =
    let clients = c.args.clients.now in
    none_of c.client_twice.result ((d : ℕ) → ComesTwice d (rest_of clients) → ⊥) ((d : ℕ) → ComesTwice d clients → ⊥)
    (none_twice clients c.first-item.result c.in-len1-up.len_at_least c.first-item.is
    (λ among. true≢false (sym (c.is_among.ensures.1 among) ∙ c.if-is_among.false))) c.client_twice.ensures.none

use Rattle.std.proofs.Common.{◌<◌, ℕ, List, length, refl, sym, ◌∙◌, subst}
use Rattle.std.proofs.lemmas.Bool.{false≢true}
use Rattle.dsr_rounds.proofs.Proposing.{refused_pick, chosen_pick}
use Rattle.dsr_rounds.proofs.ring.Ring.proposal.Goals as goal

pub returns-then-not-is_allowed-clause-eager : goal.returns-then-not-is_allowed-clause-eager
returns-then-not-is_allowed-clause-eager c =
    refused_pick c.args.seat.now c.replica-replica.result c.replica-replica.ensures.same c.in-Some.clients
    (sym c.waiting.ensures.next ∙ sym c.in-Some.ensures.some) c.requires.due
    (λ both. absurd (false≢true (sym c.if-not-is_allowed.true ∙ c.is_allowed.ensures.1 both)))

pub returns-clause-eager : goal.returns-clause-eager
returns-clause-eager c =
    let good = c.in-Some.ensures.when.0 refl in
    chosen_pick c.args.seat.now c.replica-replica.result c.replica-replica.ensures.same c.in-Some.clients
    (sym c.waiting.ensures.next ∙ sym c.in-Some.ensures.some)
    (subst (λ (clients : List ℕ). 0 < length clients) (sym c.in-Some.ensures.some) good.some)

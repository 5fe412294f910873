use Rattle.std.proofs.Common.{◌≡◌, ◌<◌, ◌∷◌, None, Some, true, ℕ, get_or, slice_set, subst, sym, arith}
use Rattle.std.specs.Prelude.{is_some}
use Rattle.dsr_ledger.specs.declared.reply.Reply.{Reply}
use Rattle.dsr_quorum.specs.Tally.{Tally, StandsFor}
use Rattle.dsr_quorum.specs.contracts.tally.Tally.{the_view}
use Rattle.dsr_quorum.specs.Votes.{Note}
use Rattle.dsr_quorum.proofs.Standing.{stands_again, stands_first}
use Rattle.dsr_quorum.proofs.tally.Tally.note.Goals as goal

abbrev noted : ℕ → Reply → Note
noted replica reply = record { replica = replica; reply = reply }

pub returns-then-is_none-clause-stands : goal.returns-then-is_none-clause-stands
returns-then-is_none-clause-stands c notes stands =
    let same = sym c.self.view_is in
    let fields = c.self.invariant in
    let at = c.number-place.ensures.same in
    let inside = subst (λ (t : Tally). c.args.replica < t.n) same c.requires in
    subst (λ r. StandsFor (the_view (record {
      f = c.self.inside.f;
      n = c.self.inside.n;
      firsts = slice_set c.self.inside.firsts c.number-place.result (Some c.args.reply);
      winner = c.or-self-inside.result;
    })) (noted r c.args.reply ∷ notes)) at
    (stands_first c.self.inside.f c.self.inside.n c.self.inside.firsts c.self.inside.winner (noted c.number-place.result c.args.reply) notes
    c.elected.result c.or-self-inside.result (omega (arith, at, inside)) (omega (arith, fields.0, fields.1)) c.if-is_none.ensures
    (subst (λ t. StandsFor t notes) same stands) c.elected.ensures c.or-self-inside.ensures)

pub returns-else-is_none-clause-stands : goal.returns-else-is_none-clause-stands
returns-else-is_none-clause-stands c notes stands =
    let same = sym c.self.view_is in
    let at = c.number-place.ensures.same in
    subst (λ t. StandsFor t (noted c.args.replica c.args.reply ∷ notes)) c.self.view_is
    (stands_again (the_view c.self.inside) (noted c.args.replica c.args.reply) notes (subst (λ (t : Tally). c.args.replica < t.n) same c.requires)
    (subst (λ r. is_some (get_or c.self.inside.firsts r None) ≡ true) at c.if-is_none.ensures)
    (subst (λ t. StandsFor t notes) same stands))

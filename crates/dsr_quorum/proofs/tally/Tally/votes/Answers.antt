use Rattle.std.proofs.Common.{rules, ◌≡◌, ◌∙◌, None, ap}
use Rattle.std.specs.Prelude.{slice_index_or}
use Rattle.dsr_base.proofs.Pigeonhole.{count_agree}
use Rattle.dsr_quorum.specs.Support.Tally.{votes_in}
use Rattle.dsr_quorum.specs.Votes.{first_of, is_reply}
use Rattle.dsr_quorum.proofs.tally.Tally.votes.Goals as goal

pub returns-clause-stands : goal.returns-clause-stands
returns-clause-stands c notes stands =
    let tally = c.args.self.now in
    let reply = c.args.reply.now in
    let same : c.loop-place.count ≡ votes_in tally reply = search rules in
    same
    ∙ count_agree (λ p. is_reply reply (slice_index_or tally.firsts p None)) (λ p. is_reply reply (first_of p notes)) tally.n
    (λ p within. ap (is_reply reply) (stands.firsts p within))

use Rattle.std.proofs.Common.{◌≡◌, suc, ◌+◌, ◌∷◌, ap, ap₂, sym, ◌∙◌, subst, add-one, arith}
use Rattle.dsr_names.specs.Shape.{Shape}
use Rattle.dsr_client.specs.State.{state_after}
use Rattle.dsr_quorum.specs.Tally.{StandsFor as Counts}
use Rattle.dsr_quorum.specs.Votes.{votes}
use Rattle.dsr_notes.proofs.VoteLemmas.{few_in_tally, one_more_vote}
use Rattle.dsr_notes.specs.declared.note.Note.TheVariants.{Vote}
use Rattle.dsr_notes.proofs.vote.vote_for.Goals as goal

pub overflow_add-count : goal.overflow_add-count
overflow_add-count c =
    let few = few_in_tally c.tally.result.now c.args.reply.now in
    let same = ap (λ (s : Shape). s.n) c.requires.shape in
    omega (arith, few, c.votes-count.ensures.same, c.tally.ensures.n, same, c.f-needed.ensures.allowed.few_replicas)

pub returns : goal.returns
returns c log stands none =
    let shape = c.args.shape.now in
    let notes = (state_after shape log).notes in
    let reply = c.args.reply.now in
    let counts = subst (λ s. Counts c.tally.result.now (state_after s log).notes) c.requires.shape (c.tally.ensures.stands log stands) in
    let same : c.votes-count.result ≡ votes shape.n notes reply =
    c.votes-count.ensures.stands notes counts ∙ ap (λ k. votes k notes reply) (c.tally.ensures.n ∙ ap (λ (s : Shape). s.n) c.requires.shape) in
    let more : c.votes-count.result + 1 ≡ votes shape.n (record { replica = c.args.replica; reply = reply } ∷ notes) reply =
    add-one c.votes-count.result ∙ (ap suc same ∙ sym (one_more_vote shape.n c.args.replica notes reply c.requires.replica none)) in
    ap₂ Vote more (add-one c.f-needed.result ∙ ap suc c.f-needed.ensures.same)

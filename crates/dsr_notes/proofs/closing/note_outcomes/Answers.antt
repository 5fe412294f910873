use Rattle.std.proofs.Common.{◌≡◌, ◌∙◌, ap, sym, suc, subst, ◌+◌, ◌++◌, take, drop, reverse}
use Rattle.std.proofs.lemmas.List.{take_all}
use Rattle.dsr_history.specs.History.{acting, rises_above}
use Rattle.dsr_notes.specs.Closing.{outcomes}
use Rattle.dsr_notes.specs.Noting.{Adds}
use Rattle.dsr_notes.proofs.ClosingLemmas.{before_rest, next_place, same_place, notes_acted, notes_stale}
use Rattle.dsr_notes.proofs.NotingLemmas.{adds_none}
use Rattle.dsr_notes.proofs.closing.note_outcomes.Goals as goal
use Rattle.dsr_notes.proofs.closing.note_outcomes.Goals.{then-is_next, else-is_next}

pub loop-request-preserved : goal.loop-request-preserved
loop-request-preserved c older acted history =
    let slot = c.args.slot in
    let requests = c.args.requests.now in
    let i = c.loop-request.request-index in
    let request = c.request-item.result in
    let inside = c.loop-request-test.true in
    let is = c.request-item.is in
    let so_far = c.loop-request.invariant older acted history in
    let before = reverse (take i requests) ++ older in
    let tells : c.is_next.result ≡ rises_above request before =
    c.is_next.ensures.acted (reverse (drop (suc i) requests)) before so_far.0
    (history ∙ ap (λ l. reverse (acting l)) (before_rest slot requests older i request inside is)) in
    elim c.if-is_next.branch [
      | then-is_next w ↦
          let rises = sym tells ∙ w.if-is_next.true in (
            w.place-is ∙ ap (λ n. n + 1) so_far.0 ∙ next_place slot requests older i request inside is rises,
            notes_acted slot requests older i request inside is c.args.notes.now c.loop-request.notes c.if-is_next.notes c.loop-request.place
                rises so_far.0 so_far.1 (subst (λ notes. Adds c.loop-request.notes notes _) (sym w.notes-is) w.add.ensures),
          )
      | else-is_next w ↦
          let falls = sym tells ∙ w.if-is_next.false in (
            w.place-is ∙ so_far.0 ∙ same_place slot requests older i request inside is falls,
            notes_stale slot requests older i request inside is c.args.notes.now c.loop-request.notes c.if-is_next.notes
                falls so_far.1 (subst (λ notes. Adds c.loop-request.notes notes _) (sym w.notes-is) w.add-else-is_next.ensures),
          )
    ]

pub loop-request-init : goal.loop-request-init
loop-request-init c older acted history = (acted, adds_none c.args.notes.now)

pub returns : goal.returns
returns c older acted history =
    subst (λ requests. Adds c.args.notes.now c.loop-request.notes (outcomes c.args.slot older requests))
    (take_all c.loop-request.request-index c.args.requests.now c.loop-request-test.false)
    (c.loop-request.invariant older acted history).1

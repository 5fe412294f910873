use Rattle.std.proofs.Common.{◌≡◌, ◌∙◌, ap, sym, subst, arith, ◌++◌, ◌∷◌, [], reverse, length, map}
use Rattle.std.proofs.lemmas.List.{length-reverse}
use Rattle.dsr_chain.specs.Content.{requests_in}
use Rattle.dsr_history.specs.History.{acting, requests_of, acted}
use Rattle.dsr_notes.specs.Closing.{outcomes}
use Rattle.dsr_notes.specs.Noting.{Adds}
use Rattle.dsr_notes.specs.declared.note.Note.TheVariants.{Decided}
use Rattle.dsr_notes.proofs.ClosingLemmas.{content_is}
use Rattle.dsr_notes.proofs.NotingLemmas.{adds_then}
use Rattle.dsr_notes.proofs.closing.note_decision.Goals as goal

pub returns-in-Some : goal.returns-in-Some
returns-in-Some c older values_is acted_is =
    let d = c.args.decision.now in
    let kept = c.args.closing.now.kept in
    let before = requests_of (map requests_in older) in
    let requests : c.as_slice.result.now ≡ requests_in d = c.as_slice.ensures.same ∙ content_is d c.in-Some.requests (sym c.in-Some.ensures) in
    let slot : c.saturating_sub-slot.result ≡ length older =
    let same = ap length c.decided.ensures.same in
    let count = length-reverse c.args.loyal.now.values in
    let more = ap length values_is in
    omega (arith, c.saturating_sub-slot.ensures, same, count, more) in
    let history : c.history.result.now ≡ reverse (acting (reverse c.as_slice.result.now ++ before)) =
    c.history.ensures.same ∙ ap (λ vs. reverse (acted (map requests_in vs))) values_is ∙ ap (λ rs. reverse (acting (reverse rs ++ before))) (sym requests) in
    subst (Adds c.args.notes.now c.note_outcomes.new.notes)
    (ap (λ n. Decided n kept ∷ outcomes n before c.as_slice.result.now) slot ∙ ap (λ rs. Decided (length older) kept ∷ outcomes (length older) before rs) requests)
    (adds_then c.args.notes.now c.add.new.self c.note_outcomes.new.notes (Decided c.saturating_sub-slot.result kept ∷ [])
    (outcomes c.saturating_sub-slot.result before c.as_slice.result.now) c.add.ensures (c.note_outcomes.ensures before acted_is history))

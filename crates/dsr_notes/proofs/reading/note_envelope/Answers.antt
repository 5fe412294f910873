use Rattle.std.proofs.Common.{◌≡◌, ◌≢◌, ◌++◌, List, [], suc, length, map, refl, if◌then◌else◌, sym, ◌∙◌, ap, ap₂, subst, arith}
use Rattle.dsr_rotation.specs.Calendar.{closed_slots}
use Rattle.dsr_slot.specs.Keeping.{keep}
use Rattle.dsr_envelope.specs.Envelope.{chains_for}
use Rattle.dsr_envelope.specs.Log.{rounds}
use Rattle.dsr_envelope.specs.declared.entry.Entry.{Entry}
use Rattle.dsr_replica.specs.Counts.{HasCounts}
use Rattle.dsr_replica.specs.Decided.{slot_kept}
use Rattle.dsr_replica.specs.Replica.{StandsFor}
use Rattle.dsr_notes.specs.Closing.{closes}
use Rattle.dsr_notes.specs.Noting.{Notes, Adds}
use Rattle.dsr_notes.specs.Reading.{AreFates, silence}
use Rattle.dsr_notes.specs.Support.Reading.{AddsRead}
use Rattle.dsr_notes.specs.declared.note.Note.TheVariants.{Kept}
use Rattle.dsr_notes.specs.declared.note.Note.{Note}
use Rattle.dsr_notes.proofs.NotingLemmas.{adds_none}
use Rattle.dsr_notes.proofs.ReadingLemmasOfTakes.{joined, if_closing, closing_more}
use Rattle.dsr_notes.proofs.reading.note_envelope.Goals as goal
use Rattle.dsr_notes.proofs.reading.note_envelope.Goals.{After-note_fates}

-- the silence and the fates are what is read, whatever is noted after them
read_and : (c : After-note_fates) (log : List Entry) → StandsFor c.args.loyal.now log → (after : Notes) (kept other : List Note)
    → Adds c.note_fates.new.notes after kept → kept ≡ other
    → AddsRead c.args.loyal.now.shape log c.args.envelope.now c.args.notes.now after other
read_and c log stands after kept other adds same whole =
    let r = c.args.loyal.now in
    let envelope = c.args.envelope.now in
    let t = rounds r.shape log in
    let at = c.round-round.ensures.stands log stands in
    let chains_are = c.note_chains-chains.ensures.chains ∙ ap (λ k. chains_for k envelope) at in
    let last = adds whole in
    let fates = c.note_fates.ensures log stands last.0 in
    let first = c.note_chains-chains.ensures.silence fates.0 in (
      first.0,
      silence t envelope ++ fates.1,
      record { fates = fates.1; are = subst (λ chains. AreFates r.shape log [] chains fates.1) chains_are fates.2; is = refl },
      joined c.args.notes.now.items c.note_chains-chains.new.notes.items c.note_fates.new.notes.items after.items (silence t envelope) fates.1 kept other
          (first.1 ∙ ap (λ k. c.args.notes.now.items ++ silence k envelope) at) fates.3 last.1 same,
    )

pub returns-then-number-n-clause-last : goal.returns-then-number-n-clause-last
returns-then-number-n-clause-last c =
    let r = c.args.loyal.now in
    let envelope = c.args.envelope.now in
    let last : suc c.args.from ≡ r.shape.n =
    (let n = c.n.ensures.same ∙ ap (λ z. z.n) c.shape.ensures in
    omega (arith, c.if-number-n.true, c.number.ensures.same, n)) in (
      last,
      λ log stands.
          let t = rounds r.shape log in
          let at = c.round-round.ensures.stands log stands in
          let now = sym c.round-round.ensures.same ∙ at in
          let chains_are = c.note_chains-chains.ensures.chains ∙ ap (λ k. chains_for k envelope) at in
          let more = closing_more r.shape log t (subst (HasCounts r.shape log) now stands.counts) c.args.from envelope (sym stands.due_is ∙ c.requires) in
          record {
            read = read_and (goal.at.returns-then-number-n-clause-last c).After-note_fates log stands c.note_kept.new.notes _ _
                (c.note_kept.ensures.kept log stands)
                (ap₂ (λ k chains. if closes r.shape k
                then map Kept (keep r.shape (closed_slots r.shape k) (suc r.shape.f) (slot_kept r.shape log (closed_slots r.shape k) (suc r.shape.f)) chains)
                else []) now chains_are
                ∙ if_closing (closes r.shape t) _ _ (λ closing. ap (map Kept) (more closing)));
            count = λ closing whole.
                c.note_kept.ensures.count log stands (ap (closes r.shape) now ∙ closing) whole
                ∙ ap length (ap₂ (λ k chains. keep r.shape (closed_slots r.shape k) (suc r.shape.f)
                (slot_kept r.shape log (closed_slots r.shape k) (suc r.shape.f)) chains) now chains_are ∙ more closing);
          },
    )

pub returns-else-number-n-clause-none : goal.returns-else-number-n-clause-none
returns-else-number-n-clause-none c =
    let r = c.args.loyal.now in
    let n = c.n.ensures.same ∙ ap (λ z. z.n) c.shape.ensures in
    let other : suc c.args.from ≢ r.shape.n = λ e. omega (arith, c.if-number-n.false, c.number.ensures.same, n, e) in (
      other,
      λ log stands. read_and (goal.at.returns-else-number-n-clause-none c).After-note_fates log stands c.note_fates.new.notes [] []
          (adds_none c.note_fates.new.notes) refl,
    )

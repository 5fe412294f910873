use Rattle.std.proofs.Common.{◌∷◌, sym, subst}
use Rattle.std.specs.Bool.{OnTrue}
use Rattle.std.specs.Prelude.{slice_set}
use Rattle.dsr_envelope.specs.declared.entry.Entry.TheVariants.{Take}
use Rattle.dsr_run.specs.OwnStep.{KeepsOwn}
use Rattle.dsr_run.specs.Step.{log_of}
use Rattle.dsr_check.specs.Support.Audit.{AreParts}
use Rattle.dsr_check.specs.Support.Party.{CanGet, Plays}
use Rattle.dsr_check.proofs.Auditing.{on_true, can_get, plays_at, same_held, parts_taken_at}
use Rattle.dsr_check.proofs.audit.Audit.take.Goals as goal

pub take-requires : goal.take-requires
take-requires c =
    let a = c.args.self.now in
    let run = c.requires.0 in
    let actor = c.has.ensures.0 c.if-not-has.false in
    let other = c.has-else-not-has.ensures.0 c.if-not-has-2.false in
    subst (CanGet c.index_mut.result.now c.args.at.now c.args.from.now) (sym c.envelope.ensures)
    (can_get a.shape run a.parties.items a.boxes a.notary.items a.keys.items a.known.signatures a.firsts.items c.requires.1 c.args.at.now c.args.from.now c.take-held.result
    c.index_mut.result.now c.place-poster.result c.place-taker.result c.place-poster.ensures c.place-taker.ensures actor other c.take-held.ensures.item
    c.index_mut.ensures.value)

pub returns-clause-next : goal.returns-clause-next
returns-clause-next c run are =
    let a = c.args.self.now in
    let at = c.args.at.now in
    let from = c.args.from.now in
    let held = c.take-held.result in
    let actor = c.has.ensures.0 c.if-not-has.false in
    let other = c.has-else-not-has.ensures.0 c.if-not-has-2.false in
    let plays = plays_at a.shape run a.parties.items a.boxes a.notary.items a.keys.items a.known.signatures a.firsts.items are at c.index_mut.result.now c.place-taker.result
    c.place-taker.ensures actor c.index_mut.ensures.value in
    let same = same_held a.shape run a.parties.items a.boxes a.notary.items a.keys.items a.known.signatures a.firsts.items are at from held c.args.draft.now
    c.place-poster.result c.place-taker.result c.place-poster.ensures c.place-taker.ensures actor other c.take-held.ensures.item
    (c.holds.ensures.0 c.if-not-holds.false) in
    on_true c.in_ok-next.next
    (KeepsOwn a.shape at (log_of run at) (Take from held.envelope) × Plays a.shape at (Take from held.envelope ∷ log_of run at) c.take.new.self)
    (AreParts a.shape ((at, Take from c.args.draft.now) ∷ run) (slice_set a.parties.items c.place-taker.result c.take.new.self) c.take-held.new.self a.notary.items
    a.keys.items a.known.signatures a.firsts.items)
    (λ took. parts_taken_at a.shape run a.parties.items a.boxes a.notary.items a.keys.items a.known.signatures a.firsts.items are at from held c.args.draft.now c.take.new.self
    c.place-poster.result c.place-taker.result c.take-held.new.self c.place-poster.ensures c.place-taker.ensures actor other c.take-held.ensures.item
    c.take-held.ensures.rest same took)
    (subst (λ e. OnTrue c.in_ok-next.next (KeepsOwn a.shape at (log_of run at) (Take from e) × Plays a.shape at (Take from e ∷ log_of run at) c.take.new.self))
    c.envelope.ensures (c.in_ok-next.ensures.takes a.shape (log_of run at) plays other))

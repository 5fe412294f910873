use Rattle.std.proofs.Common.{◌↔◌}
use Rattle.dsr_run.specs.OwnStep.{ForgesNone}
use Rattle.dsr_script.specs.Held.{IsUnforged}
use Rattle.dsr_mail.proofs.Planting.{forges_none}
use Rattle.dsr_mail.proofs.traitor_seat.TraitorSeat.built.Goals.{After-from_ref-keys}
use Rattle.dsr_mail.proofs.traitor_seat.TraitorSeat.built.Goals as goal

sound : (c : After-from_ref-keys) → IsUnforged c.from_ref-keys.result.now c.self.inside.known.signatures c.args.draft.now
    ↔ ForgesNone c.args.self.now.shape c.args.self.now.actor c.args.self.now.log c.args.draft.now
sound c =
    let is = c.self.invariant in
    rw (c.from_ref-keys.ensures.value, ← c.self.view_is) (forges_none c.self.inside.seat.shape _ _ _ _ c.args.draft.now is.own is.traitor is.knows)

pub returns-in-Ok-clause-made : goal.returns-in-Ok-clause-made
returns-in-Ok-clause-made c = (sound (goal.at.returns-in-Ok-clause-made c).After-from_ref-keys).0 (rw c.in-Ok.ensures.same at c.in-Ok.ensures.unforged)

pub returns-in-Ok-clause-forged : goal.returns-in-Ok-clause-forged
returns-in-Ok-clause-forged c forged = absurd (forged (returns-in-Ok-clause-made c))

pub returns-in-Err-clause-forged : goal.returns-in-Err-clause-forged
returns-in-Err-clause-forged c forged =
    c.in-Err.ensures.forged.1 (λ unforged. forged ((sound (goal.at.returns-in-Err-clause-forged c).After-from_ref-keys).0 unforged))

pub returns-in-Err-clause-honest : goal.returns-in-Err-clause-honest
returns-in-Err-clause-honest c e none = c.in-Err.ensures.forged.0 e ((sound (goal.at.returns-in-Err-clause-honest c).After-from_ref-keys).1 none)

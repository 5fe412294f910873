use Rattle.std.proofs.Common.{◌≡◌, ◌≢◌, ◌++◌, rules, refl, sym, ◌∙◌, ap, subst}
use Rattle.std.proofs.lemmas.Bool.{false≢true, true≢false}
use Rattle.dsr_names.specs.Shape.{sender}
use Rattle.dsr_names.specs.declared.actor.Actor.TheVariants.{Replica}
use Rattle.dsr_play.specs.declared.event.Event.TheVariants.{Post}
use Rattle.dsr_run.specs.Step.{log_of}
use Rattle.dsr_notes.specs.Unproposed.{AreUnproposed}
use Rattle.dsr_notes.proofs.DoneLemmas.{not_notable, plain_first, post_noted, own_slot, other_slot}
use Rattle.dsr_notes.proofs.unproposed.note_unproposed.Goals as goal

pub returns-then-not-proposes_nothing : goal.returns-then-not-proposes_nothing
returns-then-not-proposes_nothing c =
    let p = c.args.replica in
    not_notable c.args.stage.now.shape c.args.stage.now.run (Post (Replica p) (Replica c.args.to) c.args.pick.now) c.args.notes.now c.requires
    (λ is. false≢true (c.if-not-proposes_nothing.ensures.1 (plain_first p c.args.to c.args.pick.now is)))

pub returns-in_default : goal.returns-in_default
returns-in_default c = post_noted c.args.stage.now.shape c.args.stage.now.run c.args.replica c.args.to c.args.pick.now c.args.notes.now
    (c.if-not-proposes_nothing.ensures.0 refl) (λ loyal whole. absurd (true≢false (sym (c.in_default.ensures.when.1 loyal))))

pub note_waiting-requires : goal.note_waiting-requires
note_waiting-requires c log stands = sym (c.round-slot.ensures.stands log stands)

pub returns-then-eq : goal.returns-then-eq
returns-then-eq c =
    let w = c.args.stage.now in
    let p = c.args.replica in
    let log = log_of w.run (Replica p) in
    let own = c.in-Ok.loyal.now in
    let plays = c.in-Ok.ensures.plays in
    let new = c.note_waiting.new.notes in
    let waiting = c.note_waiting.ensures log plays.stands in
    let sends : sender own.shape c.round-slot.result ≡ p = search (rules, c.eq.ensures, c.if-eq.true, c.sender.ensures.same, c.shape.ensures) in
    post_noted w.shape w.run p c.args.to c.args.pick.now new (c.if-not-proposes_nothing.ensures.0 refl) (λ loyal whole. subst (λ s. AreUnproposed s (Replica p) log new.items) plays.shape_is
    (subst (AreUnproposed own.shape (Replica p) log) (sym ((waiting.2 whole).1 ∙ ap (λ l. l ++ waiting.0) c.requires))
    (own_slot own.shape log p c.round-slot.result waiting.0 (c.round-slot.ensures.stands log plays.stands) sends waiting.1)))

pub returns-else-eq : goal.returns-else-eq
returns-else-eq c =
    let w = c.args.stage.now in
    let p = c.args.replica in
    let log = log_of w.run (Replica p) in
    let own = c.in-Ok.loyal.now in
    let plays = c.in-Ok.ensures.plays in
    let others : sender own.shape c.round-slot.result ≢ p = search (rules, c.eq.ensures, c.if-eq.false, c.sender.ensures.same, c.shape.ensures) in
    post_noted w.shape w.run p c.args.to c.args.pick.now c.args.notes.now (c.if-not-proposes_nothing.ensures.0 refl) (λ loyal whole. subst (λ s. AreUnproposed s (Replica p) log c.args.notes.now.items) plays.shape_is
    (other_slot own.shape log p c.round-slot.result c.args.notes.now.items (c.round-slot.ensures.stands log plays.stands) others c.requires))

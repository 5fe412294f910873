use Rattle.std.proofs.Common.{[], ◌∷◌, refl, sym, subst, ◌∙◌}
use Rattle.std.proofs.lemmas.Bool.{false≢true}
use Rattle.std.proofs.lemmas.Option.{same_Some}
use Rattle.dsr_names.specs.declared.actor.Actor.TheVariants.{Replica, Client}
use Rattle.dsr_chain.specs.declared.signed_request.SignedRequest.{SignedRequest}
use Rattle.dsr_run.specs.Step.{log_of}
use Rattle.dsr_notes.specs.Ask.{AreAskNotes}
use Rattle.dsr_notes.specs.declared.note.Note.TheVariants.{Held}
use Rattle.dsr_notes.specs.declared.rest.Rest.TheVariants.{Nothing}
use Rattle.dsr_notes.proofs.AskLemmas.{box_asks, box_held}
use Rattle.dsr_notes.proofs.DoneLemmas.{ask_noted, unheld, unknown, unloyal}
use Rattle.dsr_notes.proofs.ask.note_ask.Goals as goal

pub returns-then-not-is_loyal : goal.returns-then-not-is_loyal
returns-then-not-is_loyal c =
    let w = c.args.stage.now in
    unloyal w.shape w.run c.args.replica c.args.notes.now c.requires (Client c.args.client) (λ loyal. false≢true ((rw c.shape-shape.ensures at c.if-not-is_loyal.ensures).1 loyal))

pub returns-then-not-has : goal.returns-then-not-has
returns-then-not-has c =
    let w = c.args.stage.now in
    unknown w.shape w.run (Replica c.args.replica) (Client c.args.client) c.args.notes.now Nothing
    (λ both. false≢true ((rw c.shape-shape.ensures at c.if-not-has.ensures).1 both.1))

pub returns-in_default : goal.returns-in_default
returns-in_default c =
    let w = c.args.stage.now in
    unheld w.shape w.run (Replica c.args.replica) (Client c.args.client) c.args.notes.now Nothing c.in_default.ensures

pub unreachable-requires : goal.unreachable-requires
unreachable-requires c =
    let w = c.args.stage.now in
    box_asks w.shape w.run c.steps_are_a_run.ensures c.args.client c.args.replica ((rw c.shape-shape.ensures at c.if-not-has.ensures).0 refl)
    c.in-Some.letter.now (sym c.in-Some.ensures) c.envelope.result.now c.envelope.ensures c.in_default-envelope.not-Ask

pub returns : goal.returns
returns c =
    let w = c.args.stage.now in
    let letter = c.in-Some.letter.now in
    ask_noted w.shape w.run c.args.replica c.args.client c.args.notes.now c.add.new.self c.signed.result.now.request c.requires
    ((rw c.shape-shape.ensures at c.if-not-is_loyal.ensures).0 refl)
    (λ x holds. subst (λ (a : SignedRequest). AreAskNotes w.shape (log_of w.run (Replica c.args.replica)) c.args.client x (Held a.request ∷ [])) (sym c.signed.ensures)
    (box_held w.shape w.run c.steps_are_a_run.ensures c.args.client c.args.replica ((rw c.shape-shape.ensures at c.if-not-has.ensures).0 refl) x holds
    c.in-Ask.ask (sym (c.envelope.ensures ∙ same_Some letter x (c.in-Some.ensures ∙ holds)) ∙ c.in-Ask.is)))
    c.add.ensures

use Rattle.std.proofs.Common.{◌≡◌, ◌∷◌, [], refl, sym, ◌∙◌, subst}
use Rattle.std.proofs.lemmas.Bool.{false≢true, true≢false}
use Rattle.std.proofs.lemmas.Option.{same_Some}
use Rattle.dsr_names.specs.Shape.{Shape}
use Rattle.dsr_names.specs.declared.actor.Actor.TheVariants.{Replica, Client}
use Rattle.dsr_client.specs.State.{state_after}
use Rattle.dsr_envelope.specs.declared.envelope.Envelope.{Envelope}
use Rattle.dsr_run.specs.Step.{log_of}
use Rattle.dsr_notes.specs.Noting.{Adds}
use Rattle.dsr_notes.specs.Vote.{vote_note}
use Rattle.dsr_notes.specs.declared.rest.Rest.TheVariants.{Reply}
use Rattle.dsr_notes.proofs.DoneLemmas.{unheld, unknown, vote_noted}
use Rattle.dsr_notes.proofs.vote.note_vote.Goals as goal

pub returns-in_default : goal.returns-in_default
returns-in_default c =
    let w = c.args.stage.now in
    unknown w.shape w.run (Client c.args.client) (Replica c.args.replica) c.args.notes.now Reply
    (λ both. true≢false (sym (c.in_default.ensures.when.1 both.0)))

pub returns-then-not-has : goal.returns-then-not-has
returns-then-not-has c =
    let w = c.args.stage.now in
    unknown w.shape w.run (Client c.args.client) (Replica c.args.replica) c.args.notes.now Reply
    (λ both. false≢true ((rw c.shape-shape.ensures at c.if-not-has.ensures).1 both.1))

pub returns-in_default-in_box : goal.returns-in_default-in_box
returns-in_default-in_box c =
    let w = c.args.stage.now in
    unheld w.shape w.run (Client c.args.client) (Replica c.args.replica) c.args.notes.now Reply c.in_default-in_box.ensures

pub returns-in-Some : goal.returns-in-Some
returns-in-Some c =
    let w = c.args.stage.now in
    let log = log_of w.run (Client c.args.client) in
    let taker = c.in-Ok.taker.now in
    vote_noted w.shape w.run c.args.client c.args.replica c.args.notes.now c.add.new.self c.requires (λ x there.
    subst (λ note. Adds c.args.notes.now c.add.new.self (note ∷ []))
    (subst (λ (s : Shape). c.vote_in.result ≡ vote_note s (state_after s log) c.args.replica c.envelope.result.now) c.shape-shape.ensures (c.vote_in.ensures log c.in-Ok.ensures.stands)
    ∙ subst (λ (y : Envelope). vote_note w.shape (state_after w.shape log) c.args.replica c.envelope.result.now ≡ vote_note w.shape (state_after w.shape log) c.args.replica y)
    (c.envelope.ensures ∙ same_Some c.in-Some.letter.now x (c.in-Some.ensures ∙ there)) refl)
    c.add.ensures)

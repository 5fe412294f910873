-- Replies that count for nothing: of a number that is not outstanding, and of a replica that replied before.
use Rattle.std.proofs.Common.{◌≡◌, ◌≢◌, ℕ, ◌==◌, Bool, true, false, List, ◌∷◌, Option, None, Some, if◌then◌else◌, inl, inr, ◌⊎◌, refl, sym, ◌∙◌, subst}
use Rattle.std.proofs.lemmas.Bool.Decides.{Decides-eqb}
use Rattle.dsr_names.specs.Shape.{Shape}
use Rattle.dsr_names.specs.declared.actor.Actor.TheVariants.{Replica}
use Rattle.dsr_ledger.specs.declared.reply.Reply.{Reply as AReply}
use Rattle.dsr_chain.specs.declared.signed_request.SignedRequest.{SignedRequest}
use Rattle.dsr_quorum.specs.Votes.{first_of, winner}
use Rattle.dsr_quorum.proofs.Lemmas.{winner_again}
use Rattle.dsr_envelope.specs.declared.envelope.Envelope.TheVariants.{Reply}
use Rattle.dsr_envelope.specs.declared.entry.Entry.{Entry}
use Rattle.dsr_envelope.specs.declared.entry.Entry.TheVariants.{Take}
use Rattle.dsr_client.specs.State.{State, settled, with_note, replied_beside, state_after, outstanding, accepted}
use Rattle.dsr_client.proofs.States.{IsQuiet, IsOpen, state_is}

-- a reply of another number than the outstanding one changes nothing
pub early : (shape : Shape) (log : List Entry) (p : ℕ) (reply : AReply)
    → ((ask : SignedRequest) → outstanding shape log ≡ Some ask → reply.number ≢ ask.request.number)
    → state_after shape (Take (Replica p) (Reply reply) ∷ log) ≡ state_after shape log
early shape log p reply other = by_current (outstanding shape log) refl
  where
    not_same : (b : Bool) (x y : State) → (b ≡ true → ⊥) → (if b then x else y) ≡ y
    not_same true x y none = absurd (none refl)
    not_same false x y none = refl

    by_current : (o : Option SignedRequest) → outstanding shape log ≡ o → replied_beside o shape p reply (state_after shape log) ≡ state_after shape log
    by_current None is = refl
    by_current (Some ask) is =
        not_same (reply.number == ask.request.number)
        (settled (winner shape.f shape.n (record { replica = p; reply = reply } ∷ (state_after shape log).notes)) (with_note p reply (state_after shape log)))
        (state_after shape log) (λ e. other ask is ((Decides-eqb reply.number ask.request.number).0 e))

abbrev Unmoved : State → State → Type 0
Unmoved later state = (later.accepted ≡ state.accepted) × (later.outstanding ≡ state.outstanding)

-- a reply of a replica that replied before accepts nothing
pub again : (shape : Shape) (log : List Entry) (p : ℕ) (reply first : AReply) → first_of p (state_after shape log).notes ≡ Some first
    → (accepted shape (Take (Replica p) (Reply reply) ∷ log) ≡ accepted shape log)
    × (outstanding shape (Take (Replica p) (Reply reply) ∷ log) ≡ outstanding shape log)
again shape log p reply first had = by_state (state_is shape log)
  where
    by_number : (b : Bool) → winner shape.f shape.n (state_after shape log).notes ≡ None
        → Unmoved (if b then settled (winner shape.f shape.n (record { replica = p; reply = reply } ∷ (state_after shape log).notes)) (with_note p reply (state_after shape log)) else state_after shape log) (state_after shape log)
    by_number true unanswered =
        subst (λ o. Unmoved (settled o (with_note p reply (state_after shape log))) (state_after shape log))
        (sym (winner_again shape.f shape.n (record { replica = p; reply = reply }) (state_after shape log).notes first had ∙ unanswered)) (refl, refl)
    by_number false unanswered = (refl, refl)

    by_state : (IsQuiet (state_after shape log) ⊎ ((ask : SignedRequest) × IsOpen shape log (state_after shape log) ask))
        → Unmoved (replied_beside (outstanding shape log) shape p reply (state_after shape log)) (state_after shape log)
    by_state (inl quiet) =
        subst (λ o. Unmoved (replied_beside o shape p reply (state_after shape log)) (state_after shape log)) (sym quiet.none) (refl, refl)
    by_state (inr h) =
        subst (λ o. Unmoved (replied_beside o shape p reply (state_after shape log)) (state_after shape log)) (sym h.1.is)
        (by_number (reply.number == h.0.request.number) h.1.unanswered)

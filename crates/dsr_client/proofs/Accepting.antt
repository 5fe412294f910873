-- Facts behind each accepted reply: one loyal replica gave it, and a client that took the same reply from all loyal replicas
-- has accepted it.
use Rattle.std.proofs.Common.{◌≡◌, ℕ, ◌==◌, nat_lt, Bool, true, false, List, [], ◌∷◌, Option, None, Some, if◌then◌else◌, ◌⊎◌, inl, inr, refl, ap, sym, ◌∙◌, subst}
use Rattle.std.specs.Option.{option_or}
use Rattle.std.proofs.lemmas.Bool.Decides.{Decides-eqb}
use Rattle.std.proofs.lemmas.Option.{none-some, same_Some}
use Rattle.dsr_base.specs.Member.{In, here, there}
use Rattle.dsr_names.specs.Shape.{Shape, IsLoyal, HasFewTraitors}
use Rattle.dsr_names.specs.declared.actor.Actor.TheVariants.{Replica, Client}
use Rattle.dsr_ledger.specs.declared.reply.Reply.{Reply as AReply}
use Rattle.dsr_chain.specs.declared.signed_request.SignedRequest.{SignedRequest}
use Rattle.dsr_quorum.specs.Votes.{first_of, is_reply, votes, winner}
use Rattle.dsr_quorum.proofs.Lemmas.{winner_votes, vote_is, some_voter}
use Rattle.dsr_envelope.specs.declared.envelope.Envelope.TheVariants.{Empty, Round, Ask, Reply, Seen}
use Rattle.dsr_envelope.specs.declared.entry.Entry.{Entry}
use Rattle.dsr_envelope.specs.declared.entry.Entry.TheVariants.{Post, Take}
use Rattle.dsr_client.specs.Accepted.{WasTaken, WasAccepted}
use Rattle.dsr_client.specs.State.{State, asked_beside, settled, with_note, replied_beside, state_after, outstanding, accepted}
use Rattle.dsr_client.proofs.States.{IsQuiet, IsOpen, taken_later, state_is, first_noted}

module _ (shape : Shape) where
  accepted_later : (entry : Entry) (log : List Entry) (w : AReply) → WasAccepted shape log w → WasAccepted shape (entry ∷ log) w
  accepted_later entry log w h =
      record { gave = h.gave; enough = h.enough; taken = λ p inside yes. taken_later shape entry log p w (h.taken p inside yes) }

  -- ---- which entries accept

  asked_accepts : (o : Option SignedRequest) (ask : SignedRequest) (state : State) → (asked_beside o ask state).accepted ≡ state.accepted
  asked_accepts None ask state = refl
  asked_accepts (Some other) ask state = refl

  -- the reply that wins by a note, if none won before
  pub new_winner : (o : Option AReply) → o ≡ None → (b : Bool) (reply w : AReply) → option_or o (if b then Some reply else None) ≡ Some w → reply ≡ w
  new_winner (Some r) none b reply w e = absurd (none-some r (sym none))
  new_winner None none true reply w e = same_Some reply w e
  new_winner None none false reply w e = absurd (none-some w e)

  -- a note of the outstanding number that wins
  won : (p : ℕ) (reply : AReply) (older : List Entry) (ask : SignedRequest) (w : AReply) → IsOpen shape older (state_after shape older) ask
      → reply.number ≡ ask.request.number
      → winner shape.f shape.n (record { replica = p; reply = reply } ∷ (state_after shape older).notes) ≡ Some w
      → WasAccepted shape (Take (Replica p) (Reply reply) ∷ older) w
  won p reply older ask w h number is =
      let notes = (record { replica = p; reply = reply } ∷ (state_after shape older).notes) in
      let same : reply ≡ w =
      new_winner (winner shape.f shape.n (state_after shape older).notes) h.unanswered (nat_lt shape.f (votes shape.n notes reply)) reply w is in
      record {
        gave = λ q. is_reply w (first_of q notes);
        enough = winner_votes shape.f shape.n notes w is;
        taken = λ q inside yes. gave q (first_noted q notes w (vote_is w (first_of q notes) yes));
      }
    where
      now : WasTaken shape (Take (Replica p) (Reply reply) ∷ older) p reply
      now = record { newer = []; older = older; ask = ask; parts = refl; current = h.is; number = number }

      gave : (q : ℕ) → In (record { replica = q; reply = w }) (record { replica = p; reply = reply } ∷ (state_after shape older).notes)
          → WasTaken shape (Take (Replica p) (Reply reply) ∷ older) q w
      gave q (here e) = subst (λ z. WasTaken shape (Take (Replica p) (Reply reply) ∷ older) z.replica z.reply) e now
      gave q (there later) =
          taken_later shape (Take (Replica p) (Reply reply)) older q w (h.noted (record { replica = q; reply = w }) later).1

  -- these facts hold for each of these replies
  abbrev pub AllAccepted : List Entry → List AReply → Type 0
  AllAccepted log replies = (w : AReply) → In w replies → WasAccepted shape log w

  settled_accepts : (p : ℕ) (reply : AReply) (older : List Entry) (ask : SignedRequest) → IsOpen shape older (state_after shape older) ask
      → reply.number ≡ ask.request.number → AllAccepted older (accepted shape older)
      → (o : Option AReply) → winner shape.f shape.n (record { replica = p; reply = reply } ∷ (state_after shape older).notes) ≡ o
      → AllAccepted (Take (Replica p) (Reply reply) ∷ older) (settled o (with_note p reply (state_after shape older))).accepted
  settled_accepts p reply older ask h number before None is w inside = accepted_later (Take (Replica p) (Reply reply)) older w (before w inside)
  settled_accepts p reply older ask h number before (Some x) is w (here e) = won p reply older ask w h number (is ∙ ap Some e)
  settled_accepts p reply older ask h number before (Some x) is w (there inside) =
      accepted_later (Take (Replica p) (Reply reply)) older w (before w inside)

  replied_accepts : (p : ℕ) (reply : AReply) (older : List Entry) → AllAccepted older (accepted shape older)
      → (IsQuiet (state_after shape older) ⊎ ((ask : SignedRequest) × IsOpen shape older (state_after shape older) ask))
      → AllAccepted (Take (Replica p) (Reply reply) ∷ older) (replied_beside (outstanding shape older) shape p reply (state_after shape older)).accepted
  replied_accepts p reply older before (inl quiet) =
      subst (λ o. AllAccepted (Take (Replica p) (Reply reply) ∷ older) (replied_beside o shape p reply (state_after shape older)).accepted) (sym quiet.none)
      (λ w inside. accepted_later (Take (Replica p) (Reply reply)) older w (before w inside))
  replied_accepts p reply older before (inr h) =
      subst (λ o. AllAccepted (Take (Replica p) (Reply reply) ∷ older) (replied_beside o shape p reply (state_after shape older)).accepted) (sym h.1.is)
      (by_number (reply.number == h.0.request.number) ((Decides-eqb reply.number h.0.request.number).0))
    where
      by_number : (b : Bool) → (b ≡ true → reply.number ≡ h.0.request.number)
          → AllAccepted (Take (Replica p) (Reply reply) ∷ older)
          (if b then settled (winner shape.f shape.n (record { replica = p; reply = reply } ∷ (state_after shape older).notes)) (with_note p reply (state_after shape older))
          else state_after shape older).accepted
      by_number true same =
          settled_accepts p reply older h.0 h.1 (same refl) before
          (winner shape.f shape.n (record { replica = p; reply = reply } ∷ (state_after shape older).notes)) refl
      by_number false same = λ w inside. accepted_later (Take (Replica p) (Reply reply)) older w (before w inside)

  later_all : (entry : Entry) (older : List Entry) → AllAccepted older (accepted shape older) → AllAccepted (entry ∷ older) (accepted shape older)
  later_all entry older before w inside = accepted_later entry older w (before w inside)

  -- more than f replicas gave each accepted reply while its number was outstanding
  pub was_accepted : (log : List Entry) → AllAccepted log (accepted shape log)
  was_accepted [] = λ w inside. elim inside [ ]
  was_accepted (Post (Client c) envelope ∷ older) = later_all (Post (Client c) envelope) older (was_accepted older)
  was_accepted (Take (Client c) envelope ∷ older) = later_all (Take (Client c) envelope) older (was_accepted older)
  was_accepted (Post (Replica q) Empty ∷ older) = later_all (Post (Replica q) Empty) older (was_accepted older)
  was_accepted (Post (Replica q) (Round round chains) ∷ older) = later_all (Post (Replica q) (Round round chains)) older (was_accepted older)
  was_accepted (Post (Replica q) (Ask ask) ∷ older) =
      subst (AllAccepted (Post (Replica q) (Ask ask) ∷ older)) (sym (asked_accepts (outstanding shape older) ask (state_after shape older)))
      (later_all (Post (Replica q) (Ask ask)) older (was_accepted older))
  was_accepted (Post (Replica q) (Reply reply) ∷ older) = later_all (Post (Replica q) (Reply reply)) older (was_accepted older)
  was_accepted (Post (Replica q) (Seen front) ∷ older) = later_all (Post (Replica q) (Seen front)) older (was_accepted older)
  was_accepted (Take (Replica p) Empty ∷ older) = later_all (Take (Replica p) Empty) older (was_accepted older)
  was_accepted (Take (Replica p) (Round round chains) ∷ older) = later_all (Take (Replica p) (Round round chains)) older (was_accepted older)
  was_accepted (Take (Replica p) (Ask ask) ∷ older) = later_all (Take (Replica p) (Ask ask)) older (was_accepted older)
  was_accepted (Take (Replica p) (Reply reply) ∷ older) = replied_accepts p reply older (was_accepted older) (state_is shape older)
  was_accepted (Take (Replica p) (Seen front) ∷ older) = later_all (Take (Replica p) (Seen front)) older (was_accepted older)

  -- one of those who gave an accepted reply is loyal
  pub loyal_gave : (log : List Entry) (w : AReply) → HasFewTraitors shape → In w (accepted shape log)
      → (p : ℕ) × IsLoyal shape (Replica p) × WasTaken shape log p w
  loyal_gave log w few inside =
      let h = was_accepted log w inside in
      let voter = some_voter shape h.gave few h.enough in
      (voter.0, voter.1, h.taken voter.0 voter.1.0 voter.2)

-- What the state after a log holds: each note is of a take when the request was outstanding, and no reply has won yet.
use Rattle.std.proofs.Common.{◌≡◌, ℕ, ◌==◌, Bool, true, false, List, [], ◌∷◌, Option, None, Some, if◌then◌else◌, ◌⊎◌, inl, inr, refl, ap, sym, ◌∙◌, subst}
use Rattle.std.specs.Option.{option_or}
use Rattle.std.proofs.lemmas.Bool.Decides.{Decides-eqb}
use Rattle.std.proofs.lemmas.Option.{none-some, same_Some}
use Rattle.dsr_base.specs.Member.{In, here, there}
use Rattle.dsr_names.specs.Shape.{Shape}
use Rattle.dsr_names.specs.declared.actor.Actor.TheVariants.{Replica, Client}
use Rattle.dsr_ledger.specs.declared.reply.Reply.{Reply as AReply}
use Rattle.dsr_chain.specs.declared.signed_request.SignedRequest.{SignedRequest}
use Rattle.dsr_quorum.specs.Votes.{Note, first_of, winner}
use Rattle.dsr_envelope.specs.declared.envelope.Envelope.TheVariants.{Empty, Round, Ask, Reply, Seen}
use Rattle.dsr_envelope.specs.declared.entry.Entry.{Entry}
use Rattle.dsr_envelope.specs.declared.entry.Entry.TheVariants.{Post, Take}
use Rattle.dsr_client.specs.Accepted.{WasTaken}
use Rattle.dsr_client.specs.State.{State, asked_beside, settled, with_note, replied_beside, state_after, outstanding}

-- nothing is outstanding, and no reply noted
pub record IsQuiet (state : State) : Type 0 where
  pub none : state.outstanding ≡ None
  pub silent : state.notes ≡ []

module _ (shape : Shape) where
  -- this request is outstanding
  pub record IsOpen (log : List Entry) (state : State) (ask : SignedRequest) : Type 0 where
    pub is : state.outstanding ≡ Some ask
    pub unanswered : winner shape.f shape.n state.notes ≡ None
    pub noted : (note : Note) → In note state.notes
        → (note.reply.number ≡ ask.request.number) × WasTaken shape log note.replica note.reply

  abbrev pub IsState : List Entry → State → Type 0
  IsState log state = IsQuiet state ⊎ ((ask : SignedRequest) × IsOpen log state ask)

  pub taken_later : (entry : Entry) (log : List Entry) (p : ℕ) (reply : AReply) → WasTaken shape log p reply → WasTaken shape (entry ∷ log) p reply
  taken_later entry log p reply h = record {
    newer = entry ∷ h.newer;
    older = h.older;
    ask = h.ask;
    parts = ap (λ l. entry ∷ l) h.parts;
    current = h.current;
    number = h.number;
  }

  open_later : (entry : Entry) (log : List Entry) (state : State) (ask : SignedRequest) → IsOpen log state ask → IsOpen (entry ∷ log) state ask
  open_later entry log state ask h = record {
    is = h.is;
    unanswered = h.unanswered;
    noted = λ note inside. ((h.noted note inside).0, taken_later entry log note.replica note.reply (h.noted note inside).1);
  }

  pub state_later : (entry : Entry) (log : List Entry) (state : State) → IsState log state → IsState (entry ∷ log) state
  state_later entry log state (inl quiet) = inl quiet
  state_later entry log state (inr h) = inr (h.0, open_later entry log state h.0 h.1)

  -- ---- a post

  asked_state : (q : ℕ) (ask : SignedRequest) (older : List Entry) → IsState older (state_after shape older)
      → IsState (Post (Replica q) (Ask ask) ∷ older) (asked_beside (outstanding shape older) ask (state_after shape older))
  asked_state q ask older (inl quiet) =
      subst (λ o. IsState (Post (Replica q) (Ask ask) ∷ older) (asked_beside o ask (state_after shape older))) (sym quiet.none)
      (inr (
        ask,
        record {
          is = refl;
          unanswered = refl;
          noted = λ note inside. elim inside [ ];
        },
      ))
  asked_state q ask older (inr h) =
      subst (λ o. IsState (Post (Replica q) (Ask ask) ∷ older) (asked_beside o ask (state_after shape older))) (sym h.1.is)
      (state_later (Post (Replica q) (Ask ask)) older (state_after shape older) (inr h))

  -- ---- a reply

  -- the state with one more note, if no reply has won by it
  noted_state : (p : ℕ) (reply : AReply) (older : List Entry) (ask : SignedRequest) → IsOpen older (state_after shape older) ask
      → reply.number ≡ ask.request.number → winner shape.f shape.n (record { replica = p; reply = reply } ∷ (state_after shape older).notes) ≡ None
      → IsOpen (Take (Replica p) (Reply reply) ∷ older) (with_note p reply (state_after shape older)) ask
  noted_state p reply older ask h number none = record {
    is = h.is;
    unanswered = none;
    noted = each;
  }
    where
      now : WasTaken shape (Take (Replica p) (Reply reply) ∷ older) p reply
      now = record { newer = []; older = older; ask = ask; parts = refl; current = h.is; number = number }

      each : (note : Note) → In note (record { replica = p; reply = reply } ∷ (state_after shape older).notes)
          → (note.reply.number ≡ ask.request.number) × WasTaken shape (Take (Replica p) (Reply reply) ∷ older) note.replica note.reply
      each note (here e) = (
        ap (λ z. z.reply.number) (sym e) ∙ number,
        subst (λ z. WasTaken shape (Take (Replica p) (Reply reply) ∷ older) z.replica z.reply) e now,
      )
      each note (there later) = (
        (h.noted note later).0,
        taken_later (Take (Replica p) (Reply reply)) older note.replica note.reply (h.noted note later).1,
      )

  settled_state : (p : ℕ) (reply : AReply) (older : List Entry) (ask : SignedRequest) → IsOpen older (state_after shape older) ask
      → reply.number ≡ ask.request.number
      → (o : Option AReply) → winner shape.f shape.n (record { replica = p; reply = reply } ∷ (state_after shape older).notes) ≡ o
      → IsState (Take (Replica p) (Reply reply) ∷ older) (settled o (with_note p reply (state_after shape older)))
  settled_state p reply older ask h number None is = inr (ask, noted_state p reply older ask h number is)
  settled_state p reply older ask h number (Some w) is = inl (record { none = refl; silent = refl })

  replied_state : (p : ℕ) (reply : AReply) (older : List Entry) → IsState older (state_after shape older)
      → IsState (Take (Replica p) (Reply reply) ∷ older) (replied_beside (outstanding shape older) shape p reply (state_after shape older))
  replied_state p reply older (inl quiet) =
      subst (λ o. IsState (Take (Replica p) (Reply reply) ∷ older) (replied_beside o shape p reply (state_after shape older))) (sym quiet.none)
      (inl quiet)
  replied_state p reply older (inr h) =
      subst (λ o. IsState (Take (Replica p) (Reply reply) ∷ older) (replied_beside o shape p reply (state_after shape older))) (sym h.1.is)
      (by_number (reply.number == h.0.request.number) ((Decides-eqb reply.number h.0.request.number).0))
    where
      by_number : (b : Bool) → (b ≡ true → reply.number ≡ h.0.request.number)
          → IsState (Take (Replica p) (Reply reply) ∷ older)
          (if b then settled (winner shape.f shape.n (record { replica = p; reply = reply } ∷ (state_after shape older).notes)) (with_note p reply (state_after shape older))
          else state_after shape older)
      by_number true same =
          settled_state p reply older h.0 h.1 (same refl)
          (winner shape.f shape.n (record { replica = p; reply = reply } ∷ (state_after shape older).notes)) refl
      by_number false same = state_later (Take (Replica p) (Reply reply)) older (state_after shape older) (inr h)

  -- ---- a whole log

  pub state_is : (log : List Entry) → IsState log (state_after shape log)
  state_is [] = inl (record { none = refl; silent = refl })
  state_is (Post (Client c) envelope ∷ older) = state_later (Post (Client c) envelope) older (state_after shape older) (state_is older)
  state_is (Take (Client c) envelope ∷ older) = state_later (Take (Client c) envelope) older (state_after shape older) (state_is older)
  state_is (Post (Replica q) Empty ∷ older) = state_later (Post (Replica q) Empty) older (state_after shape older) (state_is older)
  state_is (Post (Replica q) (Round round chains) ∷ older) =
      state_later (Post (Replica q) (Round round chains)) older (state_after shape older) (state_is older)
  state_is (Post (Replica q) (Ask ask) ∷ older) = asked_state q ask older (state_is older)
  state_is (Post (Replica q) (Reply reply) ∷ older) = state_later (Post (Replica q) (Reply reply)) older (state_after shape older) (state_is older)
  state_is (Post (Replica q) (Seen front) ∷ older) = state_later (Post (Replica q) (Seen front)) older (state_after shape older) (state_is older)
  state_is (Take (Replica p) Empty ∷ older) = state_later (Take (Replica p) Empty) older (state_after shape older) (state_is older)
  state_is (Take (Replica p) (Round round chains) ∷ older) =
      state_later (Take (Replica p) (Round round chains)) older (state_after shape older) (state_is older)
  state_is (Take (Replica p) (Ask ask) ∷ older) = state_later (Take (Replica p) (Ask ask)) older (state_after shape older) (state_is older)
  state_is (Take (Replica p) (Reply reply) ∷ older) = replied_state p reply older (state_is older)
  state_is (Take (Replica p) (Seen front) ∷ older) = state_later (Take (Replica p) (Seen front)) older (state_after shape older) (state_is older)

-- a replica's first reply is noted
pub first_noted : (p : ℕ) (notes : List Note) (reply : AReply) → first_of p notes ≡ Some reply → In (record { replica = p; reply = reply }) notes
first_noted p [] reply e = absurd (none-some reply e)
first_noted p (note ∷ older) reply e = by_older (first_noted p older reply) (first_of p older) refl e
  where
    newest : (b : Bool) → (b ≡ true → note.replica ≡ p) → (if b then Some note.reply else None) ≡ Some reply → In (record { replica = p; reply = reply }) (note ∷ older)
    newest true same e = here (λ i. record { replica = same refl i; reply = same_Some note.reply reply e i })
    newest false same e = absurd (none-some reply e)

    by_older : (first_of p older ≡ Some reply → In (record { replica = p; reply = reply }) older) → (o : Option AReply) → first_of p older ≡ o
        → option_or o (if note.replica == p then Some note.reply else None) ≡ Some reply → In (record { replica = p; reply = reply }) (note ∷ older)
    by_older before None is e = newest (note.replica == p) ((Decides-eqb note.replica p).0) e
    by_older before (Some first) is e = there (before (is ∙ e))

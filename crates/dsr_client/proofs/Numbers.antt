-- Under each number a client posts one request, and what is outstanding has the number after the count of accepted replies.
use Rattle.std.proofs.Common.{◌≡◌, ℕ, suc, ◌≤◌, ◌==◌, Bool, true, false, List, [], ◌∷◌, length, Option, None, Some, if◌then◌else◌, ◌⊎◌, inl, inr, refl, ap, sym, ◌∙◌, subst, arith}
use Rattle.std.specs.Option.{option_map}
use Rattle.std.proofs.lemmas.Option.{none-some, same_Some}
use Rattle.dsr_base.specs.Member.{In, here, there}
use Rattle.dsr_names.specs.Shape.{Shape}
use Rattle.dsr_names.specs.declared.actor.Actor.{Actor}
use Rattle.dsr_names.specs.declared.actor.Actor.TheVariants.{Replica, Client}
use Rattle.dsr_request.specs.declared.op.Op.{Op}
use Rattle.dsr_ledger.specs.declared.reply.Reply.{Reply as AReply}
use Rattle.dsr_chain.specs.declared.signed_request.SignedRequest.{SignedRequest}
use Rattle.dsr_quorum.specs.Votes.{winner}
use Rattle.dsr_envelope.specs.declared.envelope.Envelope.{Envelope}
use Rattle.dsr_envelope.specs.declared.envelope.Envelope.TheVariants.{Empty, Round, Ask, Reply, Seen}
use Rattle.dsr_envelope.specs.declared.entry.Entry.{Entry}
use Rattle.dsr_envelope.specs.declared.entry.Entry.TheVariants.{Post, Take}
use Rattle.dsr_envelope.specs.declared.pick.Pick.{Pick}
use Rattle.dsr_envelope.specs.declared.pick.Pick.TheVariants.{Plain, From, Begin}
use Rattle.dsr_client.specs.Conduct.{ask_of, next_number, chosen_beside, ask_to, IsClientLog}
use Rattle.dsr_client.specs.State.{State, asked_beside, settled, with_note, replied_beside, state_after, outstanding}

-- an own request: the client's, with its signature
pub record IsOwn (me : ℕ) (ask : SignedRequest) : Type 0 where
  pub op : Op
  pub is : ask_of me ask.request.number op ≡ ask

-- what is posted so far: the outstanding request and earlier ones, of smaller numbers and one for each, all of them the
-- client's own
pub record IsNumbered (me : ℕ) (log : List Entry) (state : State) : Type 0 where
  pub next : (ask : SignedRequest) → state.outstanding ≡ Some ask → (ask.request.number ≡ suc (length state.accepted)) × IsOwn me ask
  pub posted : (q : ℕ) (ask : SignedRequest) → In (Post (Replica q) (Ask ask)) log
      → IsOwn me ask × ((ask.request.number ≤ length state.accepted) ⊎ (state.outstanding ≡ Some ask))
  pub once : (q r : ℕ) (ask other : SignedRequest) → In (Post (Replica q) (Ask ask)) log → In (Post (Replica r) (Ask other)) log
      → ask.request.number ≡ other.request.number → ask ≡ other

-- an entry that is not an ask to a replica adds none
same_posts : (entry : Entry) (log : List Entry) → ((q : ℕ) (ask : SignedRequest) → entry ≡ Post (Replica q) (Ask ask) → ⊥)
    → (q : ℕ) (ask : SignedRequest) → In (Post (Replica q) (Ask ask)) (entry ∷ log) → In (Post (Replica q) (Ask ask)) log
same_posts entry log none q ask (here e) = absurd (none q ask e)
same_posts entry log none q ask (there h) = h

numbered_later : (me : ℕ) (entry : Entry) (log : List Entry) (state : State) → ((q : ℕ) (ask : SignedRequest) → entry ≡ Post (Replica q) (Ask ask) → ⊥)
    → IsNumbered me log state → IsNumbered me (entry ∷ log) state
numbered_later me entry log state none h = record {
  next = h.next;
  posted = λ q ask inside. h.posted q ask (same_posts entry log none q ask inside);
  once = λ q r ask other inside inside_other. h.once q r ask other (same_posts entry log none q ask inside) (same_posts entry log none r other inside_other);
}

-- ---- the choice of an ask

ask_is : (o : Option SignedRequest) (ask : SignedRequest) → option_map Ask o ≡ Some (Ask ask) → o ≡ Some ask
ask_is None ask e = absurd (none-some (Ask ask) e)
ask_is (Some other) ask e = let same : Ask other ≡ Ask ask = same_Some (Ask other) (Ask ask) e in let is : other ≡ ask = cc in ap Some is

chosen_again : (current : SignedRequest) (me number : ℕ) (pick : Pick) (ask : SignedRequest) → chosen_beside (Some current) me number pick ≡ Some ask
    → current ≡ ask
chosen_again current me number Plain ask e = same_Some current ask e
chosen_again current me number (From clients) ask e = absurd (none-some ask e)
chosen_again current me number (Begin op) ask e = absurd (none-some ask e)

chosen_new : (me number : ℕ) (pick : Pick) (ask : SignedRequest) → chosen_beside None me number pick ≡ Some ask → (op : Op) × (ask_of me number op ≡ ask)
chosen_new me number Plain ask e = absurd (none-some ask e)
chosen_new me number (From clients) ask e = absurd (none-some ask e)
chosen_new me number (Begin op) ask e = (op, same_Some (ask_of me number op) ask e)

-- ---- one entry

module _ (me : ℕ) (log : List Entry) (state : State) (h : IsNumbered me log state) where
  -- a new request
  numbered_new : (q : ℕ) (ask : SignedRequest) → state.outstanding ≡ None → ((op : Op) × (ask_of me (suc (length state.accepted)) op ≡ ask))
      → IsNumbered me (Post (Replica q) (Ask ask) ∷ log) (record { outstanding = Some ask; notes = []; accepted = state.accepted })
  numbered_new q ask none new = record {
    next = λ z e. let same : ask ≡ z = same_Some ask z e in subst (λ y. (y.request.number ≡ suc (length state.accepted)) × IsOwn me y) same (number, own);
    posted = posted;
    once = once;
  }
    where
      number : ask.request.number ≡ suc (length state.accepted)
      number = ap (λ z. z.request.number) (sym new.1)

      own : IsOwn me ask
      own = record { op = new.0; is = ap (λ k. ask_of me k new.0) number ∙ new.1 }

      earlier : (r : ℕ) (z : SignedRequest) → In (Post (Replica r) (Ask z)) log → z.request.number ≤ length state.accepted
      earlier r z inside = elim (h.posted r z inside).1 [ inl low ↦ low | inr now ↦ absurd (none-some z (sym none ∙ now)) ]

      first : (r : ℕ) (z : SignedRequest) → Post (Replica q) (Ask ask) ≡ Post (Replica r) (Ask z) → ask ≡ z
      first r z e = cc

      posted : (r : ℕ) (z : SignedRequest) → In (Post (Replica r) (Ask z)) (Post (Replica q) (Ask ask) ∷ log)
          → IsOwn me z × ((z.request.number ≤ length state.accepted) ⊎ (Some ask ≡ Some z))
      posted r z (here e) = (subst (IsOwn me) (first r z e) own, inr (ap Some (first r z e)))
      posted r z (there inside) = ((h.posted r z inside).0, inl (earlier r z inside))

      once : (r s : ℕ) (y z : SignedRequest) → In (Post (Replica r) (Ask y)) (Post (Replica q) (Ask ask) ∷ log)
          → In (Post (Replica s) (Ask z)) (Post (Replica q) (Ask ask) ∷ log) → y.request.number ≡ z.request.number → y ≡ z
      once r s y z (here e) (here f) same = sym (first r y e) ∙ first s z f
      once r s y z (here e) (there inside) same =
          let low = earlier s z inside in
          let at = ap (λ x. x.request.number) (first r y e) in
          absurd (omega (arith, number, low, at, same))
      once r s y z (there inside) (here f) same =
          let low = earlier r y inside in
          let at = ap (λ x. x.request.number) (first s z f) in
          absurd (omega (arith, number, low, at, same))
      once r s y z (there inside) (there later) same = h.once r s y z inside later same

  -- the outstanding request again
  numbered_again : (q : ℕ) (ask : SignedRequest) → state.outstanding ≡ Some ask → IsNumbered me (Post (Replica q) (Ask ask) ∷ log) state
  numbered_again q ask current = record { next = h.next; posted = posted; once = once }
    where
      first : (r : ℕ) (z : SignedRequest) → Post (Replica q) (Ask ask) ≡ Post (Replica r) (Ask z) → ask ≡ z
      first r z e = cc

      posted : (r : ℕ) (z : SignedRequest) → In (Post (Replica r) (Ask z)) (Post (Replica q) (Ask ask) ∷ log)
          → IsOwn me z × ((z.request.number ≤ length state.accepted) ⊎ (state.outstanding ≡ Some z))
      posted r z (here e) = (subst (IsOwn me) (first r z e) (h.next ask current).1, inr (current ∙ ap Some (first r z e)))
      posted r z (there inside) = h.posted r z inside

      same_as : (r : ℕ) (z : SignedRequest) → In (Post (Replica r) (Ask z)) log → ask.request.number ≡ z.request.number → ask ≡ z
      same_as r z inside same = elim (h.posted r z inside).1 [
        | inl low ↦ let number = (h.next ask current).0 in absurd (omega (arith, number, low, same))
        | inr now ↦ same_Some ask z (sym current ∙ now)
      ]

      once : (r s : ℕ) (y z : SignedRequest) → In (Post (Replica r) (Ask y)) (Post (Replica q) (Ask ask) ∷ log)
          → In (Post (Replica s) (Ask z)) (Post (Replica q) (Ask ask) ∷ log) → y.request.number ≡ z.request.number → y ≡ z
      once r s y z (here e) (here f) same = sym (first r y e) ∙ first s z f
      once r s y z (here e) (there inside) same =
          sym (first r y e) ∙ same_as s z inside (ap (λ x. x.request.number) (first r y e) ∙ same)
      once r s y z (there inside) (here f) same =
          sym (same_as r y inside (ap (λ x. x.request.number) (first s z f) ∙ sym same)) ∙ first s z f
      once r s y z (there inside) (there later) same = h.once r s y z inside later same

  -- an accepted reply
  numbered_accepted : (p : ℕ) (reply w : AReply)
      → IsNumbered me (Take (Replica p) (Reply reply) ∷ log) (record { outstanding = None; notes = []; accepted = w ∷ state.accepted })
  numbered_accepted p reply w = record {
    next = λ ask e. absurd (none-some ask e);
    posted = λ q ask inside. posted q ask (same_posts (Take (Replica p) (Reply reply)) log (λ r z e. absurd cc) q ask inside);
    once = λ q r ask other inside later.
        h.once q r ask other (same_posts (Take (Replica p) (Reply reply)) log (λ s z e. absurd cc) q ask inside)
        (same_posts (Take (Replica p) (Reply reply)) log (λ s z e. absurd cc) r other later);
  }
    where
      posted : (q : ℕ) (ask : SignedRequest) → In (Post (Replica q) (Ask ask)) log
          → IsOwn me ask × ((ask.request.number ≤ length (w ∷ state.accepted)) ⊎ (None ≡ Some ask))
      posted q ask inside = (
        (h.posted q ask inside).0,
        elim (h.posted q ask inside).1 [
          | inl low ↦ inl (omega (arith, low))
          | inr now ↦ let number = (h.next ask now).0 in inl (omega (arith, number))
        ],
      )

-- ---- a whole log

module _ (shape : Shape) (me : ℕ) where
  numbered_post : (q : ℕ) (ask : SignedRequest) (older : List Entry) → IsNumbered me older (state_after shape older) → (pick : Pick)
      → ask_to shape me older pick ≡ Some (Ask ask) → (o : Option SignedRequest) → outstanding shape older ≡ o
      → IsNumbered me (Post (Replica q) (Ask ask) ∷ older) (asked_beside o ask (state_after shape older))
  numbered_post q ask older h pick e None is =
      numbered_new me older (state_after shape older) h q ask is
      (chosen_new me (next_number shape older) pick ask
      (ap (λ o. chosen_beside o me (next_number shape older) pick) (sym is)
      ∙ ask_is (chosen_beside (outstanding shape older) me (next_number shape older) pick) ask e))
  numbered_post q ask older h pick e (Some current) is =
      let same : current ≡ ask =
      chosen_again current me (next_number shape older) pick ask
      (ap (λ o. chosen_beside o me (next_number shape older) pick) (sym is)
      ∙ ask_is (chosen_beside (outstanding shape older) me (next_number shape older) pick) ask e) in
      numbered_again me older (state_after shape older) h q ask (is ∙ ap Some same)

  numbered_reply : (p : ℕ) (reply : AReply) (older : List Entry) → IsNumbered me older (state_after shape older)
      → (o : Option SignedRequest) → outstanding shape older ≡ o
      → IsNumbered me (Take (Replica p) (Reply reply) ∷ older) (replied_beside o shape p reply (state_after shape older))
  numbered_reply p reply older h None is =
      numbered_later me (Take (Replica p) (Reply reply)) older (state_after shape older) (λ q ask e. absurd cc) h
  numbered_reply p reply older h (Some current) is = by_number (reply.number == current.request.number)
    where
      by_winner : (o : Option AReply) → IsNumbered me (Take (Replica p) (Reply reply) ∷ older) (settled o (with_note p reply (state_after shape older)))
      by_winner None =
          let later = numbered_later me (Take (Replica p) (Reply reply)) older (state_after shape older) (λ q ask e. absurd cc) h in
          record { next = later.next; posted = later.posted; once = later.once }
      by_winner (Some w) = numbered_accepted me older (state_after shape older) h p reply w

      by_number : (b : Bool) → IsNumbered me (Take (Replica p) (Reply reply) ∷ older)
          (if b then settled (winner shape.f shape.n (record { replica = p; reply = reply } ∷ (state_after shape older).notes)) (with_note p reply (state_after shape older))
          else state_after shape older)
      by_number true = by_winner (winner shape.f shape.n (record { replica = p; reply = reply } ∷ (state_after shape older).notes))
      by_number false = numbered_later me (Take (Replica p) (Reply reply)) older (state_after shape older) (λ q ask e. absurd cc) h

  unchanged : (entry : Entry) (older : List Entry) → ((q : ℕ) (ask : SignedRequest) → entry ≡ Post (Replica q) (Ask ask) → ⊥)
      → IsNumbered me older (state_after shape older) → IsNumbered me (entry ∷ older) (state_after shape older)
  unchanged entry older none h = numbered_later me entry older (state_after shape older) none h

  numbered_take : (from : Actor) (envelope : Envelope) (older : List Entry) → IsNumbered me older (state_after shape older)
      → IsNumbered me (Take from envelope ∷ older) (state_after shape (Take from envelope ∷ older))
  numbered_take (Client c) envelope older h = unchanged (Take (Client c) envelope) older (λ q ask e. absurd cc) h
  numbered_take (Replica p) Empty older h = unchanged (Take (Replica p) Empty) older (λ q ask e. absurd cc) h
  numbered_take (Replica p) (Round round chains) older h = unchanged (Take (Replica p) (Round round chains)) older (λ q ask e. absurd cc) h
  numbered_take (Replica p) (Ask a) older h = unchanged (Take (Replica p) (Ask a)) older (λ q ask e. absurd cc) h
  numbered_take (Replica p) (Reply reply) older h = numbered_reply p reply older h (outstanding shape older) refl
  numbered_take (Replica p) (Seen front) older h = unchanged (Take (Replica p) (Seen front)) older (λ q ask e. absurd cc) h

  -- the numbers of a client's log
  pub numbered : (log : List Entry) → IsClientLog shape me log → IsNumbered me log (state_after shape log)
  numbered [] loyal = record { next = λ ask e. absurd (none-some ask e); posted = λ q ask h. elim h [ ]; once = λ q r ask other h. elim h [ ] }
  numbered (Post (Client c) envelope ∷ older) loyal = unchanged (Post (Client c) envelope) older (λ q ask e. absurd cc) (numbered older loyal.0)
  numbered (Take from envelope ∷ older) loyal = numbered_take from envelope older (numbered older loyal.0)
  numbered (Post (Replica q) Empty ∷ older) loyal = unchanged (Post (Replica q) Empty) older (λ r ask e. absurd cc) (numbered older loyal.0)
  numbered (Post (Replica q) (Round round chains) ∷ older) loyal =
      unchanged (Post (Replica q) (Round round chains)) older (λ r ask e. absurd cc) (numbered older loyal.0)
  numbered (Post (Replica q) (Ask ask) ∷ older) loyal =
      numbered_post q ask older (numbered older loyal.0) loyal.1.1.0 loyal.1.1.1 (outstanding shape older) refl
  numbered (Post (Replica q) (Reply reply) ∷ older) loyal = unchanged (Post (Replica q) (Reply reply)) older (λ r ask e. absurd cc) (numbered older loyal.0)
  numbered (Post (Replica q) (Seen front) ∷ older) loyal = unchanged (Post (Replica q) (Seen front)) older (λ r ask e. absurd cc) (numbered older loyal.0)

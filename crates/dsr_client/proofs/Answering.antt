-- A client that took, while its request was outstanding, the same reply from all loyal replicas has accepted it.
use Rattle.std.proofs.Common.{◌≡◌, ℕ, ◌*◌, ◌<◌, ◌==◌, Bool, true, false, List, [], ◌∷◌, ◌++◌, Option, None, Some, if◌then◌else◌, ◌⊎◌, inl, inr, refl, ap, sym, ◌∙◌, subst}
use Rattle.std.specs.Option.{option_or}
use Rattle.std.proofs.lemmas.Bool.{true≢false}
use Rattle.std.proofs.lemmas.Bool.Decides.{Decides-eqb}
use Rattle.std.proofs.lemmas.Option.{none-some, same_Some}
use Rattle.dsr_base.specs.Growth.{Extends}
use Rattle.dsr_base.specs.Member.{In, here, there}
use Rattle.dsr_names.specs.Shape.{Shape, IsLoyal, HasFewTraitors}
use Rattle.dsr_names.specs.declared.actor.Actor.TheVariants.{Replica, Client}
use Rattle.dsr_ledger.specs.declared.reply.Reply.{Reply as AReply}
use Rattle.dsr_chain.specs.declared.signed_request.SignedRequest.{SignedRequest}
use Rattle.dsr_quorum.specs.Votes.{Note, first_of, winner}
use Rattle.dsr_quorum.proofs.Lemmas.{winner_votes, loyal_voter, loyal_win}
use Rattle.dsr_envelope.specs.declared.envelope.Envelope.{Envelope}
use Rattle.dsr_envelope.specs.declared.envelope.Envelope.TheVariants.{Empty, Round, Ask, Reply, Seen}
use Rattle.dsr_envelope.specs.declared.entry.Entry.{Entry}
use Rattle.dsr_envelope.specs.declared.entry.Entry.TheVariants.{Post, Take}
use Rattle.dsr_base.proofs.MemberLemmas.{In-append_right}
use Rattle.dsr_client.proofs.States.{IsQuiet, IsOpen, state_is, first_noted}
use Rattle.dsr_client.specs.State.{State, asked_beside, settled, with_note, replied_beside, with_post, with_take, state_after, outstanding, accepted}

-- ---- accepted replies stay

asked_extends : (o : Option SignedRequest) (ask : SignedRequest) (state : State) → Extends (asked_beside o ask state).accepted state.accepted
asked_extends None ask state = ([], refl)
asked_extends (Some other) ask state = ([], refl)

post_extends : (envelope : Envelope) (state : State) → Extends (with_post envelope state).accepted state.accepted
post_extends Empty state = ([], refl)
post_extends (Round round chains) state = ([], refl)
post_extends (Ask ask) state = asked_extends state.outstanding ask state
post_extends (Reply reply) state = ([], refl)
post_extends (Seen front) state = ([], refl)

settled_extends : (o : Option AReply) (state : State) → Extends (settled o state).accepted state.accepted
settled_extends None state = ([], refl)
settled_extends (Some w) state = (w ∷ [], refl)

if_extends : (b : Bool) (x y : State) (before : List AReply) → Extends x.accepted before → Extends y.accepted before
    → Extends (if b then x else y).accepted before
if_extends true x y before h k = h
if_extends false x y before h k = k

replied_extends : (o : Option SignedRequest) (shape : Shape) (p : ℕ) (reply : AReply) (state : State)
    → Extends (replied_beside o shape p reply state).accepted state.accepted
replied_extends None shape p reply state = ([], refl)
replied_extends (Some ask) shape p reply state =
    if_extends (reply.number == ask.request.number)
    (settled (winner shape.f shape.n (record { replica = p; reply = reply } ∷ state.notes)) (with_note p reply state)) state state.accepted
    (settled_extends (winner shape.f shape.n (record { replica = p; reply = reply } ∷ state.notes)) (with_note p reply state)) ([], refl)

take_extends : (shape : Shape) (p : ℕ) (envelope : Envelope) (state : State) → Extends (with_take shape p envelope state).accepted state.accepted
take_extends shape p Empty state = ([], refl)
take_extends shape p (Round round chains) state = ([], refl)
take_extends shape p (Ask ask) state = ([], refl)
take_extends shape p (Reply reply) state = replied_extends state.outstanding shape p reply state
take_extends shape p (Seen front) state = ([], refl)

-- an entry adds to the accepted replies or leaves them
pub accepted_grow : (shape : Shape) (entry : Entry) (log : List Entry) → Extends (accepted shape (entry ∷ log)) (accepted shape log)
accepted_grow shape (Post (Replica q) envelope) log = post_extends envelope (state_after shape log)
accepted_grow shape (Post (Client c) envelope) log = ([], refl)
accepted_grow shape (Take (Replica p) envelope) log = take_extends shape p envelope (state_after shape log)
accepted_grow shape (Take (Client c) envelope) log = ([], refl)

in_extended : (w : AReply) (later earlier : List AReply) → Extends later earlier → In w earlier → In w later
in_extended w later earlier grown h = subst (In w) (sym grown.1) (behind grown.0 h)
  where
    behind : (newer : List AReply) → In w earlier → In w (newer ++ earlier)
    behind [] h = h
    behind (x ∷ newer) h = there (behind newer h)

-- ---- a replica's first reply stays

first_stays : (p : ℕ) (note : Note) (notes : List Note) (first : AReply) → first_of p notes ≡ Some first → first_of p (note ∷ notes) ≡ Some first
first_stays p note notes first e = ap (λ o. option_or o (if note.replica == p then Some note.reply else None)) e

first_new : (p : ℕ) (reply : AReply) (notes : List Note) → (first : AReply) × (first_of p (record { replica = p; reply = reply } ∷ notes) ≡ Some first)
first_new p reply notes = by_older (first_of p notes) (p == p) ((Decides-eqb p p).1 refl)
  where
    by_older : (o : Option AReply) (b : Bool) → b ≡ true → (first : AReply) × (option_or o (if b then Some reply else None) ≡ Some first)
    by_older (Some r) b yes_b = (r, refl)
    by_older None true yes_b = (reply, refl)
    by_older None false yes_b = absurd (true≢false (sym yes_b))

-- ---- progress

replica_is : (p q : ℕ) (x y : AReply) → Take (Replica p) (Reply x) ≡ Take (Replica q) (Reply y) → p ≡ q
replica_is p q x y e = cc

reply_is : (p q : ℕ) (x y : AReply) → Take (Replica p) (Reply x) ≡ Take (Replica q) (Reply y) → x ≡ y
reply_is p q x y e = cc

post_same : (envelope : Envelope) (state : State) (ask : SignedRequest) → state.outstanding ≡ Some ask → with_post envelope state ≡ state
post_same Empty state ask current = refl
post_same (Round round chains) state ask current = refl
post_same (Ask other) state ask current = ap (λ o. asked_beside o other state) current
post_same (Reply reply) state ask current = refl
post_same (Seen front) state ask current = refl

module _ (shape : Shape) (few : HasFewTraitors shape) (older : List Entry) (ask : SignedRequest) (w : AReply) where
  -- all that loyal replicas replied to the request is this reply
  abbrev pub AgreeOn : List Entry → Type 0
  AgreeOn log = (p : ℕ) (r : AReply) → IsLoyal shape (Replica p) → In (Take (Replica p) (Reply r)) log → r.number ≡ ask.request.number → r ≡ w

  -- the request is still outstanding, and each replica whose reply was taken since has a vote
  record Waits (newer : List Entry) : Type 0 where
    current : outstanding shape (newer ++ older) ≡ Some ask
    voted : (p : ℕ) (r : AReply) → In (Take (Replica p) (Reply r)) newer → r.number ≡ ask.request.number
        → (first : AReply) × (first_of p (state_after shape (newer ++ older)).notes ≡ Some first)

  waits_same : (entry : Entry) (newer : List Entry) → state_after shape (entry ∷ (newer ++ older)) ≡ state_after shape (newer ++ older)
      → ((p : ℕ) (r : AReply) → entry ≡ Take (Replica p) (Reply r) → r.number ≡ ask.request.number → ⊥) → Waits newer → Waits (entry ∷ newer)
  waits_same entry newer same none h = record { current = ap (λ s. s.outstanding) same ∙ h.current; voted = voted }
    where
      voted : (p : ℕ) (r : AReply) → In (Take (Replica p) (Reply r)) (entry ∷ newer) → r.number ≡ ask.request.number
          → (first : AReply) × (first_of p (state_after shape (entry ∷ (newer ++ older))).notes ≡ Some first)
      voted p r (here e) number = absurd (none p r e number)
      voted p r (there later) number =
          let found = h.voted p r later number in (found.0, ap (λ s. first_of p s.notes) same ∙ found.1)

  -- a winner has a loyal vote, so it is this reply
  winner_is : (log : List Entry) → AgreeOn log → (during : List Entry) → ((p : ℕ) (r : AReply) → In (Take (Replica p) (Reply r)) during → In (Take (Replica p) (Reply r)) log)
      → (notes : List Note) → ((note : Note) → In note notes → (note.reply.number ≡ ask.request.number) × In (Take (Replica note.replica) (Reply note.reply)) during)
      → (other : AReply) → winner shape.f shape.n notes ≡ Some other → other ≡ w
  winner_is log agree during inside notes noted other won =
      let voter = loyal_voter shape notes other few (winner_votes shape.f shape.n notes other won) in
      let note = noted (record { replica = voter.0; reply = other }) (first_noted voter.0 notes other voter.2) in
      agree voter.0 other voter.1 (inside voter.0 other note.1) note.0

  -- the notes are of takes in the log
  notes_taken : (log : List Entry) → outstanding shape log ≡ Some ask → (note : Note) → In note (state_after shape log).notes
      → (note.reply.number ≡ ask.request.number) × In (Take (Replica note.replica) (Reply note.reply)) log
  notes_taken log current note inside = by_state (state_is shape log)
    where
      by_state : (IsQuiet (state_after shape log) ⊎ ((a : SignedRequest) × IsOpen shape log (state_after shape log) a))
          → (note.reply.number ≡ ask.request.number) × In (Take (Replica note.replica) (Reply note.reply)) log
      by_state (inl quiet) = absurd (none-some ask (sym quiet.none ∙ current))
      by_state (inr h) =
          let same : h.0 ≡ ask = same_Some h.0 ask (sym h.1.is ∙ current) in
          let found = h.1.noted note inside in (
            found.0 ∙ ap (λ a. a.request.number) same,
            subst (In (Take (Replica note.replica) (Reply note.reply))) (sym found.1.parts)
                (In-append_right (Take (Replica note.replica) (Reply note.reply)) found.1.newer (Take (Replica note.replica) (Reply note.reply) ∷ found.1.older) (here refl)),
          )

  -- a reply of the outstanding number is noted, or wins and is accepted
  reply_progress : (p : ℕ) (reply : AReply) (newer : List Entry) → AgreeOn (Take (Replica p) (Reply reply) ∷ (newer ++ older)) → Waits newer
      → In w (accepted shape (Take (Replica p) (Reply reply) ∷ (newer ++ older))) ⊎ Waits (Take (Replica p) (Reply reply) ∷ newer)
  reply_progress p reply newer agree h = by_number (reply.number == ask.request.number) refl
    where
      log : List Entry
      log = newer ++ older

      state : State
      state = state_after shape (newer ++ older)

      notes : List Note
      notes = record { replica = p; reply = reply } ∷ (state_after shape (newer ++ older)).notes

      after : state_after shape (Take (Replica p) (Reply reply) ∷ (newer ++ older)) ≡ replied_beside (Some ask) shape p reply (state_after shape (newer ++ older))
      after = ap (λ o. replied_beside o shape p reply (state_after shape (newer ++ older))) h.current

      noted : reply.number ≡ ask.request.number → (note : Note) → In note (record { replica = p; reply = reply } ∷ (state_after shape (newer ++ older)).notes)
          → (note.reply.number ≡ ask.request.number) × In (Take (Replica note.replica) (Reply note.reply)) (Take (Replica p) (Reply reply) ∷ (newer ++ older))
      noted number note (here e) = (ap (λ z. z.reply.number) (sym e) ∙ number, here (λ i. Take (Replica (e i).replica) (Reply (e i).reply)))
      noted number note (there later) =
          let found = notes_taken (newer ++ older) h.current note later in (found.0, there found.1)

      with_vote : (q : ℕ) (r : AReply) → In (Take (Replica q) (Reply r)) (Take (Replica p) (Reply reply) ∷ newer) → r.number ≡ ask.request.number
          → (first : AReply) × (first_of q (record { replica = p; reply = reply } ∷ (state_after shape (newer ++ older)).notes) ≡ Some first)
      with_vote q r (here e) number =
          let same : p ≡ q = replica_is p q reply r e in
          subst (λ z. (first : AReply) × (first_of z (record { replica = p; reply = reply } ∷ (state_after shape (newer ++ older)).notes) ≡ Some first)) same
          (first_new p reply (state_after shape (newer ++ older)).notes)
      with_vote q r (there later) number =
          let found = h.voted q r later number in
          (found.0, first_stays q (record { replica = p; reply = reply }) (state_after shape (newer ++ older)).notes found.0 found.1)

      by_winner : reply.number ≡ ask.request.number → (o : Option AReply)
          → winner shape.f shape.n (record { replica = p; reply = reply } ∷ (state_after shape (newer ++ older)).notes) ≡ o
          → state_after shape (Take (Replica p) (Reply reply) ∷ (newer ++ older)) ≡ settled o (with_note p reply (state_after shape (newer ++ older)))
          → In w (accepted shape (Take (Replica p) (Reply reply) ∷ (newer ++ older))) ⊎ Waits (Take (Replica p) (Reply reply) ∷ newer)
      by_winner number None is now = inr (record {
        current = ap (λ s. s.outstanding) now ∙ h.current;
        voted = λ q r inside same. let found = with_vote q r inside same in (found.0, ap (λ s. first_of q s.notes) now ∙ found.1);
      })
      by_winner number (Some other) is now =
          let same : other ≡ w =
          winner_is (Take (Replica p) (Reply reply) ∷ (newer ++ older)) agree (Take (Replica p) (Reply reply) ∷ (newer ++ older)) (λ q r inside. inside)
          (record { replica = p; reply = reply } ∷ (state_after shape (newer ++ older)).notes) (noted number) other is in
          inl (subst (λ s. In w s.accepted) (sym now) (here same))

      by_number : (b : Bool) → b ≡ (reply.number == ask.request.number)
          → In w (accepted shape (Take (Replica p) (Reply reply) ∷ (newer ++ older))) ⊎ Waits (Take (Replica p) (Reply reply) ∷ newer)
      by_number true is =
          by_winner ((Decides-eqb reply.number ask.request.number).0 (sym is))
          (winner shape.f shape.n (record { replica = p; reply = reply } ∷ (state_after shape (newer ++ older)).notes)) refl
          (after ∙ ap (λ b. if b then settled (winner shape.f shape.n (record { replica = p; reply = reply } ∷ (state_after shape (newer ++ older)).notes)) (with_note p reply (state_after shape (newer ++ older))) else state_after shape (newer ++ older)) (sym is))
      by_number false is =
          inr (waits_same (Take (Replica p) (Reply reply)) newer
          (after ∙ ap (λ b. if b then settled (winner shape.f shape.n (record { replica = p; reply = reply } ∷ (state_after shape (newer ++ older)).notes)) (with_note p reply (state_after shape (newer ++ older))) else state_after shape (newer ++ older)) (sym is))
          (λ q r e number. other_number q r e number) h)
        where
          other_number : (q : ℕ) (r : AReply) → Take (Replica p) (Reply reply) ≡ Take (Replica q) (Reply r) → r.number ≡ ask.request.number → ⊥
          other_number q r e number =
              true≢false (sym ((Decides-eqb reply.number ask.request.number).1 (ap (λ z. z.number) (reply_is p q reply r e) ∙ number)) ∙ sym is)

  step : (entry : Entry) (newer : List Entry) → AgreeOn (entry ∷ (newer ++ older)) → Waits newer
      → In w (accepted shape (entry ∷ (newer ++ older))) ⊎ Waits (entry ∷ newer)
  step (Post (Replica q) envelope) newer agree h =
      inr (waits_same (Post (Replica q) envelope) newer (post_same envelope (state_after shape (newer ++ older)) ask h.current) (λ p r e number. cc) h)
  step (Post (Client c) envelope) newer agree h = inr (waits_same (Post (Client c) envelope) newer refl (λ p r e number. cc) h)
  step (Take (Client c) envelope) newer agree h = inr (waits_same (Take (Client c) envelope) newer refl (λ p r e number. cc) h)
  step (Take (Replica q) Empty) newer agree h = inr (waits_same (Take (Replica q) Empty) newer refl (λ p r e number. cc) h)
  step (Take (Replica q) (Round round chains)) newer agree h =
      inr (waits_same (Take (Replica q) (Round round chains)) newer refl (λ p r e number. cc) h)
  step (Take (Replica q) (Ask other)) newer agree h = inr (waits_same (Take (Replica q) (Ask other)) newer refl (λ p r e number. cc) h)
  step (Take (Replica q) (Reply reply)) newer agree h = reply_progress q reply newer agree h
  step (Take (Replica q) (Seen front)) newer agree h = inr (waits_same (Take (Replica q) (Seen front)) newer refl (λ p r e number. cc) h)

  progress : (newer : List Entry) → AgreeOn (newer ++ older) → outstanding shape older ≡ Some ask → In w (accepted shape (newer ++ older)) ⊎ Waits newer
  progress [] agree current = inr (record { current = current; voted = λ p r h. elim h [ ] })
  progress (entry ∷ newer) agree current = elim (progress newer (λ p r loyal inside. agree p r loyal (there inside)) current) [
    | inl done ↦ inl (in_extended w (accepted shape (entry ∷ (newer ++ older))) (accepted shape (newer ++ older)) (accepted_grow shape entry (newer ++ older)) done)
    | inr waits ↦ step entry newer agree waits
  ]

  -- a client that took the reply from all loyal replicas has accepted it
  pub answered : 2 * shape.f < shape.n → w.number ≡ ask.request.number → (newer : List Entry) → AgreeOn (newer ++ older) → outstanding shape older ≡ Some ask
      → ((p : ℕ) → IsLoyal shape (Replica p) → In (Take (Replica p) (Reply w)) newer) → In w (accepted shape (newer ++ older))
  answered most number newer agree current taken = elim (progress newer agree current) [
    | inl done ↦ done
    | inr waits ↦ absurd (none-some w (sym (unanswered waits) ∙ loyal_win shape (state_after shape (newer ++ older)).notes w few most (votes waits)))
  ]
    where
      votes : Waits newer → (p : ℕ) → IsLoyal shape (Replica p) → first_of p (state_after shape (newer ++ older)).notes ≡ Some w
      votes waits p loyal =
          let found = waits.voted p w (taken p loyal) number in
          let note = notes_taken (newer ++ older) waits.current (record { replica = p; reply = found.0 }) (first_noted p (state_after shape (newer ++ older)).notes found.0 found.1) in
          found.1 ∙ ap Some (agree p found.0 loyal note.1 note.0)

      unanswered : Waits newer → winner shape.f shape.n (state_after shape (newer ++ older)).notes ≡ None
      unanswered waits = by_state (state_is shape (newer ++ older))
        where
          by_state : (IsQuiet (state_after shape (newer ++ older)) ⊎ ((a : SignedRequest) × IsOpen shape (newer ++ older) (state_after shape (newer ++ older)) a))
              → winner shape.f shape.n (state_after shape (newer ++ older)).notes ≡ None
          by_state (inl quiet) = absurd (none-some ask (sym quiet.none ∙ waits.current))
          by_state (inr h) = h.1.unanswered

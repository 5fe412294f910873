-- Each entry accepts at most one reply; so accepted replies have the numbers 1, 2, 3 .. in their order, and each answers a request that
-- was asked.
use Rattle.std.proofs.Common.{◌≡◌, ℕ, suc, ◌<◌, ◌≤◌, ◌==◌, nat_lt, Bool, true, false, List, [], ◌∷◌, length, Option, None, Some, if◌then◌else◌, ◌⊎◌, inl, inr, refl, ap, sym, ◌∙◌, subst, arith}
use Rattle.std.proofs.lemmas.Bool.Decides.{Decides-eqb}
use Rattle.std.proofs.lemmas.Option.{none-some}
use Rattle.dsr_base.specs.Member.{In, here, there}
use Rattle.dsr_names.specs.Shape.{Shape}
use Rattle.dsr_names.specs.declared.actor.Actor.{Actor}
use Rattle.dsr_names.specs.declared.actor.Actor.TheVariants.{Replica, Client}
use Rattle.dsr_ledger.specs.declared.reply.Reply.{Reply as AReply}
use Rattle.dsr_chain.specs.declared.signed_request.SignedRequest.{SignedRequest}
use Rattle.dsr_quorum.specs.Votes.{votes, winner}
use Rattle.dsr_envelope.specs.Limits.{IsCount}
use Rattle.dsr_envelope.specs.declared.envelope.Envelope.{Envelope}
use Rattle.dsr_envelope.specs.declared.envelope.Envelope.TheVariants.{Empty, Round, Ask, Reply, Seen}
use Rattle.dsr_envelope.specs.declared.entry.Entry.{Entry}
use Rattle.dsr_envelope.specs.declared.entry.Entry.TheVariants.{Post, Take}
use Rattle.dsr_client.specs.Accepted.{AreNumbered, WasPosted, AcceptsNone, Accepts}
use Rattle.dsr_client.specs.Conduct.{IsClientLog}
use Rattle.dsr_client.specs.State.{State, asked_beside, settled, with_note, replied_beside, state_after, outstanding, accepted}
use Rattle.dsr_client.proofs.Accepting.{new_winner}
use Rattle.dsr_client.proofs.Asked.{posted_before, was_posted}
use Rattle.dsr_client.proofs.Numbers.{numbered}
use Rattle.dsr_client.proofs.States.{IsQuiet, IsOpen, state_is}

asked_none : (o : Option SignedRequest) (ask : SignedRequest) (state : State) → (asked_beside o ask state).accepted ≡ state.accepted
asked_none None ask state = refl
asked_none (Some other) ask state = refl

module _ (shape : Shape) where
  -- an entry that leaves the state as it is
  same_state : (entry : Entry) (log : List Entry) → state_after shape (entry ∷ log) ≡ state_after shape log → AcceptsNone shape entry log
  same_state entry log same = record {
    same = ap (λ s. s.accepted) same;
    still = λ ask e. ap (λ s. s.outstanding) same ∙ e;
  }

  -- no reply has won yet
  unanswered : (log : List Entry) (ask : SignedRequest) → outstanding shape log ≡ Some ask → winner shape.f shape.n (state_after shape log).notes ≡ None
  unanswered log ask current = by_state (state_is shape log)
    where
      by_state : (IsQuiet (state_after shape log) ⊎ ((a : SignedRequest) × IsOpen shape log (state_after shape log) a))
          → winner shape.f shape.n (state_after shape log).notes ≡ None
      by_state (inl quiet) = absurd (none-some ask (sym quiet.none ∙ current))
      by_state (inr h) = h.1.unanswered

  reply_cases : (p : ℕ) (reply : AReply) (log : List Entry)
      → AcceptsNone shape (Take (Replica p) (Reply reply)) log ⊎ ((w : AReply) × Accepts shape (Take (Replica p) (Reply reply)) log w)
  reply_cases p reply log = by_current (outstanding shape log) refl
    where
      by_winner : (ask : SignedRequest) → outstanding shape log ≡ Some ask → reply.number ≡ ask.request.number → (o : Option AReply)
          → winner shape.f shape.n (record { replica = p; reply = reply } ∷ (state_after shape log).notes) ≡ o
          → state_after shape (Take (Replica p) (Reply reply) ∷ log) ≡ settled o (with_note p reply (state_after shape log))
          → AcceptsNone shape (Take (Replica p) (Reply reply)) log ⊎ ((w : AReply) × Accepts shape (Take (Replica p) (Reply reply)) log w)
      by_winner ask current number None is now = inl (record {
        same = ap (λ s. s.accepted) now;
        still = λ a e. ap (λ s. s.outstanding) now ∙ e;
      })
      by_winner ask current number (Some w) is now =
          let notes = (record { replica = p; reply = reply } ∷ (state_after shape log).notes) in
          let same : reply ≡ w =
          new_winner shape (winner shape.f shape.n (state_after shape log).notes) (unanswered log ask current)
          (nat_lt shape.f (votes shape.n notes reply)) reply w is in
          inr (
            reply,
            record {
              replica = p;
              taken = refl;
              ask = ask;
              current = current;
              number = number;
              more = ap (λ s. s.accepted) now ∙ ap (λ r. r ∷ accepted shape log) (sym same);
              done = ap (λ s. s.outstanding) now;
            },
          )

      by_number : (ask : SignedRequest) → outstanding shape log ≡ Some ask → (b : Bool) → (b ≡ true → reply.number ≡ ask.request.number)
          → state_after shape (Take (Replica p) (Reply reply) ∷ log)
          ≡ (if b then settled (winner shape.f shape.n (record { replica = p; reply = reply } ∷ (state_after shape log).notes)) (with_note p reply (state_after shape log)) else state_after shape log)
          → AcceptsNone shape (Take (Replica p) (Reply reply)) log ⊎ ((w : AReply) × Accepts shape (Take (Replica p) (Reply reply)) log w)
      by_number ask current true same now =
          by_winner ask current (same refl) (winner shape.f shape.n (record { replica = p; reply = reply } ∷ (state_after shape log).notes)) refl now
      by_number ask current false same now = inl (same_state (Take (Replica p) (Reply reply)) log now)

      by_current : (o : Option SignedRequest) → outstanding shape log ≡ o
          → AcceptsNone shape (Take (Replica p) (Reply reply)) log ⊎ ((w : AReply) × Accepts shape (Take (Replica p) (Reply reply)) log w)
      by_current None is =
          inl (same_state (Take (Replica p) (Reply reply)) log (ap (λ o. replied_beside o shape p reply (state_after shape log)) is))
      by_current (Some ask) is =
          by_number ask is (reply.number == ask.request.number) ((Decides-eqb reply.number ask.request.number).0)
          (ap (λ o. replied_beside o shape p reply (state_after shape log)) is)

  -- each entry accepts nothing, or the reply that it takes
  pub accept_cases : (entry : Entry) (log : List Entry) → AcceptsNone shape entry log ⊎ ((reply : AReply) × Accepts shape entry log reply)
  accept_cases (Post (Client c) x) log = inl (same_state (Post (Client c) x) log refl)
  accept_cases (Take (Client c) x) log = inl (same_state (Take (Client c) x) log refl)
  accept_cases (Post (Replica q) Empty) log = inl (same_state (Post (Replica q) Empty) log refl)
  accept_cases (Post (Replica q) (Round round chains)) log = inl (same_state (Post (Replica q) (Round round chains)) log refl)
  accept_cases (Post (Replica q) (Ask a)) log = inl (record {
    same = asked_none (outstanding shape log) a (state_after shape log);
    still = λ ask e. ap (λ o. (asked_beside o a (state_after shape log)).outstanding) e ∙ e;
  })
  accept_cases (Post (Replica q) (Reply reply)) log = inl (same_state (Post (Replica q) (Reply reply)) log refl)
  accept_cases (Post (Replica q) (Seen front)) log = inl (same_state (Post (Replica q) (Seen front)) log refl)
  accept_cases (Take (Replica p) Empty) log = inl (same_state (Take (Replica p) Empty) log refl)
  accept_cases (Take (Replica p) (Round round chains)) log = inl (same_state (Take (Replica p) (Round round chains)) log refl)
  accept_cases (Take (Replica p) (Ask a)) log = inl (same_state (Take (Replica p) (Ask a)) log refl)
  accept_cases (Take (Replica p) (Reply reply)) log = reply_cases p reply log
  accept_cases (Take (Replica p) (Seen front)) log = inl (same_state (Take (Replica p) (Seen front)) log refl)

  -- if nothing is outstanding, a take changes nothing
  pub take_quiet : (from : Actor) (envelope : Envelope) (log : List Entry) → outstanding shape log ≡ None
      → state_after shape (Take from envelope ∷ log) ≡ state_after shape log
  take_quiet (Client c) envelope log none = refl
  take_quiet (Replica p) Empty log none = refl
  take_quiet (Replica p) (Round round chains) log none = refl
  take_quiet (Replica p) (Ask ask) log none = refl
  take_quiet (Replica p) (Reply reply) log none = ap (λ o. replied_beside o shape p reply (state_after shape log)) none
  take_quiet (Replica p) (Seen front) log none = refl

  -- an ask is the outstanding one, if nothing was outstanding
  pub ask_begins : (q : ℕ) (ask : SignedRequest) (log : List Entry) → outstanding shape log ≡ None
      → outstanding shape (Post (Replica q) (Ask ask) ∷ log) ≡ Some ask
  ask_begins q ask log none = ap (λ o. (asked_beside o ask (state_after shape log)).outstanding) none

  -- a post accepts nothing
  pub post_none : (to : Actor) (envelope : Envelope) (log : List Entry) → AcceptsNone shape (Post to envelope) log
  post_none to envelope log = elim (accept_cases (Post to envelope) log) [
    | inl none ↦ none
    | inr new ↦ absurd (no_take new.1.replica new.0 new.1.taken)
  ]
    where
      no_take : (p : ℕ) (reply : AReply) → Post to envelope ≡ Take (Replica p) (Reply reply) → ⊥
      no_take p reply e = cc

  -- ---- a whole log

  pub accepted_numbered : (me : ℕ) (log : List Entry) → IsClientLog shape me log → AreNumbered (accepted shape log)
  accepted_numbered me [] loyal = tt
  accepted_numbered me (entry ∷ older) loyal = elim (accept_cases entry older) [
    | inl none ↦ subst AreNumbered (sym none.same) (accepted_numbered me older loyal.0)
    | inr new ↦
        let next = ((numbered shape me older loyal.0).next new.1.ask new.1.current).0 in
        subst AreNumbered (sym new.1.more) (new.1.number ∙ next, accepted_numbered me older loyal.0)
  ]

  abbrev WasRequested : List Entry → AReply → Type 0
  WasRequested log reply = (ask : SignedRequest) × WasPosted log ask × (ask.request.number ≡ reply.number)

  requested_before : (entry : Entry) (log : List Entry) (reply : AReply) → WasRequested log reply → WasRequested (entry ∷ log) reply
  requested_before entry log reply h = (h.0, posted_before entry log h.0 h.1, h.2)

  -- each accepted reply answers a request that was asked
  pub accepted_posted : (log : List Entry) (reply : AReply) → In reply (accepted shape log)
      → (ask : SignedRequest) × WasPosted log ask × (ask.request.number ≡ reply.number)
  accepted_posted [] reply inside = elim inside [ ]
  accepted_posted (entry ∷ older) reply inside = elim (accept_cases entry older) [
    | inl none ↦ requested_before entry older reply (accepted_posted older reply (subst (In reply) none.same inside))
    | inr new ↦ requested_before entry older reply (by_place (accepted_posted older reply) new.0 new.1 (subst (In reply) new.1.more inside))
  ]
    where
      by_place : (In reply (accepted shape older) → WasRequested older reply) → (w : AReply) → Accepts shape entry older w
          → In reply (w ∷ accepted shape older) → WasRequested older reply
      by_place before w h (here e) = (h.ask, was_posted shape older h.ask h.current, sym h.number ∙ ap (λ r. r.number) e)
      by_place before w h (there later) = before later

  -- so its number is within the limits if those of all requests are
  pub accepted_below : (log : List Entry) → ((ask : SignedRequest) → WasPosted log ask → IsCount ask.request.number)
      → (reply : AReply) → In reply (accepted shape log) → IsCount reply.number
  accepted_below log below reply inside =
      let asked = accepted_posted log reply inside in subst IsCount asked.2 (below asked.0 asked.1)

-- ---- numbered replies

-- the numbers are 1 to the length
pub numbered_within : (replies : List AReply) → AreNumbered replies → (reply : AReply) → In reply replies
    → (0 < reply.number) × (reply.number ≤ length replies)
numbered_within [] are reply inside = elim inside [ ]
numbered_within (w ∷ older) are reply (here e) =
    let number : reply.number ≡ suc (length older) = ap (λ r. r.number) (sym e) ∙ are.0 in
    (omega (arith, number), omega (arith, number))
numbered_within (w ∷ older) are reply (there later) =
    let before = numbered_within older are.1 reply later in
    let some = before.0 in
    let most = before.1 in
    (some, omega (arith, most))

-- no two have one number
pub numbered_once : (replies : List AReply) → AreNumbered replies → (reply other : AReply) → In reply replies → In other replies
    → reply.number ≡ other.number → reply ≡ other
numbered_once [] are reply other inside too same = elim inside [ ]
numbered_once (w ∷ older) are reply other (here e) (here f) same = sym e ∙ f
numbered_once (w ∷ older) are reply other (here e) (there later) same =
    let number : reply.number ≡ suc (length older) = ap (λ r. r.number) (sym e) ∙ are.0 in
    let most = (numbered_within older are.1 other later).1 in
    absurd (omega (arith, number, most, same))
numbered_once (w ∷ older) are reply other (there later) (here f) same =
    let number : other.number ≡ suc (length older) = ap (λ r. r.number) (sym f) ∙ are.0 in
    let most = (numbered_within older are.1 reply later).1 in
    absurd (omega (arith, number, most, same))
numbered_once (w ∷ older) are reply other (there later) (there also) same = numbered_once older are.1 reply other later also same

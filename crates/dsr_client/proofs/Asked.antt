-- What is outstanding was posted to some replica.
use Rattle.std.proofs.Common.{◌≡◌, ℕ, ◌==◌, Bool, true, false, List, [], ◌∷◌, Option, None, Some, if◌then◌else◌, ◌⊎◌, inl, inr, refl}
use Rattle.std.proofs.lemmas.Option.{none-some, same_Some}
use Rattle.dsr_base.specs.Member.{here, there}
use Rattle.dsr_names.specs.Shape.{Shape}
use Rattle.dsr_names.specs.declared.actor.Actor.TheVariants.{Replica, Client}
use Rattle.dsr_ledger.specs.declared.reply.Reply.{Reply as AReply}
use Rattle.dsr_chain.specs.declared.signed_request.SignedRequest.{SignedRequest}
use Rattle.dsr_quorum.specs.Votes.{winner}
use Rattle.dsr_envelope.specs.declared.envelope.Envelope.TheVariants.{Empty, Round, Ask, Reply, Seen}
use Rattle.dsr_envelope.specs.declared.entry.Entry.{Entry}
use Rattle.dsr_envelope.specs.declared.entry.Entry.TheVariants.{Post, Take}
use Rattle.dsr_client.specs.Accepted.{WasPosted}
use Rattle.dsr_client.specs.State.{State, asked_beside, settled, with_note, replied_beside, state_after, outstanding}

pub posted_before : (entry : Entry) (log : List Entry) (ask : SignedRequest) → WasPosted log ask → WasPosted (entry ∷ log) ask
posted_before entry log ask h = record { replica = h.replica; posted = there h.posted }

module _ (shape : Shape) where
  -- a reply leaves what is outstanding, or nothing
  settled_leaves : (o : Option AReply) (state : State) (ask : SignedRequest) → (settled o state).outstanding ≡ Some ask → state.outstanding ≡ Some ask
  settled_leaves None state ask e = e
  settled_leaves (Some reply) state ask e = absurd (none-some ask e)

  replied_leaves : (o : Option SignedRequest) (p : ℕ) (reply : AReply) (state : State) (ask : SignedRequest)
      → (replied_beside o shape p reply state).outstanding ≡ Some ask → state.outstanding ≡ Some ask
  replied_leaves None p reply state ask e = e
  replied_leaves (Some current) p reply state ask e = by_number (reply.number == current.request.number) e
    where
      by_number : (b : Bool)
          → (if b then settled (winner shape.f shape.n (record { replica = p; reply = reply } ∷ state.notes)) (with_note p reply state) else state).outstanding
          ≡ Some ask → state.outstanding ≡ Some ask
      by_number true e = settled_leaves (winner shape.f shape.n (record { replica = p; reply = reply } ∷ state.notes)) (with_note p reply state) ask e
      by_number false e = e

  -- an ask is outstanding then, or another one was before
  asked_leaves : (o : Option SignedRequest) (a ask : SignedRequest) (state : State) → state.outstanding ≡ o
      → (asked_beside o a state).outstanding ≡ Some ask → (a ≡ ask) ⊎ (state.outstanding ≡ Some ask)
  asked_leaves None a ask state is e = inl (same_Some a ask e)
  asked_leaves (Some other) a ask state is e = inr e

  pub was_posted : (log : List Entry) (ask : SignedRequest) → outstanding shape log ≡ Some ask → WasPosted log ask
  was_posted [] ask e = absurd (none-some ask e)
  was_posted (Post (Client c) x ∷ older) ask e = posted_before (Post (Client c) x) older ask (was_posted older ask e)
  was_posted (Take (Client c) x ∷ older) ask e = posted_before (Take (Client c) x) older ask (was_posted older ask e)
  was_posted (Post (Replica q) Empty ∷ older) ask e = posted_before (Post (Replica q) Empty) older ask (was_posted older ask e)
  was_posted (Post (Replica q) (Round round chains) ∷ older) ask e =
      posted_before (Post (Replica q) (Round round chains)) older ask (was_posted older ask e)
  was_posted (Post (Replica q) (Ask a) ∷ older) ask e = elim (asked_leaves (outstanding shape older) a ask (state_after shape older) refl e) [
    | inl now ↦ record { replica = q; posted = here (λ i. Post (Replica q) (Ask (now i))) }
    | inr before ↦ posted_before (Post (Replica q) (Ask a)) older ask (was_posted older ask before)
  ]
  was_posted (Post (Replica q) (Reply reply) ∷ older) ask e = posted_before (Post (Replica q) (Reply reply)) older ask (was_posted older ask e)
  was_posted (Post (Replica q) (Seen front) ∷ older) ask e = posted_before (Post (Replica q) (Seen front)) older ask (was_posted older ask e)
  was_posted (Take (Replica p) Empty ∷ older) ask e = posted_before (Take (Replica p) Empty) older ask (was_posted older ask e)
  was_posted (Take (Replica p) (Round round chains) ∷ older) ask e =
      posted_before (Take (Replica p) (Round round chains)) older ask (was_posted older ask e)
  was_posted (Take (Replica p) (Ask a) ∷ older) ask e = posted_before (Take (Replica p) (Ask a)) older ask (was_posted older ask e)
  was_posted (Take (Replica p) (Reply reply) ∷ older) ask e =
      posted_before (Take (Replica p) (Reply reply)) older ask
      (was_posted older ask (replied_leaves (outstanding shape older) p reply (state_after shape older) ask e))
  was_posted (Take (Replica p) (Seen front) ∷ older) ask e = posted_before (Take (Replica p) (Seen front)) older ask (was_posted older ask e)

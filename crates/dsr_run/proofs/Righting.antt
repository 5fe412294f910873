-- Every run is right, and a client that took a reply from all loyal replicas has accepted one.
use Rattle.std.proofs.Common.{◌≡◌, ℕ, zero, suc, ◌*◌, ◌<◌, true, List, [], ◌∷◌, ◌++◌, Some, reverse, inl, inr, refl, ap, sym, ◌∙◌, subst, arith}
use Rattle.dsr_base.specs.Bits.{count_below}
use Rattle.std.proofs.lemmas.List.{reverse-append}
use Rattle.dsr_base.specs.Member.{In, here, there}
use Rattle.dsr_base.proofs.MemberLemmas.{In-append_left, In-append_right, In-append_cases, In-one}
use Rattle.dsr_names.specs.Shape.{Shape, IsLoyal, HasFewTraitors}
use Rattle.dsr_names.specs.declared.actor.Actor.TheVariants.{Replica, Client}
use Rattle.dsr_ledger.specs.declared.reply.Reply.{Reply as AReply}
use Rattle.dsr_history.specs.History.{StandsAt}
use Rattle.dsr_history.proofs.Lemmas.{stands_once}
use Rattle.dsr_chain.specs.declared.signed_request.SignedRequest.{SignedRequest}
use Rattle.dsr_quorum.proofs.Lemmas.{some_voter}
use Rattle.dsr_envelope.specs.declared.envelope.Envelope.TheVariants.{Reply}
use Rattle.dsr_envelope.specs.declared.entry.Entry.{Entry}
use Rattle.dsr_envelope.specs.declared.entry.Entry.TheVariants.{Take}
use Rattle.dsr_client.specs.State.{outstanding, accepted}
use Rattle.dsr_client.proofs.Lemmas.{answered}
use Rattle.dsr_run.specs.History.{accepted_by, history}
use Rattle.dsr_client.specs.Issue.{issue_front}
use Rattle.dsr_run.specs.Right.{IsRightReply, IsRight, TookAllReplies, HasReplyTo}
use Rattle.dsr_run.specs.Run.{IsRun}
use Rattle.dsr_run.specs.Step.{Step, log_of}
use Rattle.dsr_run.proofs.Accepting.{WasPosted, stands_in, history_posted, reply_right, accepted_right}
use Rattle.dsr_run.proofs.Issuing.{history_since, not_before}
use Rattle.dsr_run.proofs.Histories.{history_legal}

-- all of the first numbers pass a test that all pass
count_all : (n : ℕ) → count_below (λ p. true) n ≡ n
count_all zero = refl
count_all (suc n) = let before = count_all n in omega (arith, before)

-- ---- lists reversed

In-reverse : {A : Type 0} (x : A) (xs : List A) → In x (reverse xs) → In x xs
In-reverse x [] h = h
In-reverse x (y ∷ xs) h =
    elim (In-append_cases x (reverse xs) (y ∷ []) (subst (In x) (reverse-append (y ∷ []) xs) h)) [
      | inl later ↦ there (In-reverse x xs later)
      | inr last ↦ here (In-one x y last)
    ]

pub In-reversed : {A : Type 0} (x : A) (xs : List A) → In x xs → In x (reverse xs)
In-reversed x [] h = h
In-reversed x (y ∷ xs) (here e) = subst (In x) (sym (reverse-append (y ∷ []) xs)) (In-append_right x (reverse xs) (y ∷ []) (here e))
In-reversed x (y ∷ xs) (there h) =
    subst (In x) (sym (reverse-append (y ∷ []) xs)) (In-append_left x (reverse xs) (y ∷ []) (In-reversed x xs h))

module _ (shape : Shape) (few : HasFewTraitors shape) where
  pub right_reply : (run : List Step) → IsRun shape run → (c : ℕ) (r : AReply) → In r (accepted_by shape (log_of run) c)
      → IsRightReply shape (history shape (log_of run)) (log_of run (Client c)) r
  right_reply run is c r h =
      let right = accepted_right shape run is few c r h in
      let posted = subst (λ d. WasPosted (log_of run (Client d)) right.request) right.client_is
      (history_posted shape run is right.request (stands_in (history shape (log_of run)) r.place right.request r.answer right.stands)) in
      let front = not_before shape few run is c right.request r.place r.answer right.client_is right.stands posted in
      record {
        replica = posted.to;
        ask = posted.ask;
        posted = posted.posted;
        number = ap (λ q. q.number) posted.is ∙ right.number_is;
        stands = subst (λ q. StandsAt (history shape (log_of run)) r.place q r.answer) (sym posted.is) right.stands;
        front = front.0;
        issued = subst (λ k. issue_front shape k (log_of run (Client c)) ≡ Some front.0) right.number_is front.1;
        not_before = front.2;
      }

  -- every run is right
  pub all_right : (run : List Step) → IsRun shape run → IsRight shape run
  all_right run is = record {
    replies = λ c inside r h. right_reply run is c r h;
    legal = history_legal shape (log_of run);
    grew = λ earlier since. history_since shape few run earlier is since;
  }

  -- two loyal replicas' replies with one number to one client are the same
  same_reply : (run : List Step) → IsRun shape run → (c p q : ℕ) → IsLoyal shape (Replica p) → IsLoyal shape (Replica q) → (r s : AReply)
      → In (Take (Replica p) (Reply r)) (log_of run (Client c)) → In (Take (Replica q) (Reply s)) (log_of run (Client c)) → r.number ≡ s.number → r ≡ s
  same_reply run is c p q loyal loyal_other r s h k number =
      let first = reply_right shape run is few c p loyal r h in
      let second = reply_right shape run is few c q loyal_other s k in
      let once = stands_once (history shape (log_of run)) r.place s.place first.request second.request r.answer s.answer (history_legal shape (log_of run))
      first.stands second.stands (first.client_is ∙ sym second.client_is) (first.number_is ∙ (number ∙ sym second.number_is)) in
      λ i. record { number = number i; place = once.1 i; answer = once.2 i }

  -- a client that took, while its request was outstanding, a reply to it from each loyal replica has accepted one
  pub all_answered : 2 * shape.f < shape.n → (run : List Step) → IsRun shape run → (c : ℕ) (older newer : List Entry)
      → log_of run (Client c) ≡ newer ++ older → (ask : SignedRequest) → outstanding shape older ≡ Some ask
      → ((p : ℕ) → IsLoyal shape (Replica p) → (r : AReply) × In (Take (Replica p) (Reply r)) newer × (r.number ≡ ask.request.number))
      → (r : AReply) × In r (accepted_by shape (log_of run) c) × (r.number ≡ ask.request.number)
  all_answered most run is c older newer parts ask current took =
      let some = some_voter shape (λ p. true) few (omega (arith, most, count_all shape.n)) in
      let reply = took some.0 some.1 in (
        reply.0,
        subst (λ l. In reply.0 (accepted shape l)) (sym parts)
            (answered shape few older ask reply.0 most reply.2 newer (λ p r loyal inside number. agree some.0 some.1 reply.0 reply.1 reply.2 p r loyal inside number) current
            (λ p loyal. all_of some.0 some.1 reply.0 reply.1 reply.2 p loyal)),
        reply.2,
      )
    where
      in_log_of : (entry : Entry) → In entry (newer ++ older) → In entry (log_of run (Client c))
      in_log_of entry h = subst (In entry) (sym parts) h

      agree : (q : ℕ) → IsLoyal shape (Replica q) → (w : AReply) → In (Take (Replica q) (Reply w)) newer → w.number ≡ ask.request.number
          → (p : ℕ) (r : AReply) → IsLoyal shape (Replica p) → In (Take (Replica p) (Reply r)) (newer ++ older) → r.number ≡ ask.request.number → r ≡ w
      agree q loyal_other w k is_number p r loyal h number =
          same_reply run is c p q loyal loyal_other r w (in_log_of (Take (Replica p) (Reply r)) h)
          (in_log_of (Take (Replica q) (Reply w)) (In-append_left (Take (Replica q) (Reply w)) newer older k)) (number ∙ sym is_number)

      all_of : (q : ℕ) → IsLoyal shape (Replica q) → (w : AReply) → In (Take (Replica q) (Reply w)) newer → w.number ≡ ask.request.number
          → (p : ℕ) → IsLoyal shape (Replica p) → In (Take (Replica p) (Reply w)) newer
      all_of q loyal_other w k is_number p loyal =
          let reply = took p loyal in
          let same = agree q loyal_other w k is_number p reply.0 loyal (In-append_left (Take (Replica p) (Reply reply.0)) newer older reply.1) reply.2 in
          subst (λ r. In (Take (Replica p) (Reply r)) newer) same reply.1

  -- the same in one word
  pub all_taken_answered : 2 * shape.f < shape.n → (run : List Step) → IsRun shape run → (c number : ℕ) → TookAllReplies shape (log_of run (Client c)) number
      → HasReplyTo number (accepted_by shape (log_of run) c)
  all_taken_answered most run is c number h =
      let reply = all_answered most run is c h.older h.newer h.parts h.ask h.asked
      (λ p loyal. let took = h.took p loyal in (took.0, took.1, took.2 ∙ sym h.is_number)) in
      (reply.0, reply.1, reply.2 ∙ h.is_number)

  -- the replies in the order in which a world lends them
  module _ (run : List Step) (is : IsRun shape run) (c : ℕ) (replies : List AReply) (same : replies ≡ reverse (accepted_by shape (log_of run) c)) where
    pub lent_right : (reply : AReply) → In reply replies → IsRightReply shape (history shape (log_of run)) (log_of run (Client c)) reply
    lent_right reply h = right_reply run is c reply (In-reverse reply (accepted_by shape (log_of run) c) (subst (In reply) same h))

    pub lent_answered : 2 * shape.f < shape.n → (number : ℕ) → TookAllReplies shape (log_of run (Client c)) number → HasReplyTo number replies
    lent_answered most number h =
        let reply = all_taken_answered most run is c number h in
        (reply.0, subst (In reply.0) (sym same) (In-reversed reply.0 (accepted_by shape (log_of run) c) reply.1), reply.2)

-- What one entry of a client's log does with the request that a call waits for.
use Rattle.std.proofs.Common.{◌≡◌, ℕ, suc, List, [], ◌∷◌, Option, None, Some, length, max, inl, inr, refl, ap, sym, ◌∙◌, subst, arith}
use Rattle.std.specs.Option.{option_map, option_or}
use Rattle.std.proofs.lemmas.Option.{none-some, same_Some}
use Rattle.dsr_base.specs.Member.{In, here, there}
use Rattle.dsr_names.specs.Shape.{Shape}
use Rattle.dsr_names.specs.declared.actor.Actor.TheVariants.{Replica}
use Rattle.dsr_request.specs.declared.op.Op.{Op}
use Rattle.dsr_ledger.specs.declared.reply.Reply.{Reply as AReply}
use Rattle.dsr_chain.specs.declared.signed_request.SignedRequest.{SignedRequest}
use Rattle.dsr_envelope.specs.declared.envelope.Envelope.{Envelope}
use Rattle.dsr_envelope.specs.declared.envelope.Envelope.TheVariants.{Ask}
use Rattle.dsr_envelope.specs.declared.entry.Entry.{Entry}
use Rattle.dsr_envelope.specs.declared.entry.Entry.TheVariants.{Post, Take}
use Rattle.dsr_client.specs.Accepted.{AcceptsNone}
use Rattle.dsr_client.specs.Conduct.{IsClientLog, ask_of, next_number, chosen_beside}
use Rattle.dsr_client.specs.Issue.{issue_front}
use Rattle.dsr_client.specs.State.{outstanding, accepted, front_of, told, seen}
use Rattle.dsr_client.proofs.Lemmas.{was_posted, accept_cases, take_quiet, ask_begins, post_none, unasked, no_front, first_front, front_stays, next_unasked}
use Rattle.dsr_calls.specs.Calls.{awaited, front_beside, IsUnbegun, WasBegun, IsBegun, IsAwaited, IsAnswered}
use Rattle.dsr_calls.specs.Visits.{pick_beside}

-- no list is itself with one item more
no_longer : {A : Type 0} (x : A) (xs : List A) → x ∷ xs ≡ xs → ⊥
no_longer x xs e = let more = ap length e in omega (arith, more)

same_head : (x y : AReply) (xs ys : List AReply) → x ∷ xs ≡ y ∷ ys → x ≡ y
same_head x y xs ys e = cc

-- what the choice asks for is what is awaited
pub given_is : (o : Option SignedRequest) (me number : ℕ) (op : Option Op)
    → chosen_beside o me number (pick_beside o op) ≡ option_or o (option_map (ask_of me number) op)
given_is (Some ask) me number op = refl
given_is None me number (Some op) = refl
given_is None me number None = refl

module _ (shape : Shape) (me : ℕ) where
  -- ---- what is awaited

  -- if nothing is outstanding, it has the next number
  new_number : (number : ℕ) (op : Option Op) (ask : SignedRequest) → option_map (ask_of me number) op ≡ Some ask → ask.request.number ≡ number
  new_number number (Some op) ask e = ap (λ a. a.request.number) (sym (same_Some (ask_of me number op) ask e))
  new_number number None ask e = absurd (none-some ask e)

  -- a log that has begun the request awaits it, whatever the operation
  pub begun_awaited : (older log : List Entry) (op : Option Op) (ask : SignedRequest) → IsBegun shape ask older log → awaited shape me log op ≡ Some ask
  begun_awaited older log op ask begun = ap (λ o. option_or o (option_map (ask_of me (next_number shape log)) op)) begun.is

  pub still_awaited : (older log : List Entry) (op : Option Op) (ask : SignedRequest) → awaited shape me older op ≡ Some ask
      → IsAwaited shape ask older log → awaited shape me log op ≡ Some ask
  still_awaited older log op ask e h = elim h [
    | inl un ↦
        ap (λ o. option_or o (option_map (ask_of me (next_number shape log)) op)) un.none
        ∙ (ap (λ l. option_map (ask_of me (suc (length l))) op) un.same
        ∙ (sym (ap (λ o. option_or o (option_map (ask_of me (next_number shape older)) op)) un.was) ∙ e))
    | inr begun ↦ begun_awaited older log op ask begun
  ]

  -- ---- at first

  has_front : (number : ℕ) (log : List Entry) (q : ℕ) (ask : SignedRequest) → In (Post (Replica q) (Ask ask)) log → ask.request.number ≡ number
      → (o : Option ℕ) → issue_front shape number log ≡ o → (front : ℕ) × (issue_front shape number log ≡ Some front)
  has_front number log q ask inside same None none = absurd (unasked shape number log none q ask inside same)
  has_front number log q ask inside same (Some front) is = (front, is)

  begun_before : (log : List Entry) (ask : SignedRequest) → outstanding shape log ≡ Some ask → IsBegun shape ask log log
  begun_before log ask current =
      let was = was_posted shape log ask current in
      let front = has_front ask.request.number log was.replica ask was.posted refl (issue_front shape ask.request.number log) refl in
      record {
        begun = record {
          replica = was.replica;
          posted = was.posted;
          unissued = λ none. absurd (none-some ask (sym none ∙ current));
          front = front.0;
          front_is = ap (λ o. front_beside shape o ask.request.number log) current ∙ front.1;
          issued = front.1;
        };
        is = current;
        same = refl;
      }

  unbegun_before : (log : List Entry) (number : ℕ) → IsClientLog shape me log → outstanding shape log ≡ None → number ≡ next_number shape log
      → IsUnbegun shape number log log
  unbegun_before log number loyal none is =
      let front = subst (λ k. issue_front shape k log ≡ None) (sym is)
      (no_front shape (next_number shape log) log (next_unasked shape me log loyal none)) in
      record { was = none; none = none; same = refl; seen_is = refl; first = front; unissued = front }

  pub awaited_first : (log : List Entry) (op : Option Op) (ask : SignedRequest) → IsClientLog shape me log → awaited shape me log op ≡ Some ask
      → IsAwaited shape ask log log
  awaited_first log op ask loyal e = by_current (outstanding shape log) refl e
    where
      by_current : (o : Option SignedRequest) → outstanding shape log ≡ o → option_or o (option_map (ask_of me (next_number shape log)) op) ≡ Some ask
          → IsAwaited shape ask log log
      by_current None none given =
          inl (unbegun_before log ask.request.number loyal none (new_number (next_number shape log) op ask given))
      by_current (Some other) current given = inr (begun_before log ask (current ∙ given))

module _ (shape : Shape) (ask : SignedRequest) (older log : List Entry) where
  -- ---- one entry more

  grown : (entry : Entry) → WasBegun shape ask older log → WasBegun shape ask older (entry ∷ log)
  grown entry was = record {
    replica = was.replica;
    posted = there was.posted;
    unissued = was.unissued;
    front = was.front;
    front_is = was.front_is;
    issued = front_stays shape ask.request.number log (entry ∷ log) was.front was.issued (entry ∷ [], refl);
  }

  still_begun : (entry : Entry) → AcceptsNone shape entry log → IsBegun shape ask older log → IsBegun shape ask older (entry ∷ log)
  still_begun entry none h = record {
    begun = grown entry h.begun;
    is = none.still ask h.is;
    same = none.same ∙ h.same;
  }

  -- the request is posted
  pub awaited_posted : (q : ℕ) → IsAwaited shape ask older log → IsAwaited shape ask older (Post (Replica q) (Ask ask) ∷ log)
  awaited_posted q h = elim h [
    | inl un ↦ inr (record {
      begun = record {
        replica = q;
        posted = here refl;
        unissued = λ none. un.first;
        front = seen shape older;
        front_is = ap (λ o. front_beside shape o ask.request.number older) un.was;
        issued =
            first_front shape ask.request.number log (unasked shape ask.request.number log un.unissued) q ask refl ∙ ap Some un.seen_is;
      };
      is = ask_begins shape q ask log un.none;
      same = (post_none shape (Replica q) (Ask ask) log).same ∙ un.same;
    })
    | inr begun ↦ inr (still_begun (Post (Replica q) (Ask ask)) (post_none shape (Replica q) (Ask ask) log) begun)
  ]

  -- a take that accepts nothing
  pub awaited_taken : (p : ℕ) (x : Envelope) → accepted shape (Take (Replica p) x ∷ log) ≡ accepted shape log → IsAwaited shape ask older log
      → IsAwaited shape ask older (Take (Replica p) x ∷ log)
  awaited_taken p x same h = elim h [
    | inl un ↦
        let quiet = take_quiet shape (Replica p) x log un.none in
        inl (record {
          was = un.was;
          none = ap (λ s. s.outstanding) quiet ∙ un.none;
          same = same ∙ un.same;
          seen_is = ap (λ l. max (front_of l) (told log)) same ∙ un.seen_is;
          first = un.first;
          unissued = ap (λ o. option_or o None) un.unissued;
        })
    | inr begun ↦ elim (accept_cases shape (Take (Replica p) x) log) [
      | inl none ↦ inr (still_begun (Take (Replica p) x) none begun)
      | inr new ↦ absurd (no_longer new.0 (accepted shape log) (sym new.1.more ∙ same))
    ]
  ]

  -- a take that accepts a reply
  pub answered_taken : (p : ℕ) (x : Envelope) (reply : AReply) → accepted shape (Take (Replica p) x ∷ log) ≡ reply ∷ accepted shape log
      → IsAwaited shape ask older log → IsAnswered shape ask older (Take (Replica p) x ∷ log) reply
  answered_taken p x reply more h = elim h [
    | inl un ↦
        absurd (no_longer reply (accepted shape log) (sym more ∙ ap (λ s. s.accepted) (take_quiet shape (Replica p) x log un.none)))
    | inr begun ↦ elim (accept_cases shape (Take (Replica p) x) log) [
      | inl none ↦ absurd (no_longer reply (accepted shape log) (sym more ∙ none.same))
      | inr new ↦
          let is : new.0 ≡ reply = same_head new.0 reply (accepted shape log) (accepted shape log) (sym new.1.more ∙ more) in
          let asked : new.1.ask ≡ ask = same_Some new.1.ask ask (sym new.1.current ∙ begun.is) in
          record {
            begun = grown (Take (Replica p) x) begun.begun;
            last = more ∙ ap (λ l. reply ∷ l) begun.same;
            done = new.1.done;
            number = ap (λ r. r.number) (sym is) ∙ (new.1.number ∙ ap (λ a. a.request.number) asked);
          }
    ]
  ]

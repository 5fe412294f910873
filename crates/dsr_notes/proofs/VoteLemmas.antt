-- When a reply is a vote, and how many votes there are with it.
use Rattle.std.proofs.Common.{◌≡◌, ◌≢◌, ℕ, zero, suc, ◌<◌, ◌≤◌, ◌==◌, cond, Bool, true, false, List, ◌∷◌, Option, None, Some, if◌then◌else◌, inl, inr, refl, ap, sym, ◌∙◌, arith}
use Rattle.std.specs.Option.{option_or}
use Rattle.std.specs.Prelude.{slice_index_or}
use Rattle.std.proofs.lemmas.Bool.{cases_eq, cond-true, cond-false}
use Rattle.std.proofs.lemmas.Bool.Decides.{Decides-eqb}
use Rattle.std.proofs.lemmas.Option.{none-some}
use Rattle.dsr_base.specs.Bits.{count_below}
use Rattle.dsr_base.proofs.Pigeonhole.{count_agree, count_not}
use Rattle.dsr_ledger.specs.declared.reply.Reply.{Reply}
use Rattle.dsr_chain.specs.declared.signed_request.SignedRequest.{SignedRequest}
use Rattle.dsr_quorum.specs.Support.Tally.{votes_in}
use Rattle.dsr_quorum.specs.Tally.{Tally}
use Rattle.dsr_quorum.specs.Votes.{Note as AVote, first_of, is_reply, votes}
use Rattle.dsr_quorum.proofs.Lemmas.{is_vote}
use Rattle.dsr_notes.specs.Vote.{no_vote}
use Rattle.dsr_notes.specs.declared.note.NoVote.TheVariants.{NothingOutstanding, OtherNumber, HasVoted}

-- ---- counting

-- if two tests differ at one number alone, and only the first passes there, one more passes the first
count_one_more : (p q : ℕ → Bool) (x n : ℕ) → x < n → p x ≡ true → q x ≡ false → ((k : ℕ) → k ≢ x → p k ≡ q k)
    → count_below p n ≡ suc (count_below q n)
count_one_more p q x zero inside passes fails same = absurd (omega (arith, inside))
count_one_more p q x (suc n) inside passes fails same = elim (cases_eq n x) [
  | inl at_it ↦
      let one : ◌≡◌ {A = ℕ} (cond (p n) 1 0) 1 = cond-true (p n) 1 0 (ap p at_it ∙ passes) in
      let none : ◌≡◌ {A = ℕ} (cond (q n) 1 0) 0 = cond-false (q n) 1 0 (ap q at_it ∙ fails) in
      let before : count_below p n ≡ count_below q n = count_agree p q n (λ k below. same k (λ e. omega (arith, below, at_it, e))) in
      omega (arith, one, none, before)
  | inr other ↦
      let alike : ◌≡◌ {A = ℕ} (cond (p n) 1 0) (cond (q n) 1 0) = ap (λ b. cond b 1 0) (same n other) in
      let before : count_below p n ≡ suc (count_below q n) = count_one_more p q x n (omega (arith, inside, other)) passes fails same in
      omega (arith, alike, before)
]

-- a vote of a replica that has not voted is one vote more for its reply
pub one_more_vote : (n replica : ℕ) (notes : List AVote) (reply : Reply) → replica < n → first_of replica notes ≡ None
    → votes n (record { replica = replica; reply = reply } ∷ notes) reply ≡ suc (votes n notes reply)
one_more_vote n replica notes reply inside none =
    count_one_more (λ p. is_reply reply (first_of p (record { replica = replica; reply = reply } ∷ notes))) (λ p. is_reply reply (first_of p notes)) replica n
    inside now (ap (is_reply reply) none) others
  where
    or_none : (o : Option Reply) → option_or o None ≡ o
    or_none None = refl
    or_none (Some r) = refl

    not_same : (b : Bool) (p : ℕ) → (b ≡ true → replica ≡ p) → p ≢ replica → b ≡ false
    not_same true p same other = absurd (other (sym (same refl)))
    not_same false p same other = refl

    now : is_reply reply (first_of replica (record { replica = replica; reply = reply } ∷ notes)) ≡ true
    now =
        is_vote reply (first_of replica (record { replica = replica; reply = reply } ∷ notes))
        (ap (λ o. option_or o (if replica == replica then Some reply else None)) none
        ∙ ap (λ b. if b then Some reply else None) ((Decides-eqb replica replica).1 refl))

    others : (p : ℕ) → p ≢ replica → is_reply reply (first_of p (record { replica = replica; reply = reply } ∷ notes)) ≡ is_reply reply (first_of p notes)
    others p other =
        ap (is_reply reply)
        (ap (λ b. option_or (first_of p notes) (if b then Some reply else None)) (not_same (replica == p) p ((Decides-eqb replica p).0) other)
        ∙ or_none (first_of p notes))

-- no more replicas vote for a reply than the tally has
pub few_in_tally : (tally : Tally) (reply : Reply) → votes_in tally reply ≤ tally.n
few_in_tally tally reply =
    let all = count_not (λ p. is_reply reply (slice_index_or tally.firsts p None)) tally.n in omega (arith, all)

-- ---- why a reply is not a vote

-- if nothing speaks against it, the replica has not voted
pub not_voted : (ask : Option SignedRequest) (first : Option Reply) (reply : Reply) → no_vote ask first reply ≡ None → first ≡ None
not_voted None first reply e = absurd (none-some NothingOutstanding (sym e))
not_voted (Some ask) None reply e = refl
not_voted (Some ask) (Some given) reply e = absurd (some_why (reply.number == ask.request.number) e)
  where
    some_why : (b : Bool) → (if b then Some HasVoted else Some (OtherNumber ask.request.number)) ≡ None → ⊥
    some_why true e = none-some HasVoted (sym e)
    some_why false e = none-some (OtherNumber ask.request.number) (sym e)

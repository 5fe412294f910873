-- How votes are counted: a note adds votes to its own reply alone; f+1 votes have a loyal one among them; and loyal replicas are
-- enough.
use Rattle.std.proofs.Common.{◌≡◌, ℕ, zero, suc, ◌*◌, ◌<◌, ◌≤◌, ◌==◌, nat_lt, not, cond, Bool, true, false, List, [], ◌∷◌, Option, None, Some, if◌then◌else◌, ◌⊎◌, inl, inr, refl, ap, sym, ◌∙◌, subst, arith}
use Rattle.std.proofs.lemmas.Bool.{cases_Bool, cond-true, cond-false, true≢false}
use Rattle.std.proofs.lemmas.Bool.Decides.{nat_tests}
use Rattle.std.specs.Option.{option_or}
use Rattle.std.proofs.lemmas.Option.{none-some, same_Some}
use Rattle.dsr_base.specs.Bits.{count_below}
use Rattle.dsr_base.proofs.Pigeonhole.{count_not}
use Rattle.dsr_names.specs.Shape.{Shape, is_traitor, IsLoyal, HasFewTraitors}
use Rattle.dsr_names.specs.declared.actor.Actor.TheVariants.{Replica}
use Rattle.dsr_ledger.specs.declared.reply.Reply.{Reply}
use Rattle.dsr_quorum.specs.Support.ReplyEquality.{reply_eq, reply_eq-Decides}
use Rattle.dsr_quorum.specs.Votes.{Note, first_of, is_reply, votes, winner}

-- ---- counting, over any tests

-- if more numbers pass the first test than the second, one passes the first and fails the second
pub more_pass : (p q : ℕ → Bool) (n : ℕ) → count_below q n < count_below p n → (k : ℕ) × (k < n) × (p k ≡ true) × (q k ≡ false)
more_pass p q zero more = absurd (omega (arith, more))
more_pass p q (suc n) more =
    at_last (λ fewer. let found = more_pass p q n fewer in let inside = found.1 in (found.0, omega (arith, inside), found.2, found.3))
    (cases_Bool (p n)) (cases_Bool (q n))
  where
    at_last : (count_below q n < count_below p n → (k : ℕ) × (k < suc n) × (p k ≡ true) × (q k ≡ false)) → ((p n ≡ true) ⊎ (p n ≡ false)) → ((q n ≡ true) ⊎ (q n ≡ false)) → (k : ℕ) × (k < suc n) × (p k ≡ true) × (q k ≡ false)
    at_last below (inl yes_p) (inr no_q) = (n, omega arith, yes_p, no_q)
    at_last below (inl yes_p) (inl yes_q) =
        let last_p : ◌≡◌ {A = ℕ} (cond (p n) 1 0) 1 = cond-true (p n) 1 0 yes_p in
        let last_q : ◌≡◌ {A = ℕ} (cond (q n) 1 0) 1 = cond-true (q n) 1 0 yes_q in
        below (omega (arith, more, last_p, last_q))
    at_last below (inr no_p) other =
        let last_p : ◌≡◌ {A = ℕ} (cond (p n) 1 0) 0 = cond-false (p n) 1 0 no_p in below (omega (arith, more, last_p))

-- if each number that passes the first test passes the second, no more pass the first
pub count_more : (p q : ℕ → Bool) (n : ℕ) → ((k : ℕ) → k < n → p k ≡ true → q k ≡ true) → count_below p n ≤ count_below q n
count_more p q zero each = omega arith
count_more p q (suc n) each =
    let before = count_more p q n (λ k inside. each k (omega (arith, inside))) in
    let last = one_each (p n) (q n) (each n (omega arith)) in
    omega (arith, before, last)
  where
    one_each : (b c : Bool) → (b ≡ true → c ≡ true) → cond b 1 0 ≤ cond c 1 0
    one_each true true h = omega arith
    one_each true false h = absurd (true≢false (sym (h refl)))
    one_each false c h = omega arith

-- ---- votes

pub vote_is : (reply : Reply) (given : Option Reply) → is_reply reply given ≡ true → given ≡ Some reply
vote_is reply None e = absurd (true≢false (sym e))
vote_is reply (Some r) e = ap Some ((reply_eq-Decides r reply).0 e)

pub is_vote : (reply : Reply) (given : Option Reply) → given ≡ Some reply → is_reply reply given ≡ true
is_vote reply given e = subst (λ g. is_reply reply g ≡ true) (sym e) ((reply_eq-Decides reply reply).1 refl)

-- if a test holds for more than f replicas, it holds for a loyal one
pub some_voter : (shape : Shape) (test : ℕ → Bool) → HasFewTraitors shape → shape.f < count_below test shape.n
    → (p : ℕ) × IsLoyal shape (Replica p) × (test p ≡ true)
some_voter shape test few enough =
    let found = more_pass test (is_traitor shape) shape.n (omega (arith, few, enough)) in
    (found.0, (found.1, found.3), found.2)

-- more votes than there are traitors: one is a loyal replica's
pub loyal_voter : (shape : Shape) (notes : List Note) (reply : Reply) → HasFewTraitors shape → shape.f < votes shape.n notes reply
    → (p : ℕ) × IsLoyal shape (Replica p) × (first_of p notes ≡ Some reply)
loyal_voter shape notes reply few enough =
    let found = some_voter shape (λ p. is_reply reply (first_of p notes)) few enough in
    (found.0, found.1, vote_is reply (first_of found.0 notes) found.2)

-- more than f replicas are not traitors, and their votes are enough
pub loyal_enough : (shape : Shape) (notes : List Note) (reply : Reply) → HasFewTraitors shape → 2 * shape.f < shape.n
    → ((p : ℕ) → IsLoyal shape (Replica p) → first_of p notes ≡ Some reply) → shape.f < votes shape.n notes reply
loyal_enough shape notes reply few most same =
    let all = count_not (is_traitor shape) shape.n in
    let voted = count_more (λ p. not (is_traitor shape p)) (λ p. is_reply reply (first_of p notes)) shape.n
    (λ p inside loyal. is_vote reply (first_of p notes) (same p (inside, not_true (is_traitor shape p) loyal))) in
    omega (arith, all, voted, few, most)
  where
    not_true : (b : Bool) → not b ≡ true → b ≡ false
    not_true true e = absurd (true≢false (sym e))
    not_true false e = refl

-- ---- what a note adds

-- a vote stays
vote_stays : (note : Note) (older : List Note) (reply : Reply) (p : ℕ) → is_reply reply (first_of p older) ≡ true
    → is_reply reply (first_of p (note ∷ older)) ≡ true
vote_stays note older reply p vote = stays (first_of p older) vote
  where
    stays : (first : Option Reply) → is_reply reply first ≡ true → is_reply reply (option_or first (if note.replica == p then Some note.reply else None)) ≡ true
    stays None e = absurd (true≢false (sym e))
    stays (Some r) e = e

-- a vote for another reply than the note's was there before
vote_was : (note : Note) (older : List Note) (reply : Reply) → ¬ (note.reply ≡ reply) → (p : ℕ)
    → is_reply reply (first_of p (note ∷ older)) ≡ true → is_reply reply (first_of p older) ≡ true
vote_was note older reply other p vote = was (first_of p older) vote
  where
    no_vote : (b : Bool) → is_reply reply (if b then Some note.reply else None) ≡ true → ⊥
    no_vote true e = other ((reply_eq-Decides note.reply reply).0 e)
    no_vote false e = true≢false (sym e)

    was : (first : Option Reply) → is_reply reply (option_or first (if note.replica == p then Some note.reply else None)) ≡ true → is_reply reply first ≡ true
    was None e = absurd (no_vote (note.replica == p) e)
    was (Some r) e = e

votes_stay : (n : ℕ) (note : Note) (older : List Note) (reply : Reply) → votes n older reply ≤ votes n (note ∷ older) reply
votes_stay n note older reply =
    count_more (λ p. is_reply reply (first_of p older)) (λ p. is_reply reply (first_of p (note ∷ older))) n (λ p inside. vote_stays note older reply p)

other_votes : (n : ℕ) (note : Note) (older : List Note) (reply : Reply) → ¬ (note.reply ≡ reply) → votes n (note ∷ older) reply ≤ votes n older reply
other_votes n note older reply other =
    count_more (λ p. is_reply reply (first_of p (note ∷ older))) (λ p. is_reply reply (first_of p older)) n (λ p inside. vote_was note older reply other p)

-- ---- who wins

newly : (b : Bool) (x reply : Reply) → (if b then Some x else None) ≡ Some reply → (b ≡ true) × (x ≡ reply)
newly true x reply e = (refl, same_Some x reply e)
newly false x reply e = absurd (none-some reply e)

pub winner_votes : (f n : ℕ) (notes : List Note) (reply : Reply) → winner f n notes ≡ Some reply → f < votes n notes reply
winner_votes f n [] reply e = absurd (none-some reply e)
winner_votes f n (note ∷ older) reply e = by_older (winner_votes f n older reply) (winner f n older) refl e
  where
    enough : (a b : ℕ) → nat_lt a b ≡ true → a < b
    enough a b e = grind (arith, nat_tests)

    by_older : (winner f n older ≡ Some reply → f < votes n older reply) → (o : Option Reply) → winner f n older ≡ o
        → option_or o (if nat_lt f (votes n (note ∷ older) note.reply) then Some note.reply else None) ≡ Some reply → f < votes n (note ∷ older) reply
    by_older held (Some r) is e =
        let before = held (is ∙ e) in
        let more = votes_stay n note older reply in
        omega (arith, before, more)
    by_older held None is e =
        let new = newly (nat_lt f (votes n (note ∷ older) note.reply)) note.reply reply e in
        subst (λ r. f < votes n (note ∷ older) r) new.1 (enough f (votes n (note ∷ older) note.reply) new.0)

not_newly : (b : Bool) (x : Reply) → (if b then Some x else None) ≡ None → b ≡ false
not_newly true x e = absurd (none-some x (sym e))
not_newly false x e = refl

no_votes : (n : ℕ) (reply : Reply) → votes n [] reply ≡ 0
no_votes zero reply = refl
no_votes (suc n) reply = let before = no_votes n reply in omega (arith, before)

pub none_enough : (f n : ℕ) (notes : List Note) (reply : Reply) → winner f n notes ≡ None → votes n notes reply ≤ f
none_enough f n [] reply e = let none = no_votes n reply in omega (arith, none)
none_enough f n (note ∷ older) reply e = by_older (none_enough f n older reply) (winner f n older) refl e
  where
    few : (a b : ℕ) → nat_lt a b ≡ false → b ≤ a
    few a b e = grind (arith, nat_tests)

    by_reply : (winner f n older ≡ None → votes n older reply ≤ f) → (b : Bool) → b ≡ reply_eq note.reply reply → winner f n older ≡ None → votes n (note ∷ older) note.reply ≤ f → votes n (note ∷ older) reply ≤ f
    by_reply held true is none most = subst (λ r. votes n (note ∷ older) r ≤ f) ((reply_eq-Decides note.reply reply).0 (sym is)) most
    by_reply held false is none most =
        let before = held none in
        let same = other_votes n note older reply (λ e. true≢false (sym ((reply_eq-Decides note.reply reply).1 e) ∙ sym is)) in
        omega (arith, before, same)

    by_older : (winner f n older ≡ None → votes n older reply ≤ f) → (o : Option Reply) → winner f n older ≡ o
        → option_or o (if nat_lt f (votes n (note ∷ older) note.reply) then Some note.reply else None) ≡ None → votes n (note ∷ older) reply ≤ f
    by_older held (Some r) is e = absurd (none-some r (sym e))
    by_older held None is e =
        by_reply held (reply_eq note.reply reply) refl is
        (few f (votes n (note ∷ older) note.reply) (not_newly (nat_lt f (votes n (note ∷ older) note.reply)) note.reply e))

-- if all loyal replicas vote for one reply, it wins
pub loyal_win : (shape : Shape) (notes : List Note) (reply : Reply) → HasFewTraitors shape → 2 * shape.f < shape.n
    → ((p : ℕ) → IsLoyal shape (Replica p) → first_of p notes ≡ Some reply) → winner shape.f shape.n notes ≡ Some reply
loyal_win shape notes reply few most same = by_winner (winner shape.f shape.n notes) refl
  where
    by_winner : (o : Option Reply) → winner shape.f shape.n notes ≡ o → o ≡ Some reply
    by_winner None is =
        let enough = loyal_enough shape notes reply few most same in
        let too_few = none_enough shape.f shape.n notes reply is in
        absurd (omega (arith, enough, too_few))
    by_winner (Some w) is =
        let voter = loyal_voter shape notes w few (winner_votes shape.f shape.n notes w is) in
        sym voter.2 ∙ same voter.0 voter.1

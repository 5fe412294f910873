-- How the rounds of a replica close.
use Rattle.std.proofs.Common.{◌≡◌, ℕ, zero, suc, ◌+◌, ◌-◌, ◌<◌, ◌≤◌, ◌==◌, ◌⊎◌, inl, inr, Bool, true, false, List, [], ◌∷◌, ◌++◌, length, if◌then◌else◌, refl, ap, sym, ◌∙◌, subst, arith}
use Rattle.std.specs.Prelude.{IsSome}
use Rattle.std.proofs.lemmas.Bool.Decides.{nat_tests, Decides-eqb}
use Rattle.std.proofs.lemmas.List.{length-append, append_assoc}
use Rattle.dsr_names.specs.Shape.{Shape, IsAllowed, IsLoyal}
use Rattle.dsr_names.specs.declared.actor.Actor.{Actor}
use Rattle.dsr_names.specs.declared.actor.Actor.TheVariants.{Replica, Client}
use Rattle.dsr_envelope.specs.declared.envelope.Envelope.{Envelope}
use Rattle.dsr_envelope.specs.declared.entry.Entry.{Entry}
use Rattle.dsr_envelope.specs.declared.entry.Entry.TheVariants.{Post, Take}
use Rattle.dsr_envelope.specs.declared.due.Due.{Due}
use Rattle.dsr_envelope.specs.declared.due.Due.TheVariants.{Post as PostTo, Take as TakeFrom}
use Rattle.dsr_envelope.specs.Log.{due, rounds, taken_from}
use Rattle.dsr_replica.specs.Conduct.{IsLoyalLog}
use Rattle.dsr_replica.specs.Counts.{IsInside}
use Rattle.dsr_replica.proofs.Lemmas.{counts, plain_possible}
use Rattle.dsr_node.specs.Conduct.{post_of}
use Rattle.dsr_envelope.specs.declared.pick.Pick.{Pick}
use Rattle.dsr_envelope.specs.declared.pick.Pick.TheVariants.{Plain}
use Rattle.dsr_boxes.specs.Pass.{Pass, with_entry}
use Rattle.dsr_calls.specs.Calls.{GoesOn}
use Rattle.dsr_run.specs.Eager.{ProposesNext, IsEager}
use Rattle.dsr_rounds.specs.Eagerness.{WasEager, IsEagerPost, HasTriedPost}
use Rattle.dsr_rounds.specs.Ends.{HasTried}
use Rattle.dsr_rounds.specs.Replicas.{HasClosed, IsOwed, AreOwed, AnswersOwed, DoesDuty, KeepsRound, IsAtPost, IsTaking, IsAtTake}

-- ---- what is posted to clients is owed to them, and what is posted to replica 0 is eager

pub duty_same : (later earlier : Pass) → later ≡ earlier → DoesDuty later earlier
duty_same later earlier e =
    subst (λ (s : Pass). DoesDuty s earlier) (sym e)
    (record { id = refl; shape = refl; actor = refl; added = []; log = refl; owed = tt; eager = tt })

pub duty_take : (later earlier : Pass) (from : Actor) (x : Envelope) → later ≡ with_entry earlier (Take from x) → DoesDuty later earlier
duty_take later earlier from x e =
    subst (λ (s : Pass). DoesDuty s earlier) (sym e)
    (record { id = refl; shape = refl; actor = refl; added = Take from x ∷ []; log = refl; owed = tt; eager = tt })

eager_post : (seat : Pass) (q : ℕ) (x : Envelope) → IsEagerPost seat q x → IsEager seat.shape seat.actor seat.log (Post (Replica q) x ∷ [])
eager_post seat zero x eager = (tt, eager)
eager_post seat (suc q) x eager = tt

pub duty_post : (later earlier : Pass) (q : ℕ) (x : Envelope) → IsEagerPost earlier q x → later ≡ with_entry earlier (Post (Replica q) x)
    → DoesDuty later earlier
duty_post later earlier q x eager e =
    subst (λ (s : Pass). DoesDuty s earlier) (sym e) (record {
      id = refl;
      shape = refl;
      actor = refl;
      added = Post (Replica q) x ∷ [];
      log = refl;
      owed = tt;
      eager = eager_post earlier q x eager;
    })

duty_answer : (later earlier : Pass) (c : ℕ) (x : Envelope) → IsOwed earlier.shape earlier.log c → later ≡ with_entry earlier (Post (Client c) x)
    → DoesDuty later earlier
duty_answer later earlier c x owed e =
    subst (λ (s : Pass). DoesDuty s earlier) (sym e)
    (record { id = refl; shape = refl; actor = refl; added = Post (Client c) x ∷ []; log = refl; owed = (tt, owed); eager = tt })

owed_further : (shape : Shape) (base was more : List Entry) → AreOwed shape (was ++ base) more → AreOwed shape base was → AreOwed shape base (more ++ was)
owed_further shape base was [] later earlier = earlier
owed_further shape base was (Post (Client c) x ∷ more) later earlier =
    (owed_further shape base was more later.0 earlier, subst (λ l. IsOwed shape l c) (sym (append_assoc more was base)) later.1)
owed_further shape base was (Post (Replica q) x ∷ more) later earlier = owed_further shape base was more later earlier
owed_further shape base was (Take from x ∷ more) later earlier = owed_further shape base was more later earlier

eager_further : (shape : Shape) (me : Actor) (base was more : List Entry) → IsEager shape me (was ++ base) more → IsEager shape me base was
    → IsEager shape me base (more ++ was)
eager_further shape me base was [] later earlier = earlier
eager_further shape me base was (Post (Replica zero) x ∷ more) later earlier =
    (eager_further shape me base was more later.0 earlier, subst (λ l. ProposesNext shape me l x) (sym (append_assoc more was base)) later.1)
eager_further shape me base was (Post (Replica (suc q)) x ∷ more) later earlier = eager_further shape me base was more later earlier
eager_further shape me base was (Post (Client c) x ∷ more) later earlier = eager_further shape me base was more later earlier
eager_further shape me base was (Take from x ∷ more) later earlier = eager_further shape me base was more later earlier

pub duty_further : (last later earlier : Pass) → DoesDuty last later → DoesDuty later earlier → DoesDuty last earlier
duty_further last later earlier more was = record {
  id = more.id ∙ was.id;
  shape = more.shape ∙ was.shape;
  actor = more.actor ∙ was.actor;
  added = more.added ++ was.added;
  log = more.log ∙ (ap (λ l. more.added ++ l) was.log ∙ sym (append_assoc more.added was.added earlier.log));
  owed = owed_further earlier.shape earlier.log was.added more.added
      (subst (λ (s : Shape). AreOwed s (was.added ++ earlier.log) more.added) was.shape
      (subst (λ l. AreOwed later.shape l more.added) was.log more.owed)) was.owed;
  eager = eager_further earlier.shape earlier.actor earlier.log was.added more.added
      (subst (λ a. IsEager earlier.shape a (was.added ++ earlier.log) more.added) was.actor
      (subst (λ (s : Shape). IsEager s later.actor (was.added ++ earlier.log) more.added) was.shape
      (subst (λ l. IsEager later.shape later.actor l more.added) was.log more.eager))) was.eager;
}

pub duty_goes : (later earlier : Pass) → DoesDuty later earlier → GoesOn later earlier
duty_goes later earlier duty = record { id = duty.id; shape = duty.shape; actor = duty.actor; log = (duty.added, duty.log) }

pub duty_owes : (later earlier : Pass) → DoesDuty later earlier → AnswersOwed later earlier
duty_owes later earlier duty =
    record { id = duty.id; shape = duty.shape; actor = duty.actor; added = duty.added; log = duty.log; owed = duty.owed }

pub duty_eager : (later earlier : Pass) → DoesDuty later earlier → WasEager later earlier
duty_eager later earlier duty = (duty.added, duty.log, duty.eager)

-- ---- what clients send and get leaves the round as it is

pub keeps_same : (later earlier : Pass) → later ≡ earlier → KeepsRound later earlier
keeps_same later earlier e = record {
  duty = duty_same later earlier e;
  due = ap (λ (s : Pass). due s.shape s.log) e;
  rounds = ap (λ (s : Pass). rounds s.shape s.log) e;
}

pub keeps_take : (later earlier : Pass) (c : ℕ) (x : Envelope) → later ≡ with_entry earlier (Take (Client c) x) → KeepsRound later earlier
keeps_take later earlier c x e = record {
  duty = duty_take later earlier (Client c) x e;
  due = ap (λ (s : Pass). due s.shape s.log) e;
  rounds = ap (λ (s : Pass). rounds s.shape s.log) e;
}

pub keeps_post : (later earlier : Pass) (c : ℕ) (x : Envelope) → IsOwed earlier.shape earlier.log c → later ≡ with_entry earlier (Post (Client c) x)
    → KeepsRound later earlier
keeps_post later earlier c x owed e = record {
  duty = duty_answer later earlier c x owed e;
  due = ap (λ (s : Pass). due s.shape s.log) e;
  rounds = ap (λ (s : Pass). rounds s.shape s.log) e;
}

pub keeps_further : (last later earlier : Pass) → KeepsRound last later → KeepsRound later earlier → KeepsRound last earlier
keeps_further last later earlier more was = record {
  duty = duty_further last later earlier more.duty was.duty;
  due = more.due ∙ was.due;
  rounds = more.rounds ∙ was.rounds;
}

pub take_keeps : (c : ℕ) (earlier later : Pass) (made : Bool) → HasTried (Take (Client c)) earlier later made → KeepsRound later earlier
take_keeps c earlier later true tried = keeps_take later earlier c tried.0 tried.1
take_keeps c earlier later false tried = keeps_same later earlier tried

pub post_keeps : (c : ℕ) (earlier later : Pass) (pick : Pick) (made : Bool) → IsOwed earlier.shape earlier.log c
    → HasTriedPost earlier later (Client c) pick made → KeepsRound later earlier
post_keeps c earlier later pick true owed tried = keeps_post later earlier c tried.0 owed tried.2
post_keeps c earlier later pick false owed tried = keeps_same later earlier tried

-- ---- posts

pub post_rounds : (later earlier : Pass) (q : ℕ) (x : Envelope) → later ≡ with_entry earlier (Post (Replica q) x)
    → rounds later.shape later.log ≡ rounds earlier.shape earlier.log
post_rounds later earlier q x e = ap (λ (s : Pass). rounds s.shape s.log) e

at_next_post : (n q : ℕ) (b : Bool) → b ≡ (suc q == n) → q < n → IsAtPost n (suc q) (if b then TakeFrom 0 else PostTo (suc q))
at_next_post n q true e less = (Decides-eqb (suc q) n).0 (sym e)
at_next_post n q false e less = (refl, below n q e less)
  where
    below : (n q : ℕ) → false ≡ (suc q == n) → q < n → suc q < n
    below n q e less = grind (arith, nat_tests)

pub post_at : (later earlier : Pass) (n q : ℕ) (x : Envelope) → n ≡ earlier.shape.n → q < n → later ≡ with_entry earlier (Post (Replica q) x)
    → IsAtPost n (suc q) (due later.shape later.log)
post_at later earlier n q x is less e =
    subst (λ (s : Pass). IsAtPost n (suc q) (due s.shape s.log)) (sym e)
    (subst (λ k. IsAtPost n (suc q) (if suc q == k then TakeFrom 0 else PostTo (suc q))) is (at_next_post n q (suc q == n) refl less))

pub due_at_post : (n q : ℕ) (d : Due) → q < n → IsAtPost n q d → d ≡ PostTo q
due_at_post n q (PostTo to) less at = ap PostTo at.0
due_at_post n q (TakeFrom from) less at = absurd (omega (arith, less, at))

pub taking_at : (n q : ℕ) (d : Due) → n ≤ q → IsAtPost n q d → IsTaking d
taking_at n q (PostTo to) most at = let less = at.1 in absurd (omega (arith, most, less))
taking_at n q (TakeFrom from) most at = tt

-- ---- takes

length_if : {A : Type 0} (b : Bool) (xs : List A) (x : A) → length (if b then xs ++ x ∷ [] else xs) ≡ (if b then suc (length xs) else length xs)
length_if true xs x = omega (arith, length-append xs (x ∷ []))
length_if false xs x = refl

closes : (n p c : ℕ) → p < n → (if p == n - 1 then suc c else c) ≡ (if suc p == n then suc c else c)
closes n p c less = grind (arith, nat_tests)

take_rounds : (shape : Shape) (log : List Entry) (p : ℕ) (x : Envelope) → p < shape.n
    → rounds shape (Take (Replica p) x ∷ log) ≡ (if suc p == shape.n then suc (rounds shape log) else rounds shape log)
take_rounds shape log p x less =
    length_if (p == shape.n - 1) (taken_from (Replica (shape.n - 1)) log) x ∙ closes shape.n p (rounds shape log) less

at_next_take : (n p closed k : ℕ) (d : Due) (b : Bool) → b ≡ (suc p == n) → p < n → d ≡ (if b then PostTo 0 else TakeFrom (suc p))
    → k ≡ (if b then suc closed else closed) → ((suc p < n) × (d ≡ TakeFrom (suc p)) × (k ≡ closed)) ⊎ ((suc p ≡ n) × (k ≡ suc closed))
at_next_take n p closed k d true e less due_is rounds_is = inr ((Decides-eqb (suc p) n).0 (sym e), rounds_is)
at_next_take n p closed k d false e less due_is rounds_is = inl (below n p e less, due_is, rounds_is)
  where
    below : (n p : ℕ) → false ≡ (suc p == n) → p < n → suc p < n
    below n p e less = grind (arith, nat_tests)

-- a take from replica p that is due, with this many rounds closed, moves on
pub take_at : (later earlier : Pass) (n p closed : ℕ) (x : Envelope) → n ≡ earlier.shape.n → p < n → rounds earlier.shape earlier.log ≡ closed
    → later ≡ with_entry earlier (Take (Replica p) x) → IsAtTake later n (suc p) closed
take_at later earlier n p closed x is less was e =
    subst (λ (s : Pass). IsAtTake s n (suc p) closed) (sym e)
    (subst (λ k. IsAtTake (with_entry earlier (Take (Replica p) x)) k (suc p) closed) (sym is)
    (at_next_take earlier.shape.n p closed (rounds earlier.shape (Take (Replica p) x ∷ earlier.log)) (due earlier.shape (Take (Replica p) x ∷ earlier.log))
    (suc p == earlier.shape.n) refl (subst (λ k. p < k) is less) refl
    (take_rounds earlier.shape earlier.log p x (subst (λ k. p < k) is less) ∙ ap (λ c. if suc p == earlier.shape.n then suc c else c) was)))

pub due_at_take : (seat : Pass) (n p closed : ℕ) → p < n → IsAtTake seat n p closed → (due seat.shape seat.log ≡ TakeFrom p) × (rounds seat.shape seat.log ≡ closed)
due_at_take seat n p closed less at = elim at [
  | inl more ↦ (more.1, more.2)
  | inr done ↦ let e = done.0 in absurd (omega (arith, less, e))
]

pub closed_at : (seat : Pass) (n p closed : ℕ) → n ≤ p → IsAtTake seat n p closed → rounds seat.shape seat.log ≡ suc closed
closed_at seat n p closed most at = elim at [
  | inl more ↦ let less = more.0 in absurd (omega (arith, less, most))
  | inr done ↦ done.1
]

-- ---- rounds add up

pub none_closed : (seat : Pass) → HasClosed seat seat 0
none_closed seat = omega arith

pub more_closed : (first later last : Pass) (count : ℕ) → HasClosed first later count → HasClosed later last 1 → HasClosed first last (suc count)
more_closed first later last count was one =
    one ∙ (ap (λ k. k + 1) was ∙ plus (rounds first.shape first.log) count)
  where
    plus : (a b : ℕ) → a + b + 1 ≡ a + suc b
    plus a b = omega arith

-- ---- how a loop begins and goes on

one_more : (k : ℕ) → suc k ≡ k + 1
one_more k = omega arith

pub inside : (seat : Pass) (d : Due) → IsAllowed seat.shape → IsLoyalLog seat.shape seat.actor seat.log → d ≡ due seat.shape seat.log → IsInside seat.shape.n d
inside seat d allowed loyal is =
    subst (IsInside seat.shape.n) (sym is) (counts seat.shape seat.actor allowed.some_replica seat.log loyal).inside

pub first_take : (seat : Pass) (from p : ℕ) → IsAllowed seat.shape → IsLoyalLog seat.shape seat.actor seat.log → TakeFrom from ≡ due seat.shape seat.log → p ≡ from
    → IsAtTake seat seat.shape.n p (rounds seat.shape seat.log)
first_take seat from p allowed loyal is same =
    subst (λ k. IsAtTake seat seat.shape.n k (rounds seat.shape seat.log)) (sym same) (inl (inside seat (TakeFrom from) allowed loyal is, sym is, refl))

pub post_here : (seat : Pass) (to p : ℕ) → IsAllowed seat.shape → IsLoyalLog seat.shape seat.actor seat.log → PostTo to ≡ due seat.shape seat.log → p ≡ to
    → IsAtPost seat.shape.n p (due seat.shape seat.log)
post_here seat to p allowed loyal is same =
    subst (IsAtPost seat.shape.n p) is (sym same, subst (λ k. k < seat.shape.n) (sym same) (inside seat (PostTo to) allowed loyal is))

pub take_here : (seat : Pass) (from p : ℕ) → TakeFrom from ≡ due seat.shape seat.log → p ≡ seat.shape.n → IsAtPost seat.shape.n p (due seat.shape seat.log)
take_here seat from p is same = subst (IsAtPost seat.shape.n p) is same

pub take_step : (first earlier later : Pass) (p closed : ℕ) (x : Envelope) → DoesDuty earlier first → p < first.shape.n → IsAtTake earlier first.shape.n p closed
    → later ≡ with_entry earlier (Take (Replica p) x) → DoesDuty later first × IsAtTake later first.shape.n (p + 1) closed
take_step first earlier later p closed x goes less at e = (
  duty_further later earlier first (duty_take later earlier (Replica p) x e) goes,
  subst (λ k. IsAtTake later first.shape.n k closed) (one_more p)
      (take_at later earlier first.shape.n p closed x (sym (ap (λ (s : Shape). s.n) goes.shape)) less (due_at_take earlier first.shape.n p closed less at).1 e),
)

pub post_step : (first earlier later : Pass) (q : ℕ) (x : Envelope) → DoesDuty earlier first → q < first.shape.n → rounds earlier.shape earlier.log ≡ rounds first.shape first.log
    → later ≡ with_entry earlier (Post (Replica q) x) → IsEagerPost earlier q x
    → DoesDuty later first × IsAtPost first.shape.n (q + 1) (due later.shape later.log) × (rounds later.shape later.log ≡ rounds first.shape first.log)
post_step first earlier later q x goes less same e eager = (
  duty_further later earlier first (duty_post later earlier q x eager e) goes,
  subst (λ k. IsAtPost first.shape.n k (due later.shape later.log)) (one_more q)
      (post_at later earlier first.shape.n q x (sym (ap (λ (s : Shape). s.n) goes.shape)) less e),
  post_rounds later earlier q x e ∙ same,
)

-- ---- a post that is due

pub plain_post : (seat : Pass) (me q : ℕ) → seat.actor ≡ Replica me → IsLoyal seat.shape seat.actor → IsLoyalLog seat.shape seat.actor seat.log → due seat.shape seat.log ≡ PostTo q
    → IsSome (post_of seat.shape seat.log seat.actor (Replica q) Plain)
plain_post seat me q is honest loyal due_is =
    let less = (subst (IsLoyal seat.shape) is honest).0 in
    subst (λ a. IsSome (post_of seat.shape seat.log a (Replica q) Plain)) (sym is)
    (plain_possible seat.shape (Replica me) seat.log (omega (arith, less)) (subst (λ a. IsLoyalLog seat.shape a seat.log) is loyal) q due_is)

pub round_step : (first earlier later : Pass) (count : ℕ) → DoesDuty earlier first → DoesDuty later earlier → HasClosed first earlier count → HasClosed earlier later 1
    → DoesDuty later first × HasClosed first later (count + 1)
round_step first earlier later count goes more was one =
    (duty_further later earlier first more goes, subst (HasClosed first later) (one_more count) (more_closed first earlier later count was one))

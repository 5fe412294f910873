-- The number of envelopes that a loyal replica has posted to each replica and taken from each, at each point
-- of a round.
use Rattle.std.proofs.Common.{◌≡◌, ℕ, suc, ◌-◌, ◌<◌, ◌≤◌, ◌==◌, nat_lt, Bool, true, false, List, [], ◌∷◌, length, Option, None, Some, if◌then◌else◌, refl, ap, sym, ◌∙◌, subst, arith}
use Rattle.std.proofs.lemmas.Bool.Decides.{nat_tests, Decides-eqb}
use Rattle.std.proofs.lemmas.Option.{none-some}
use Rattle.dsr_names.specs.Shape.{Shape}
use Rattle.dsr_names.specs.declared.actor.Actor.{Actor}
use Rattle.dsr_names.specs.declared.actor.Actor.TheVariants.{Replica, Client}
use Rattle.dsr_envelope.specs.declared.envelope.Envelope.{Envelope}
use Rattle.dsr_envelope.specs.declared.entry.Entry.{Entry}
use Rattle.dsr_envelope.specs.declared.entry.Entry.TheVariants.{Post, Take}
use Rattle.dsr_envelope.specs.declared.due.Due.{Due}
use Rattle.dsr_envelope.specs.declared.due.Due.TheVariants.{Post as PostTo, Take as TakeFrom}
use Rattle.dsr_envelope.specs.declared.pick.Pick.{Pick}
use Rattle.dsr_replica.specs.Conduct.{is_due, chosen, envelope_to, IsLoyalLog}
use Rattle.dsr_replica.specs.Counts.{IsInside, posts_at, takes_at, HasCounts}
use Rattle.dsr_envelope.specs.Log.{posted_to, taken_from, due, rounds}
use Rattle.dsr_replica.proofs.Joining.{length_if}

-- a post that a choice gives is due
some_due : {A : Type 0} (b : Bool) (o : Option A) (x : A) → (if b then o else None) ≡ Some x → b ≡ true
some_due true o x e = refl
some_due false o x e = absurd (none-some x e)

due_is : (d : Due) (q : ℕ) → is_due d q ≡ true → d ≡ PostTo q
due_is (PostTo r) q e = ap PostTo ((Decides-eqb r q).0 e)
due_is (TakeFrom p) q e = absurd cc

pub post_due : (shape : Shape) (me : Actor) (log : List Entry) (q : ℕ) (pick : Pick) (envelope : Envelope)
    → envelope_to shape me log q pick ≡ Some envelope → due shape log ≡ PostTo q
post_due shape me log q pick envelope e =
    due_is (due shape log) q (some_due (is_due (due shape log) q) (chosen shape me log q pick) envelope e)

-- ---- one step, over plain numbers

posts_split : (b : Bool) (k t q : ℕ) → posts_at (if b then TakeFrom 0 else PostTo (suc k)) t q ≡ (if b then suc t else (if nat_lt q (suc k) then suc t else t))
posts_split true k t q = refl
posts_split false k t q = refl

post_step : (n k q t count : ℕ) → k < n → q < n → count ≡ (if nat_lt q k then suc t else t)
    → (if k == q then suc count else count) ≡ (if suc k == n then suc t else (if nat_lt q (suc k) then suc t else t))
post_step n k q t count inside within is = grind (arith, nat_tests)

next_post_inside : (n k : ℕ) (b : Bool) → b ≡ (suc k == n) → k < n → IsInside n (if b then TakeFrom 0 else PostTo (suc k))
next_post_inside n k true e inside = omega (arith, inside)
next_post_inside n k false e inside = grind (arith, nat_tests)

next_take_inside : (n k : ℕ) (b : Bool) → b ≡ (suc k == n) → k < n → IsInside n (if b then PostTo 0 else TakeFrom (suc k))
next_take_inside n k true e inside = omega (arith, inside)
next_take_inside n k false e inside = grind (arith, nat_tests)

none_taken : (b : Bool) (k t p : ℕ) → takes_at (if b then TakeFrom 0 else PostTo (suc k)) t p ≡ t
none_taken true k t p = grind (arith, nat_tests)
none_taken false k t p = refl

all_posted : (b : Bool) (k t q : ℕ) → posts_at (if b then PostTo 0 else TakeFrom (suc k)) (if b then suc t else t) q ≡ suc t
all_posted true k t q = grind (arith, nat_tests)
all_posted false k t q = refl

takes_split : (b : Bool) (k t p : ℕ) → takes_at (if b then PostTo 0 else TakeFrom (suc k)) (if b then suc t else t) p
    ≡ (if b then suc t else (if nat_lt p (suc k) then suc t else t))
takes_split true k t p = refl
takes_split false k t p = refl

-- ---- one entry

module _ (shape : Shape) (log : List Entry) (envelope : Envelope) where
  pub after_post : (k t : ℕ) → HasCounts shape log t → due shape log ≡ PostTo k → HasCounts shape (Post (Replica k) envelope ∷ log) t
  after_post k t counts is =
      let inside : k < shape.n = subst (IsInside shape.n) is counts.inside in
      record {
        inside = next_post_inside shape.n k (suc k == shape.n) refl inside;
        posts = λ q within.
            length_if (k == q) (posted_to (Replica q) log) envelope
            ∙ (post_step shape.n k q t (length (posted_to (Replica q) log)) inside within (counts.posts q within ∙ ap (λ d. posts_at d t q) is)
            ∙ sym (posts_split (suc k == shape.n) k t q));
        takes = λ p within. counts.takes p within ∙ (ap (λ d. takes_at d t p) is ∙ sym (none_taken (suc k == shape.n) k t p));
      }

  pub after_take : (k t : ℕ) → HasCounts shape log t → due shape log ≡ TakeFrom k
      → HasCounts shape (Take (Replica k) envelope ∷ log) (if suc k == shape.n then suc t else t)
  after_take k t counts is =
      let inside : k < shape.n = subst (IsInside shape.n) is counts.inside in
      record {
        inside = next_take_inside shape.n k (suc k == shape.n) refl inside;
        posts = λ q within. counts.posts q within ∙ (ap (λ d. posts_at d t q) is ∙ sym (all_posted (suc k == shape.n) k t q));
        takes = λ p within.
            length_if (k == p) (taken_from (Replica p) log) envelope
            ∙ (post_step shape.n k p t (length (taken_from (Replica p) log)) inside within (counts.takes p within ∙ ap (λ d. takes_at d t p) is)
            ∙ sym (takes_split (suc k == shape.n) k t p));
      }

-- ---- a whole log

module _ (shape : Shape) (me : Actor) (some : 0 < shape.n) where
  some_counts : (log : List Entry) → IsLoyalLog shape me log → (t : ℕ) × HasCounts shape log t
  some_counts [] loyal = (0, record { inside = some; posts = λ q within. grind (arith, nat_tests); takes = λ p within. refl })
  some_counts (Post (Replica q) envelope ∷ older) loyal =
      let before = some_counts older loyal.0 in
      let next = loyal.1 in
      (before.0, after_post shape older envelope q before.0 before.1 (post_due shape me older q next.0 envelope next.2))
  some_counts (Post (Client c) envelope ∷ older) loyal =
      let before = some_counts older loyal.0 in
      (before.0, record { inside = before.1.inside; posts = before.1.posts; takes = before.1.takes })
  some_counts (Take (Replica p) envelope ∷ older) loyal =
      let before = some_counts older loyal.0 in
      ((if suc p == shape.n then suc before.0 else before.0), after_take shape older envelope p before.0 before.1 loyal.1)
  some_counts (Take (Client c) envelope ∷ older) loyal =
      let before = some_counts older loyal.0 in
      (before.0, record { inside = before.1.inside; posts = before.1.posts; takes = before.1.takes })

  closed : (d : Due) (t n : ℕ) → 0 < n → IsInside n d → takes_at d t (n - 1) ≡ t
  closed (PostTo k) t n many inside = refl
  closed (TakeFrom k) t n many inside = grind (arith, nat_tests)

  -- the counts of a loyal log
  pub counts : (log : List Entry) → IsLoyalLog shape me log → HasCounts shape log (rounds shape log)
  counts log loyal =
      let found = some_counts log loyal in
      let last : rounds shape log ≡ found.0 =
      found.1.takes (shape.n - 1) (omega (arith, some)) ∙ closed (due shape log) found.0 shape.n some found.1.inside in
      subst (HasCounts shape log) (sym last) found.1

  -- all envelopes of the closed rounds are taken
  pub all_taken : (log : List Entry) → IsLoyalLog shape me log → (p : ℕ) → p < shape.n → rounds shape log ≤ length (taken_from (Replica p) log)
  all_taken log loyal p inside =
      let all = counts log loyal in
      let count = all.takes p inside in
      let enough = at_least (due shape log) (rounds shape log) p in
      omega (arith, count, enough)
    where
      at_least : (d : Due) (t p : ℕ) → t ≤ takes_at d t p
      at_least (PostTo k) t p = omega arith
      at_least (TakeFrom k) t p = grind (arith, nat_tests)

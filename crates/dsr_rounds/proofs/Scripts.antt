-- How a traitor's seat follows a script.
use Rattle.std.proofs.Common.{◌≡◌, ℕ, suc, ◌+◌, ◌<◌, ◌==◌, inl, inr, Bool, true, false, List, [], ◌∷◌, ◌++◌, Some, length, if◌then◌else◌, refl, ap, sym, ◌∙◌, subst, arith}
use Rattle.std.specs.Prelude.{Result, Ok, Err, OnErr}
use Rattle.std.proofs.lemmas.Bool.Decides.{nat_tests}
use Rattle.std.proofs.lemmas.List.{length-append}
use Rattle.dsr_names.specs.Shape.{Shape}
use Rattle.dsr_names.specs.declared.actor.Actor.{Actor}
use Rattle.dsr_names.specs.declared.actor.Actor.TheVariants.{Replica, Client}
use Rattle.dsr_names.specs.Support.ActorEquality.{actor_eq}
use Rattle.dsr_envelope.specs.declared.envelope.Envelope.{Envelope}
use Rattle.dsr_envelope.specs.declared.envelope.Envelope.TheVariants.{Empty}
use Rattle.dsr_envelope.specs.declared.entry.Entry.{Entry}
use Rattle.dsr_envelope.specs.declared.entry.Entry.TheVariants.{Post, Take}
use Rattle.dsr_envelope.specs.Log.{posted_to, taken_from}
use Rattle.dsr_script.specs.Script.{Script, draft_at, place_of}
use Rattle.dsr_run.specs.OwnStep.{ForgesNone}
use Rattle.dsr_boxes.specs.Pass.{Pass, with_entry}
use Rattle.dsr_calls.specs.Calls.{GoesOn, number_of}
use Rattle.dsr_rounds.specs.Ends.{HasTried}
use Rattle.dsr_rounds.specs.declared.end.End.{End}
use Rattle.dsr_rounds.specs.declared.traitor.Planting.{Planting}
use Rattle.dsr_rounds.specs.declared.traitor.Planting.TheVariants.{Made, Forged, Full}
use Rattle.dsr_rounds.specs.Traitors.{FollowsScript, RanScript, IsBetweenRounds, Follows, StillFollows, StillTakes, IsPlanned, HasPlanted, IsScripted, KeepsCounts, PostsToClients, PostsDrafts, TakesFromAll, MakesRound, count_at}
use Rattle.dsr_rounds.proofs.Going.{goes_same, goes_entry, goes_further}

-- ---- the empty envelope

pub empty_forges_none : (shape : Shape) (me : Actor) (log : List Entry) → ForgesNone shape me log Empty
empty_forges_none shape (Replica p) log = λ traitor s carried. absurd carried
empty_forges_none shape (Client c) log = tt

-- ---- nothing with replicas

pub keeps_same : (earlier later : Pass) → later ≡ earlier → KeepsCounts earlier later
keeps_same earlier later e = record {
  goes_on = goes_same later earlier e;
  keeps = λ script first posts takes follows. subst (λ (s : Pass). FollowsScript script first s posts takes) (sym e) follows;
}

pub keeps_take : (earlier later : Pass) (c : ℕ) (x : Envelope) → later ≡ with_entry earlier (Take (Client c) x) → KeepsCounts earlier later
keeps_take earlier later c x e = record {
  goes_on = goes_entry later earlier (Take (Client c) x) e;
  keeps = λ script first posts takes follows. subst (λ (s : Pass). FollowsScript script first s posts takes) (sym e) (record {
    id = follows.id;
    shape = follows.shape;
    actor = follows.actor;
    added = Take (Client c) x ∷ follows.added;
    log = ap (λ l. Take (Client c) x ∷ l) follows.log;
    posted = follows.posted;
    taken = follows.taken;
    planned = follows.planned;
  });
}

pub take_keeps : (c : ℕ) (earlier later : Pass) (made : Bool) → HasTried (Take (Client c)) earlier later made → KeepsCounts earlier later
take_keeps c earlier later true tried = keeps_take earlier later c tried.0 tried.1
take_keeps c earlier later false tried = keeps_same earlier later tried

pub keeps_further : (first later last : Pass) → KeepsCounts first later → KeepsCounts later last → KeepsCounts first last
keeps_further first later last was more = record {
  goes_on = goes_further last later first more.goes_on was.goes_on;
  keeps = λ script start posts takes follows. more.keeps script start posts takes (was.keeps script start posts takes follows);
}

-- ---- counts

length_if : {A : Type 0} (b : Bool) (xs : List A) (x : A) → length (if b then xs ++ x ∷ [] else xs) ≡ (if b then suc (length xs) else length xs)
length_if true xs x = omega (arith, length-append xs (x ∷ []))
length_if false xs x = refl

next_count : (t p q c : ℕ) → c ≡ count_at t p q → (if p == q then suc c else c) ≡ count_at t (suc p) q
next_count t p q c is = grind (arith, nat_tests)

own_count : (t p : ℕ) → count_at t p p ≡ t
own_count t p = grind (arith, nat_tests)

all_counted : (t n q : ℕ) → q < n → count_at t n q ≡ count_at (suc t) 0 q
all_counted t n q less = grind (arith, nat_tests)

no_count : (t q : ℕ) → count_at t 0 q ≡ t
no_count t q = grind (arith, nat_tests)

-- other functions may give the same counts
pub counted : (script : Script) (first later : Pass) (posts takes posts_too takes_too : ℕ → ℕ)
    → ((q : ℕ) → q < first.shape.n → posts q ≡ posts_too q) → ((q : ℕ) → q < first.shape.n → takes q ≡ takes_too q)
    → FollowsScript script first later posts takes → FollowsScript script first later posts_too takes_too
counted script first later posts takes posts_too takes_too post_same take_same follows = record {
  id = follows.id;
  shape = follows.shape;
  actor = follows.actor;
  added = follows.added;
  log = follows.log;
  posted = λ q less. follows.posted q less ∙ post_same q less;
  taken = λ q less. follows.taken q less ∙ take_same q less;
  planned = follows.planned;
}

pub none_yet : (script : Script) (seat : Pass) → FollowsScript script seat seat (count_at 0 0) (count_at 0 0)
none_yet script seat = record {
  id = refl;
  shape = refl;
  actor = refl;
  added = [];
  log = refl;
  posted = λ q less. sym (no_count 0 q);
  taken = λ q less. sym (no_count 0 q);
  planned = tt;
}

pub ran : (script : Script) (count : ℕ) (first last : Pass) → FollowsScript script first last (count_at count 0) (count_at count 0) → RanScript script count first last
ran script count first last follows =
    counted script first last (count_at count 0) (count_at count 0) (λ q. count) (λ q. count) (λ q less. no_count count q) (λ q less. no_count count q) follows

-- ---- whether a round is open

plus_if : (b : Bool) (m k n : ℕ) → m ≡ k + n → (if b then suc m else m) ≡ (if b then suc k else k) + n
plus_if true m k n e = omega (arith, e)
plus_if false m k n e = e

posted_both : (a : Actor) (newer older : List Entry)
    → length (posted_to a (newer ++ older)) ≡ length (posted_to a newer) + length (posted_to a older)
posted_both a [] older = omega arith
posted_both a (Take from x ∷ newer) older = posted_both a newer older
posted_both a (Post to x ∷ newer) older =
    length_if (actor_eq to a) (posted_to a (newer ++ older)) x
    ∙ (plus_if (actor_eq to a) (length (posted_to a (newer ++ older))) (length (posted_to a newer)) (length (posted_to a older)) (posted_both a newer older)
    ∙ ap (λ k. k + length (posted_to a older)) (sym (length_if (actor_eq to a) (posted_to a newer) x)))

taken_both : (a : Actor) (newer older : List Entry)
    → length (taken_from a (newer ++ older)) ≡ length (taken_from a newer) + length (taken_from a older)
taken_both a [] older = omega arith
taken_both a (Post to x ∷ newer) older = taken_both a newer older
taken_both a (Take from x ∷ newer) older =
    length_if (actor_eq from a) (taken_from a (newer ++ older)) x
    ∙ (plus_if (actor_eq from a) (length (taken_from a (newer ++ older))) (length (taken_from a newer)) (length (taken_from a older)) (taken_both a newer older)
    ∙ ap (λ k. k + length (taken_from a older)) (sym (length_if (actor_eq from a) (taken_from a newer) x)))

-- equal numbers of posts and takes for each replica leave no round open if none was open before
pub between_on : (script : Script) (counts : ℕ → ℕ) (old new : Pass) → FollowsScript script old new counts counts → IsBetweenRounds old → IsBetweenRounds new
between_on script counts old new follows was q inside =
    let low : q < old.shape.n = subst (λ (s : Shape). q < s.n) follows.shape inside in
    let taken : length (taken_from (Replica q) new.log) ≡ counts q + length (taken_from (Replica q) old.log) =
    ap (λ l. length (taken_from (Replica q) l)) follows.log
    ∙ (taken_both (Replica q) follows.added old.log ∙ ap (λ k. k + length (taken_from (Replica q) old.log)) (follows.taken q low)) in
    let posted : length (posted_to (Replica q) new.log) ≡ counts q + length (posted_to (Replica q) old.log) =
    ap (λ l. length (posted_to (Replica q) l)) follows.log
    ∙ (posted_both (Replica q) follows.added old.log ∙ ap (λ k. k + length (posted_to (Replica q) old.log)) (follows.posted q low)) in
    taken ∙ (ap (λ k. counts q + k) (was q low) ∙ sym posted)

-- ---- posts to clients by the script

posts_same : (script : Script) (t n : ℕ) (earlier later : Pass) → later ≡ earlier → PostsToClients script t n earlier later
posts_same script t n earlier later e = record {
  goes_on = goes_same later earlier e;
  keeps = λ first takes follows. subst (λ (s : Pass). FollowsScript script first s (count_at t n) takes) (sym e) follows;
}

each_count : (t n q : ℕ) → q < n → count_at t n q ≡ suc t
each_count t n q less = grind (arith, nat_tests)

one_answer : (script : Script) (t n c : ℕ) (earlier later : Pass) (x : Envelope) (takes : ℕ → ℕ) (first : Pass) → n ≡ earlier.shape.n
    → draft_at script (place_of (number_of earlier.actor) t (Client c)) ≡ Some x → ForgesNone earlier.shape earlier.actor earlier.log x
    → later ≡ with_entry earlier (Post (Client c) x)
    → FollowsScript script first earlier (count_at t n) takes → FollowsScript script first later (count_at t n) takes
one_answer script t n c earlier later x takes first is draft forges e follows =
    let all : n ≡ first.shape.n = is ∙ ap (λ (s : Shape). s.n) follows.shape in
    let made : (q : ℕ) → q < first.shape.n → length (posted_to (Replica q) follows.added) ≡ suc t =
    λ q less. follows.posted q less ∙ each_count t n q (subst (λ k. q < k) (sym all) less) in
    let by_actor : draft_at script (place_of (number_of first.actor) t (Client c)) ≡ Some x =
    subst (λ a. draft_at script (place_of (number_of a) t (Client c)) ≡ Some x) follows.actor draft in
    let unforged : ForgesNone first.shape first.actor (follows.added ++ first.log) x =
    subst (λ s. ForgesNone s first.actor (follows.added ++ first.log) x) follows.shape
    (subst (λ a. ForgesNone earlier.shape a (follows.added ++ first.log) x) follows.actor
    (subst (λ l. ForgesNone earlier.shape earlier.actor l x) follows.log forges)) in
    subst (λ (s : Pass). FollowsScript script first s (count_at t n) takes) (sym e) (record {
      id = follows.id;
      shape = follows.shape;
      actor = follows.actor;
      added = Post (Client c) x ∷ follows.added;
      log = ap (λ l. Post (Client c) x ∷ l) follows.log;
      posted = follows.posted;
      taken = follows.taken;
      planned = (follows.planned, (t, made, by_actor, unforged));
    })

posts_answer : (script : Script) (t n c : ℕ) (earlier later : Pass) (x : Envelope) → n ≡ earlier.shape.n
    → draft_at script (place_of (number_of earlier.actor) t (Client c)) ≡ Some x → ForgesNone earlier.shape earlier.actor earlier.log x
    → later ≡ with_entry earlier (Post (Client c) x) → PostsToClients script t n earlier later
posts_answer script t n c earlier later x is draft forges e = record {
  goes_on = goes_entry later earlier (Post (Client c) x) e;
  keeps = λ first takes follows. one_answer script t n c earlier later x takes first is draft forges e follows;
}

pub plant_posts : (script : Script) (t n c p : ℕ) (draft : Envelope) (earlier later : Pass) (planting : Planting) → n ≡ earlier.shape.n
    → earlier.actor ≡ Replica p → Some draft ≡ draft_at script (place_of p t (Client c))
    → HasPlanted earlier later (Client c) draft planting → PostsToClients script t n earlier later
plant_posts script t n c p draft earlier later Made is me drafted planted =
    posts_answer script t n c earlier later draft is
    (subst (λ a. draft_at script (place_of (number_of a) t (Client c)) ≡ Some draft) (sym me) (sym drafted)) planted.1 planted.0
plant_posts script t n c p draft earlier later Forged is me drafted planted = posts_same script t n earlier later planted.0
plant_posts script t n c p draft earlier later Full is me drafted planted = posts_same script t n earlier later planted

pub no_answers : (script : Script) (t n : ℕ) (seat : Pass) → PostsToClients script t n seat seat
no_answers script t n seat = posts_same script t n seat seat refl

pub posts_further : (script : Script) (t n : ℕ) (first later last : Pass) → PostsToClients script t n first later → PostsToClients script t n later last
    → PostsToClients script t n first last
posts_further script t n first later last was more = record {
  goes_on = goes_further last later first more.goes_on was.goes_on;
  keeps = λ start takes follows. more.keeps start takes (was.keeps start takes follows);
}

-- ---- a post to a replica by the script

pub one_post : (script : Script) (t p : ℕ) (earlier later : Pass) (x : Envelope) (takes : ℕ → ℕ) (first : Pass) → p < earlier.shape.n
    → later ≡ with_entry earlier (Post (Replica p) x) → IsPlanned script earlier.shape earlier.actor earlier.log t p x
    → FollowsScript script first earlier (count_at t p) takes → FollowsScript script first later (count_at t (suc p)) takes
one_post script t p earlier later x takes first less e planned follows =
    let inside : p < first.shape.n = subst (λ (s : Shape). p < s.n) follows.shape less in
    let round : t ≡ length (posted_to (Replica p) follows.added) = sym (follows.posted p inside ∙ own_count t p) in
    let by_shape : IsPlanned script first.shape earlier.actor earlier.log t p x =
    subst (λ s. IsPlanned script s earlier.actor earlier.log t p x) follows.shape planned in
    let by_actor : IsPlanned script first.shape first.actor earlier.log t p x =
    subst (λ a. IsPlanned script first.shape a earlier.log t p x) follows.actor by_shape in
    let by_log : IsPlanned script first.shape first.actor (follows.added ++ first.log) t p x =
    subst (λ l. IsPlanned script first.shape first.actor l t p x) follows.log by_actor in
    let by_round : IsPlanned script first.shape first.actor (follows.added ++ first.log) (length (posted_to (Replica p) follows.added)) p x =
    subst (λ k. IsPlanned script first.shape first.actor (follows.added ++ first.log) k p x) round by_log in
    subst (λ (s : Pass). FollowsScript script first s (count_at t (suc p)) takes) (sym e) (record {
      id = follows.id;
      shape = follows.shape;
      actor = follows.actor;
      added = Post (Replica p) x ∷ follows.added;
      log = ap (λ l. Post (Replica p) x ∷ l) follows.log;
      posted = λ q within. length_if (p == q) (posted_to (Replica q) follows.added) x
          ∙ next_count t p q (length (posted_to (Replica q) follows.added)) (follows.posted q within);
      taken = follows.taken;
      planned = (follows.planned, by_round);
    })

pub posts_on : (script : Script) (t p : ℕ) (first earlier later : Pass) (x : Envelope) → p < earlier.shape.n
    → later ≡ with_entry earlier (Post (Replica p) x) → IsPlanned script earlier.shape earlier.actor earlier.log t p x
    → PostsDrafts script t p first earlier → PostsDrafts script t (suc p) first later
posts_on script t p first earlier later x less e planned was = λ start takes follows.
    one_post script t p earlier later x takes start less e planned (was start takes follows)

pub no_posts : (script : Script) (t : ℕ) (seat : Pass) → PostsDrafts script t 0 seat seat
no_posts script t seat = λ start takes follows. follows

-- ---- a take

pub one_take : (t p : ℕ) (earlier later : Pass) (x : Envelope) → later ≡ with_entry earlier (Take (Replica p) x)
    → (script : Script) (posts : ℕ → ℕ) (first : Pass) → FollowsScript script first earlier posts (count_at t p)
    → FollowsScript script first later posts (count_at t (suc p))
one_take t p earlier later x e script posts first follows =
    subst (λ (s : Pass). FollowsScript script first s posts (count_at t (suc p))) (sym e) (record {
      id = follows.id;
      shape = follows.shape;
      actor = follows.actor;
      added = Take (Replica p) x ∷ follows.added;
      log = ap (λ l. Take (Replica p) x ∷ l) follows.log;
      posted = follows.posted;
      taken = λ q within. length_if (p == q) (taken_from (Replica q) follows.added) x
          ∙ next_count t p q (length (taken_from (Replica q) follows.added)) (follows.taken q within);
      planned = follows.planned;
    })

pub takes_on : (t p : ℕ) (first earlier later : Pass) (x : Envelope) → later ≡ with_entry earlier (Take (Replica p) x)
    → TakesFromAll t p first earlier → TakesFromAll t (suc p) first later
takes_on t p first earlier later x e was = λ script start posts follows. one_take t p earlier later x e script posts start (was script start posts follows)

pub no_takes : (t : ℕ) (seat : Pass) → TakesFromAll t 0 seat seat
no_takes t seat = λ script start posts follows. follows

-- ---- a round

pub round_made : (script : Script) (t n : ℕ) (a b c d e : Pass) → KeepsCounts a b → PostsDrafts script t n b c → PostsToClients script t n c d → TakesFromAll t n d e
    → n ≡ a.shape.n → MakesRound script t a e
round_made script t n a b c d e first posts second takes is = λ start follows.
    let done = takes script start (count_at t n)
    (second.keeps start (count_at t 0) (posts start (count_at t 0) (first.keeps script start (count_at t 0) (count_at t 0) follows))) in
    let same : n ≡ start.shape.n = is ∙ ap (λ (s : Shape). s.n) follows.shape in
    counted script start e (count_at t n) (count_at t n) (count_at (suc t) 0) (count_at (suc t) 0)
    (λ q less. all_counted t n q (subst (λ k. q < k) (sym same) less)) (λ q less. all_counted t n q (subst (λ k. q < k) (sym same) less)) done

pub round_after : (script : Script) (t : ℕ) (first earlier later : Pass) → FollowsScript script first earlier (count_at t 0) (count_at t 0)
    → MakesRound script t earlier later → FollowsScript script first later (count_at (suc t) 0) (count_at (suc t) 0)
round_after script t first earlier later was more = more first was

-- ---- what is left by a round that ends

pub still_kept : (script : Script) (t : ℕ) (a b : Pass) → KeepsCounts a b → StillFollows script (count_at t 0) (count_at t 0) a b
still_kept script t a b kept = λ first follows. (count_at t 0, count_at t 0, kept.keeps script first (count_at t 0) (count_at t 0) follows)

pub still_posts : (script : Script) (t : ℕ) (a b c : Pass) → KeepsCounts a b → StillFollows script (count_at t 0) (count_at t 0) b c
    → StillFollows script (count_at t 0) (count_at t 0) a c
still_posts script t a b c kept still = λ first follows. still first (kept.keeps script first (count_at t 0) (count_at t 0) follows)

-- how far it came before the takes from replicas
before_takes : (script : Script) (t n : ℕ) (a b c d : Pass) → KeepsCounts a b → PostsDrafts script t n b c → PostsToClients script t n c d
    → (first : Pass) → FollowsScript script first a (count_at t 0) (count_at t 0) → FollowsScript script first d (count_at t n) (count_at t 0)
before_takes script t n a b c d kept posts answers first follows =
    answers.keeps first (count_at t 0) (posts first (count_at t 0) (kept.keeps script first (count_at t 0) (count_at t 0) follows))

-- the mail's shape and the seat's shape have the same number of replicas
same_count : (script : Script) (t n k : ℕ) (b c : Pass) → k ≡ n → PostsDrafts script t k b c → PostsDrafts script t n b c
same_count script t n k b c is posts = subst (λ i. PostsDrafts script t i b c) is posts

pub still_answers : (script : Script) (t n k : ℕ) (a b c d : Pass) → k ≡ n → KeepsCounts a b → PostsDrafts script t k b c
    → PostsToClients script t n c d → StillFollows script (count_at t 0) (count_at t 0) a d
still_answers script t n k a b c d is kept posts answers =
    λ first follows. (count_at t n, count_at t 0, before_takes script t n a b c d kept (same_count script t n k b c is posts) answers first follows)

pub still_takes : (script : Script) (t n k : ℕ) (a b c d e : Pass) → k ≡ n → KeepsCounts a b → PostsDrafts script t k b c
    → PostsToClients script t n c d → StillTakes t d e → StillFollows script (count_at t 0) (count_at t 0) a e
still_takes script t n k a b c d e is kept posts answers takes =
    λ first follows. takes script (count_at t n) first (before_takes script t n a b c d kept (same_count script t n k b c is posts) answers first follows)

-- nor does a try that changed nothing add anything
pub stops_posts : (script : Script) (t p : ℕ) (a b c : Pass) → PostsDrafts script t p a b → c ≡ b → StillFollows script (count_at t 0) (count_at t 0) a c
stops_posts script t p a b c posts e = λ first follows. (
  count_at t p,
  count_at t 0,
  subst (λ (s : Pass). FollowsScript script first s (count_at t p) (count_at t 0)) (sym e) (posts first (count_at t 0) follows),
)

pub stops_takes : (t p : ℕ) (a b c : Pass) → TakesFromAll t p a b → c ≡ b → StillTakes t a c
stops_takes t p a b c takes e = λ script posts first follows. (
  posts,
  count_at t p,
  subst (λ (s : Pass). FollowsScript script first s posts (count_at t p)) (sym e) (takes script first posts follows),
)

-- what holds however it came out
pub at_end : {A : Type 0} (r : Result (Unit {0}) End) → A → OnErr r A
at_end (Ok nothing) h = tt
at_end (Err end) h = h

-- what follows from the state at an end
pub on_end : {A B : Type 0} (r : Result (Unit {0}) End) → (A → B) → OnErr r A → OnErr r B
on_end (Ok nothing) step h = tt
on_end (Err end) step h = step h

-- ---- how a loop goes on

one_more : (k : ℕ) → suc k ≡ k + 1
one_more k = omega arith

pub post_step : (script : Script) (t p : ℕ) (first earlier later : Pass) (x : Envelope) → GoesOn earlier first → p < first.shape.n
    → later ≡ with_entry earlier (Post (Replica p) x) → IsPlanned script earlier.shape earlier.actor earlier.log t p x
    → PostsDrafts script t p first earlier → GoesOn later first × PostsDrafts script t (p + 1) first later
post_step script t p first earlier later x goes less e planned was = (
  goes_further later earlier first (goes_entry later earlier (Post (Replica p) x) e) goes,
  subst (λ k. PostsDrafts script t k first later) (one_more p)
      (posts_on script t p first earlier later x (subst (λ (s : Shape). p < s.n) (sym goes.shape) less) e planned was),
)

pub take_step : (t p : ℕ) (first earlier later : Pass) (x : Envelope) → GoesOn earlier first → later ≡ with_entry earlier (Take (Replica p) x)
    → TakesFromAll t p first earlier → GoesOn later first × TakesFromAll t (p + 1) first later
take_step t p first earlier later x goes e was = (
  goes_further later earlier first (goes_entry later earlier (Take (Replica p) x) e) goes,
  subst (λ k. TakesFromAll t k first later) (one_more p) (takes_on t p first earlier later x e was),
)

pub round_step : (script : Script) (t : ℕ) (first earlier later : Pass) → GoesOn earlier first → GoesOn later earlier
    → FollowsScript script first earlier (count_at t 0) (count_at t 0) → MakesRound script t earlier later
    → GoesOn later first × FollowsScript script first later (count_at (t + 1) 0) (count_at (t + 1) 0)
round_step script t first earlier later goes more was made = (
  goes_further later earlier first more goes,
  subst (λ k. FollowsScript script first later (count_at k 0) (count_at k 0)) (one_more t) (made first was),
)

-- ---- what the script says about one post

pub scripted_planned : (script : Script) (round to : ℕ) (old new : Pass) → IsScripted script round old new to true
    → (x : Envelope) × (new ≡ with_entry old (Post (Replica to) x)) × IsPlanned script old.shape old.actor old.log round to x
scripted_planned script round to old new is = (is.0, is.2, inl (is.1, is.3))

pub empty_planned : (script : Script) (round to : ℕ) (old between new : Pass) → IsScripted script round old between to false
    → new ≡ with_entry between (Post (Replica to) Empty)
    → (x : Envelope) × (new ≡ with_entry old (Post (Replica to) x)) × IsPlanned script old.shape old.actor old.log round to x
empty_planned script round to old between new is e =
    (Empty, e ∙ ap (λ (s : Pass). with_entry s (Post (Replica to) Empty)) is.0, inr (refl, is.1))

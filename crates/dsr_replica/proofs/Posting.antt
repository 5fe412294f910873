-- The posts of a loyal replica: all posts of a round are equal, and each is its round's envelope by the log.
use Rattle.std.proofs.Common.{◌≡◌, ℕ, zero, suc, ◌<◌, ◌≤◌, ◌==◌, nat_lt, Bool, true, false, List, [], ◌∷◌, ◌++◌, length, Option, None, Some, if◌then◌else◌, ◌⊎◌, inl, inr, refl, ap, sym, ◌∙◌, subst, arith}
use Rattle.std.specs.Prelude.{slice_get}
use Rattle.std.specs.Option.{option_map}
use Rattle.std.proofs.lemmas.Bool.Decides.{Decides-eqb, nat_tests}
use Rattle.std.proofs.lemmas.Option.{none-some, same_Some, slice_get_within}
use Rattle.dsr_names.specs.Shape.{Shape}
use Rattle.dsr_names.specs.declared.actor.Actor.{Actor}
use Rattle.dsr_names.specs.declared.actor.Actor.TheVariants.{Replica, Client}
use Rattle.dsr_envelope.specs.declared.envelope.Envelope.{Envelope}
use Rattle.dsr_envelope.specs.declared.entry.Entry.{Entry}
use Rattle.dsr_envelope.specs.declared.entry.Entry.TheVariants.{Post, Take}
use Rattle.dsr_envelope.specs.declared.due.Due.{Due}
use Rattle.dsr_envelope.specs.declared.due.Due.TheVariants.{Post as PostTo, Take as TakeFrom}
use Rattle.dsr_envelope.specs.declared.pick.Pick.{Pick}
use Rattle.dsr_envelope.specs.declared.pick.Pick.TheVariants.{Plain, From, Begin}
use Rattle.dsr_replica.specs.Conduct.{proposed, envelope_with, chosen, is_due, envelope_to, IsLoyalLog}
use Rattle.dsr_replica.specs.Counts.{posts_at}
use Rattle.dsr_envelope.specs.Envelope.{round_envelope}
use Rattle.dsr_envelope.specs.Log.{posted_to, due, rounds}
use Rattle.dsr_envelope.specs.Pick.{IsPick}
use Rattle.dsr_replica.specs.Posts.{IsOfRound}
use Rattle.dsr_replica.proofs.Asks.{proposed_may, may_later}
use Rattle.dsr_replica.proofs.Counting.{post_due, counts, all_taken}
use Rattle.dsr_replica.proofs.Growing.{chains_same}
use Rattle.dsr_replica.proofs.Joining.{get_if, get_more}

-- what a choice gives if a post is due
chosen_is : (b : Bool) (o : Option Envelope) (x : Envelope) → (if b then o else None) ≡ Some x → o ≡ Some x
chosen_is true o x e = e
chosen_is false o x e = absurd (none-some x e)

pub chosen_then : (shape : Shape) (me : Actor) (log : List Entry) (q : ℕ) (pick : Pick) (envelope : Envelope)
    → envelope_to shape me log q pick ≡ Some envelope → chosen shape me log q pick ≡ Some envelope
chosen_then shape me log q pick envelope e = chosen_is (is_due (due shape log) q) (chosen shape me log q pick) envelope e

-- a later post of the round is the one to replica 0
later_post : (shape : Shape) (me : Actor) (log : List Entry) (q : ℕ) (pick : Pick) (envelope : Envelope)
    → chosen shape me log (suc q) pick ≡ Some envelope → slice_get (posted_to (Replica 0) log) (rounds shape log) ≡ Some envelope
later_post shape me log q Plain envelope e = e
later_post shape me log q (From clients) envelope e = absurd (none-some envelope e)
later_post shape me log q (Begin op) envelope e = absurd (none-some envelope e)

-- an item of a list that grew by an item or did not: it is at its earlier place, or at the end
more_if : {A : Type 0} {P : Type 0} (b : Bool) → (b ≡ true → P) → (xs : List A) (y : A) (place : ℕ) (x : A)
    → slice_get (if b then xs ++ y ∷ [] else xs) place ≡ Some x
    → (slice_get xs place ≡ Some x) ⊎ (P × (place ≡ length xs) × (y ≡ x))
more_if true holds xs y place x e = elim (get_more xs y place x e) [ inl old ↦ inl old | inr new ↦ inr (holds refl, new.0, new.1) ]
more_if false holds xs y place x e = inl e

module _ (shape : Shape) (me : Actor) (some : 0 < shape.n) where
  -- the number of posts to a replica to which one is due: one for each closed round
  none_yet : (log : List Entry) → IsLoyalLog shape me log → (q : ℕ) → due shape log ≡ PostTo q → q < shape.n
      → length (posted_to (Replica q) log) ≡ rounds shape log
  none_yet log loyal q is inside =
      (counts shape me some log loyal).posts q inside ∙ (ap (λ d. posts_at d (rounds shape log) q) is ∙ not_below q (rounds shape log))
    where
      not_below : (q t : ℕ) → (if nat_lt q q then suc t else t) ≡ t
      not_below q t = grind (arith, nat_tests)

  -- ---- equal posts

  pub equal_posts : (log : List Entry) → IsLoyalLog shape me log → (q : ℕ) → q < shape.n → (j : ℕ) (envelope : Envelope)
      → slice_get (posted_to (Replica q) log) j ≡ Some envelope → slice_get (posted_to (Replica 0) log) j ≡ Some envelope
  equal_posts log loyal zero inside j envelope e = e
  equal_posts [] loyal (suc q) inside j envelope e = absurd (none-some envelope e)
  equal_posts (Take from x ∷ older) loyal (suc q) inside j envelope e = equal_posts older loyal.0 (suc q) inside j envelope e
  equal_posts (Post (Client c) x ∷ older) loyal (suc q) inside j envelope e = equal_posts older loyal.0 (suc q) inside j envelope e
  equal_posts (Post (Replica r) x ∷ older) loyal (suc q) inside j envelope e =
      get_if (r == 0) (posted_to (Replica 0) older) x j envelope
      (elim (more_if (r == suc q) ((Decides-eqb r (suc q)).0) (posted_to (Replica (suc q)) older) x j envelope e) [
        | inl old ↦ equal_posts older loyal.0 (suc q) inside j envelope old
        | inr new ↦
            let next = loyal.1 in
            let is : due shape older ≡ PostTo (suc q) = post_due shape me older r next.0 x next.2 ∙ ap PostTo new.0 in
            let at : j ≡ rounds shape older = new.1 ∙ none_yet older loyal.0 (suc q) is inside in
            let same : chosen shape me older (suc q) next.0 ≡ Some envelope =
            subst (λ z. chosen shape me older z next.0 ≡ Some envelope) new.0 (chosen_then shape me older r next.0 x next.2 ∙ ap Some new.2) in
            ap (slice_get (posted_to (Replica 0) older)) at ∙ later_post shape me older q next.0 envelope same
      ])

  -- ---- lawful posts

  of_round_later : (entry : Entry) (log : List Entry) → IsLoyalLog shape me log → (j : ℕ) → j ≤ rounds shape log → (envelope : Envelope)
      → IsOfRound shape me log j envelope → IsOfRound shape me (entry ∷ log) j envelope
  of_round_later entry log loyal j within envelope h = record {
    value = h.value;
    may = may_later shape entry log h.value h.may;
    is = h.is ∙ ap (round_envelope j) (sym (chains_same shape entry log (rounds shape log) me j h.value (all_taken shape me some log loyal) within));
  }

  -- no post to replica 0 is of a round after the one in progress
  within_rounds : (log : List Entry) → IsLoyalLog shape me log → (j : ℕ) (envelope : Envelope)
      → slice_get (posted_to (Replica 0) log) j ≡ Some envelope → j ≤ rounds shape log
  within_rounds log loyal j envelope e =
      let inside = slice_get_within (posted_to (Replica 0) log) j envelope e in
      let count = (counts shape me some log loyal).posts 0 some in
      let most = at_most (due shape log) (rounds shape log) 0 in
      omega (arith, inside, count, most)
    where
      at_most : (d : Due) (t q : ℕ) → posts_at d t q ≤ suc t
      at_most (PostTo k) t q = grind (arith, nat_tests)
      at_most (TakeFrom k) t q = omega arith

  map_parts : {A B : Type 0} (f : A → B) (o : Option A) (y : B) → option_map f o ≡ Some y → (x : A) × (o ≡ Some x) × (f x ≡ y)
  map_parts f None y e = absurd (none-some y e)
  map_parts f (Some x) y e = (x, refl, same_Some (f x) y e)

  first_post : (log : List Entry) (pick : Pick) (envelope : Envelope) → IsPick pick → chosen shape me log 0 pick ≡ Some envelope
      → IsOfRound shape me log (rounds shape log) envelope
  first_post log pick envelope good e =
      let parts = map_parts (envelope_with shape me log) (proposed shape me log pick) envelope e in
      record { value = parts.0; may = proposed_may shape me log pick parts.0 good parts.1; is = sym parts.2 }

  pub lawful_posts : (log : List Entry) → IsLoyalLog shape me log → (j : ℕ) (envelope : Envelope)
      → slice_get (posted_to (Replica 0) log) j ≡ Some envelope → IsOfRound shape me log j envelope
  lawful_posts [] loyal j envelope e = absurd (none-some envelope e)
  lawful_posts (Take from x ∷ older) loyal j envelope e =
      of_round_later (Take from x) older loyal.0 j (within_rounds older loyal.0 j envelope e) envelope (lawful_posts older loyal.0 j envelope e)
  lawful_posts (Post (Client c) x ∷ older) loyal j envelope e =
      of_round_later (Post (Client c) x) older loyal.0 j (within_rounds older loyal.0 j envelope e) envelope (lawful_posts older loyal.0 j envelope e)
  lawful_posts (Post (Replica r) x ∷ older) loyal j envelope e =
      elim (more_if (r == 0) ((Decides-eqb r 0).0) (posted_to (Replica 0) older) x j envelope e) [
        | inl old ↦
            of_round_later (Post (Replica r) x) older loyal.0 j (within_rounds older loyal.0 j envelope old) envelope
            (lawful_posts older loyal.0 j envelope old)
        | inr new ↦
            let next = loyal.1 in
            let is : due shape older ≡ PostTo 0 = post_due shape me older r next.0 x next.2 ∙ ap PostTo new.0 in
            let at : j ≡ rounds shape older = new.1 ∙ none_yet older loyal.0 0 is some in
            let same : chosen shape me older 0 next.0 ≡ Some envelope =
            subst (λ z. chosen shape me older z next.0 ≡ Some envelope) new.0 (chosen_then shape me older r next.0 x next.2 ∙ ap Some new.2) in
            of_round_later (Post (Replica r) x) older loyal.0 j (omega (arith, at)) envelope
            (subst (λ z. IsOfRound shape me older z envelope) (sym at) (first_post older next.0 envelope next.1 same))
      ]

  -- what a choice gives next is the envelope of the round in progress
  pub next_of_round : (log : List Entry) → IsLoyalLog shape me log → (q : ℕ) (pick : Pick) (envelope : Envelope) → IsPick pick
      → envelope_to shape me log q pick ≡ Some envelope → IsOfRound shape me log (rounds shape log) envelope
  next_of_round log loyal zero pick envelope good e = first_post log pick envelope good (chosen_then shape me log 0 pick envelope e)
  next_of_round log loyal (suc q) pick envelope good e =
      lawful_posts log loyal (rounds shape log) envelope (later_post shape me log q pick envelope (chosen_then shape me log (suc q) pick envelope e))

-- The letters that a world keeps: of each loyal actor what it last posted to replica 0. A replica posts that to the others of the round
-- too, and a client while its request is outstanding.
use Rattle.std.proofs.Common.{◌≡◌, ℕ, zero, suc, ◌+◌, ◌<◌, true, false, List, [], ◌∷◌, ◌++◌, length, Option, None, Some, inl, inr, refl, ap, sym, ◌∙◌, arith}
use Rattle.std.specs.Option.{is_none, option_map}
use Rattle.std.specs.Prelude.{slice_get, slice_index_or, slice_set}
use Rattle.std.proofs.lemmas.Bool.Decides.{Decides-eqb, nat_tests}
use Rattle.std.proofs.lemmas.List.{get_or-set_same, get_or-set_other, length-set, length_push}
use Rattle.std.proofs.lemmas.Option.{none-some, same_Some}
use Rattle.dsr_base.specs.Member.{In, here}
use Rattle.dsr_base.proofs.MemberLemmas.{In-append_right}
use Rattle.dsr_names.specs.Places.{place_of}
use Rattle.dsr_names.specs.Shape.{Shape, is_traitor, IsActor, IsLoyal}
use Rattle.dsr_names.specs.declared.actor.Actor.{Actor}
use Rattle.dsr_names.specs.declared.actor.Actor.TheVariants.{Replica, Client}
use Rattle.dsr_names.proofs.PlaceLemmas.{place_below, same_place}
use Rattle.dsr_chain.specs.declared.signed_request.SignedRequest.{SignedRequest}
use Rattle.dsr_envelope.specs.declared.envelope.Envelope.{Envelope}
use Rattle.dsr_envelope.specs.declared.envelope.Envelope.TheVariants.{Ask}
use Rattle.dsr_envelope.specs.declared.entry.Entry.{Entry}
use Rattle.dsr_envelope.specs.declared.entry.Entry.TheVariants.{Post, Take}
use Rattle.dsr_envelope.specs.declared.pick.Pick.TheVariants.{Plain}
use Rattle.dsr_envelope.specs.Log.{posted_to, rounds}
use Rattle.dsr_replica.proofs.Lemmas.{counts, post_due}
use Rattle.dsr_client.specs.Conduct.{next_number, chosen_beside, ask_to}
use Rattle.dsr_client.specs.State.{outstanding}
use Rattle.dsr_client.proofs.Lemmas.{numbered, was_posted}
use Rattle.dsr_node.specs.Conduct.{post_of}
use Rattle.dsr_node.specs.Node.{IsOutstandingAsk}
use Rattle.dsr_run.specs.Run.{IsRun}
use Rattle.dsr_run.specs.Step.{Step, log_of}
use Rattle.dsr_run.proofs.Lemmas.{log_cases, log_loyal, log_client, posted_entry}
use Rattle.dsr_world.specs.Support.StageFields.{AreLetters, kept_of, with_letter}
use Rattle.dsr_world.proofs.Stepping.{last_of}
use Rattle.dsr_world.proofs.Worlds.{IsCleared}

-- no letter is kept at first
pub no_letters_kept : (shape : Shape) (letters : List (Option Envelope)) → length letters ≡ shape.n + shape.m
    → ((place : ℕ) → slice_index_or letters place None ≡ None) → AreLetters shape (log_of []) letters
no_letters_kept shape letters count none = record {
  count = count;
  last = λ who loyal x kept. absurd (none-some x (sym (none (place_of shape who)) ∙ kept));
}

loyal_is : (shape : Shape) (who : Actor) → IsLoyal shape who → IsActor shape who
loyal_is shape (Replica p) loyal = loyal.0
loyal_is shape (Client c) loyal = loyal

-- what is last in a list
last_at : (posts older : List Envelope) (x : Envelope) (t : ℕ) → posts ≡ older ++ x ∷ [] → length posts ≡ suc t → slice_get posts t ≡ Some x
last_at posts older x t is long =
    let same = ap length is ∙ length_push older x in
    let count : t ≡ length older = omega arith in
    rw (count, is, last_of older x)

some_of : (o : Option Envelope) → is_none o ≡ false → (y : Envelope) × (o ≡ Some y)
some_of None e = absurd cc
some_of (Some y) e = (y, refl)

module _ (shape : Shape) (run : List Step) (letters : List (Option Envelope)) (are : AreLetters shape (log_of run) letters) where
  -- a step leaves them right if it is not a loyal actor's post to replica 0
  letters_left : (step : Step) → (IsLoyal shape step.0 → (log : List Entry) → posted_to (Replica 0) (step.1 ∷ log) ≡ posted_to (Replica 0) log)
      → AreLetters shape (log_of (step ∷ run)) letters
  letters_left step leaves = record {
    count = are.count;
    last = λ who loyal x kept.
        let before = are.last who loyal x kept in
        elim (log_cases step run who) [
          | inl own ↦ (before.0, ap (posted_to (Replica 0)) own.1 ∙ (leaves (rw own.0 loyal) (log_of run who) ∙ before.1))
          | inr other ↦ (before.0, ap (posted_to (Replica 0)) other.1 ∙ before.1)
        ];
  }

  -- so does each take, each seen front that a client posts to another, and each step of a traitor
  pub letters_taken : (a from : Actor) (x : Envelope) → AreLetters shape (log_of ((a, Take from x) ∷ run)) letters
  letters_taken a from x = letters_left (a, Take from x) (λ loyal log. refl)

  pub letters_told : (c d : ℕ) (x : Envelope) → AreLetters shape (log_of ((Client c, Post (Client d) x) ∷ run)) letters
  letters_told c d x = letters_left (Client c, Post (Client d) x) (λ loyal log. refl)

  pub letters_of_traitor : (p : ℕ) (entry : Entry) → is_traitor shape p ≡ true → AreLetters shape (log_of ((Replica p, entry) ∷ run)) letters
  letters_of_traitor p entry traitor = letters_left (Replica p, entry) (λ loyal log. cc)

  -- a post to replica 0 is kept
  letters_first : (from : Actor) (x : Envelope) → IsActor shape from
      → AreLetters shape (log_of ((from, Post (Replica 0) x) ∷ run)) (slice_set letters (place_of shape from) (Some x))
  letters_first from x actor =
      let below = place_below shape from actor in
      let long : place_of shape from < length letters = omega arith in
      record {
        count = length-set letters (place_of shape from) (Some x) ∙ are.count;
        last = λ who loyal y kept. elim (log_cases (from, Post (Replica 0) x) run who) [
          | inl own ↦
              let same = same_Some x y (rw (← own.0, get_or-set_same letters (place_of shape from) (Some x) None long) at kept) in
              (posted_to (Replica 0) (log_of run who), ap (posted_to (Replica 0)) own.1 ∙ ap (λ z. posted_to (Replica 0) (log_of run who) ++ z ∷ []) same)
          | inr other ↦
              let elsewhere = λ (e : place_of shape who ≡ place_of shape from). other.0 (same_place shape from who actor (loyal_is shape who loyal) (sym e)) in
              let before = are.last who loyal y
              (rw (get_or-set_other letters (place_of shape from) (place_of shape who) (Some x) None elsewhere) at kept) in
              (before.0, ap (posted_to (Replica 0)) other.1 ∙ before.1)
        ];
      }

  pub letters_posted : (from to : Actor) (x : Envelope) → IsActor shape from
      → AreLetters shape (log_of ((from, Post to x) ∷ run)) (with_letter (place_of shape from) (kept_of to x) letters)
  letters_posted from (Replica zero) x actor = letters_first from x actor
  letters_posted from (Replica (suc q)) x actor = letters_left (from, Post (Replica (suc q)) x) (λ loyal log. grind (arith, nat_tests))
  letters_posted from (Client c) x actor = letters_left (from, Post (Client c) x) (λ loyal log. refl)

  -- if a letter is stored for a loyal replica, it is what the replica posts to another than replica 0 by the plain choice
  pub again_posted : IsRun shape run → (p t : ℕ) → 0 < t → IsCleared shape (log_of run) (Replica p) (Replica t) Plain
      → (x : Envelope) → slice_index_or letters p None ≡ Some x → post_of shape (log_of run (Replica p)) (Replica p) (Replica t) Plain ≡ Some x
  again_posted is p zero later cleared x kept = absurd (omega arith)
  again_posted is p (suc q) later cleared x kept =
      let log = log_of run (Replica p) in
      let given = some_of (post_of shape log (Replica p) (Replica (suc q)) Plain) cleared.given in
      let next = post_due shape (Replica p) log (suc q) Plain given.0 given.1 in
      let before = are.last (Replica p) (cleared.actor, cleared.honest) x kept in
      let some : 0 < shape.n = omega arith in
      let counted = rw next at ((counts shape (Replica p) some log (log_loyal shape p cleared.honest run is)).posts 0 some) in
      let last = last_at (posted_to (Replica 0) log) before.0 x (rounds shape log) before.1 (grind (arith, nat_tests)) in
      rw (next, (Decides-eqb (suc q) (suc q)).1 refl) last

  -- what a client asks by the plain choice is the letter that is kept, if that is an ask of the number that is outstanding: an ask of
  -- that number was posted, and two that were posted are the same
  pub asked_again : IsRun shape run → (c : ℕ) → c < shape.m → (x : Envelope) → slice_index_or letters (place_of shape (Client c)) None ≡ Some x
      → IsOutstandingAsk shape (log_of run (Client c)) x → ask_to shape c (log_of run (Client c)) Plain ≡ Some x
  asked_again is c inside x kept (ask, same, number) = by_current (outstanding shape log) refl number ∙ ap Some (sym same)
    where
      log : List Entry
      log = log_of run (Client c)

      posted : In (Post (Replica 0) (Ask ask)) log
      posted =
          let before = are.last (Client c) inside x kept in
          rw (← same) (posted_entry (Replica 0) log x (rw before.1 (In-append_right x before.0 (x ∷ []) (here refl))))

      by_current : (o : Option SignedRequest) → outstanding shape log ≡ o → option_map (λ current. current.request.number) o ≡ Some ask.request.number
          → option_map Ask (chosen_beside o c (next_number shape log) Plain) ≡ Some (Ask ask)
      by_current None current e = absurd cc
      by_current (Some other) current e =
          let asked = was_posted shape log other current in
          let once = (numbered shape c log (log_client shape c run is)).once in
          ap (λ a. Some (Ask a)) (once asked.replica 0 other ask asked.posted posted (same_Some other.request.number ask.request.number e))

-- Which letter an event that was done posted or took.
use Rattle.std.proofs.Common.{◌≡◌, ◌++◌, ◌∷◌, ◌∙◌, List, [], Bool, true, false, Option, None, Some, ap, refl, subst, sym, length}
use Rattle.std.specs.Prelude.{◌&&◌, not, slice_get, if◌then◌else◌}
use Rattle.std.specs.Option.{option_map}
use Rattle.std.proofs.lemmas.Bool.{false≢true}
use Rattle.std.proofs.lemmas.Option.{none-some, same_Some}
use Rattle.dsr_names.specs.Shape.{Shape}
use Rattle.dsr_names.specs.declared.actor.Actor.{Actor}
use Rattle.dsr_names.specs.declared.actor.Actor.TheVariants.{Replica, Client}
use Rattle.dsr_names.specs.declared.refusal.Refusal.{Refusal}
use Rattle.dsr_names.specs.declared.refusal.Refusal.TheVariants.{NoActor}
use Rattle.dsr_names.specs.Support.ActorEquality.{actor_eq-Decides}
use Rattle.dsr_envelope.specs.declared.envelope.Envelope.TheVariants.{Seen}
use Rattle.dsr_envelope.specs.declared.entry.Entry.{Entry}
use Rattle.dsr_envelope.specs.Log.{posted_to, taken_from}
use Rattle.dsr_run.specs.History.{seen_by}
use Rattle.dsr_run.proofs.Lemmas.{taken_still}
use Rattle.dsr_envelope.specs.declared.envelope.Envelope.{Envelope}
use Rattle.dsr_envelope.specs.declared.entry.Entry.TheVariants.{Post as PostEntry, Take as TakeEntry}
use Rattle.dsr_node.specs.Conduct.{is_actor, post_of}
use Rattle.dsr_play.specs.declared.event.Event.{Event}
use Rattle.dsr_play.specs.declared.event.Event.TheVariants.{Post, Plant, Take, Tell}
use Rattle.dsr_ledger.specs.declared.reply.Reply.{Reply as AReply}
use Rattle.dsr_run.specs.Run.{IsRun, envelope_of}
use Rattle.dsr_run.specs.Step.{Step, log_of}
use Rattle.dsr_world.specs.Event.{HasDone, MayBeDone, first_of, in_box, refusal_of, refusals, step_of}
use Rattle.dsr_world.specs.Stage.{last_taken}
use Rattle.dsr_explain.specs.Letters.{handled}
use Rattle.dsr_explain.specs.Told.{last_envelope}

-- ---- a posted letter

-- the last item of a list
last_of : (xs : List Envelope) (x : Envelope) → slice_get (xs ++ x ∷ []) (length xs) ≡ Some x
last_of [] x = refl
last_of (y ∷ xs) x = last_of xs x

-- its actor's log gets an entry
own_log : (actor : Actor) (entry : Entry) (older : List Step) → log_of ((actor, entry) ∷ older) actor ≡ entry ∷ log_of older actor
own_log actor entry older = ap (λ b. if b then entry ∷ log_of older actor else log_of older actor) ((actor_eq-Decides actor actor).1 refl)

-- what an actor posts goes to the end of what it posted there
own_posts : (to : Actor) (x : Envelope) (log : List Entry) → posted_to to (PostEntry to x ∷ log) ≡ posted_to to log ++ x ∷ []
own_posts to x log = ap (λ b. if b then posted_to to log ++ x ∷ [] else posted_to to log) ((actor_eq-Decides to to).1 refl)

module _ (shape : Shape) where
  -- what was posted last is in its box
  lies : (older : List Step) (from to : Actor) (x : Envelope) → IsRun shape ((from, PostEntry to x) ∷ older)
      → in_box (log_of ((from, PostEntry to x) ∷ older)) from to ≡ Some x
  lies older from to x is =
      let posted = posted_to to (log_of older from) in
      let all = ap (posted_to to) (own_log from (PostEntry to x) older) ∙ own_posts to x (log_of older from) in
      let taken = ap length (taken_still from to x older from to ∙ sym is.1.box) in
      subst (λ xs. slice_get xs (length (taken_from from (log_of ((from, PostEntry to x) ∷ older) to))) ≡ Some x) (sym all)
      (subst (λ n. slice_get (posted ++ x ∷ []) n ≡ Some x) (sym taken) (last_of posted x))

  -- ---- the letter of an event

  -- the first test of the refusals passed
  first_clear : (b : Bool) (refusal : Refusal) (rest : List (Bool × Refusal)) → first_of ((not b, refusal) ∷ rest) ≡ None → b ≡ true
  first_clear true refusal rest e = refl
  first_clear false refusal rest e = absurd (none-some refusal (sym e))

  -- the tests after the first
  abbrev later : List (Bool × Refusal) → List (Bool × Refusal)
  later [] = []
  later (row ∷ rest) = rest

  -- the box of two actors of the shape
  opened : (b : Bool) (o : Option Envelope) → b ≡ true → (if b then o else None) ≡ o
  opened true o e = refl
  opened false o e = absurd (false≢true e)

  -- what makes an option some step is some envelope
  mapped : (o : Option Envelope) (f : Envelope → Step) (step : Step) → option_map f o ≡ Some step → (x : Envelope) × (o ≡ Some x) × (step ≡ f x)
  mapped None f step e = absurd (none-some step e)
  mapped (Some x) f step e = (x, refl, sym (same_Some (f x) step e))

  module _ (earlier : List Step) where
    -- the event is a post of this envelope
    of_post : (from to : Actor) (x : Envelope) (step : Step) (both : Bool) → step ≡ (from, PostEntry to x) → both ≡ true → IsRun shape (step ∷ earlier)
        → (if both then in_box (log_of (step ∷ earlier)) from to else None) ≡ Some (envelope_of step.1)
    of_post from to x step both e inside is =
        opened both (in_box (log_of (step ∷ earlier)) from to) inside
        ∙ subst (λ s. in_box (log_of (s ∷ earlier)) from to ≡ Some (envelope_of s.1)) (sym e)
        (lies earlier from to x (subst (λ s. IsRun shape (s ∷ earlier)) e is))

    by_event : (event : Event) (step : Step) → step_of shape (log_of earlier) event ≡ Some step → IsRun shape (step ∷ earlier)
        → refusal_of shape (log_of earlier) event ≡ None
        → handled shape (step ∷ earlier) event ≡ Some (envelope_of step.1)
    by_event (Post from to pick) step e is clear =
        let found = mapped (post_of shape (log_of earlier from) from to pick) (λ x. (from, PostEntry to x)) step e in
        let both = is_actor shape from && is_actor shape to in
        of_post from to found.0 step both found.2 (first_clear both NoActor (later (refusals shape (log_of earlier) (Post from to pick))) clear) is
    by_event (Plant from to draft) step e is clear =
        let both = is_actor shape from && is_actor shape to in
        of_post from to draft step both (sym (same_Some (from, PostEntry to draft) step e)) (first_clear both NoActor (later (refusals shape (log_of earlier) (Plant from to draft))) clear) is
    by_event (Take at from) step e is clear =
        let found = mapped (in_box (log_of earlier) from at) (λ x. (at, TakeEntry from x)) step e in
        subst (λ (s : Step). last_taken (s ∷ earlier) ≡ Some (envelope_of s.1)) (sym found.2) refl
    by_event (Tell (Client c) to) step e is clear =
        let both = is_actor shape (Client c) && is_actor shape to in
        of_post (Client c) to (Seen (seen_by shape (log_of earlier) c)) step both (sym (same_Some (Client c, PostEntry to (Seen (seen_by shape (log_of earlier) c))) step e))
        (first_clear both NoActor (later (refusals shape (log_of earlier) (Tell (Client c) to))) clear) is
    by_event (Tell (Replica p) to) step e is clear = absurd (none-some step e)

  -- an event that nothing refused posted or took the envelope of the last step
  pub letter_is : (later earlier : List Step) (event : Event) (reply : Option AReply) → IsRun shape later → MayBeDone shape (log_of earlier) event
      → HasDone shape later earlier event reply → handled shape later event ≡ last_envelope later
  letter_is later earlier event reply is may done =
      subst (λ run. handled shape run event ≡ last_envelope run) (sym done.went_on)
      (by_event earlier event done.step done.is_event (subst (IsRun shape) done.went_on is) may.0)

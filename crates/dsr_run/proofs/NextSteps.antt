-- A step that its actor's own log and the box that it uses allow may be next in a run.
use Rattle.std.proofs.Common.{◌≡◌, ℕ, ◌<◌, ◌^◌, Bool, true, false, List, [], ◌∷◌, ◌++◌, Option, None, Some, length, inl, inr, refl, sym, ◌∙◌, subst, arith}
use Rattle.std.specs.Option.{option_map}
use Rattle.std.proofs.lemmas.Bool.{true≢false}
use Rattle.std.proofs.lemmas.Option.{none-some, same_Some}
use Rattle.dsr_base.specs.Member.{In, here, there}
use Rattle.dsr_base.proofs.MemberLemmas.{In-append_right}
use Rattle.dsr_names.specs.Shape.{Shape, is_traitor, IsActor, IsAllowed}
use Rattle.dsr_names.specs.declared.actor.Actor.{Actor}
use Rattle.dsr_names.specs.declared.actor.Actor.TheVariants.{Replica, Client}
use Rattle.dsr_chain.specs.declared.signed_request.SignedRequest.{SignedRequest}
use Rattle.dsr_desk.specs.Signature.{Signature}
use Rattle.dsr_envelope.specs.declared.envelope.Envelope.{Envelope}
use Rattle.dsr_envelope.specs.declared.envelope.Envelope.TheVariants.{Ask, Seen}
use Rattle.dsr_envelope.specs.declared.entry.Entry.TheVariants.{Post, Take}
use Rattle.dsr_envelope.specs.declared.pick.Pick.{Pick}
use Rattle.dsr_envelope.specs.declared.pick.Pick.TheVariants.{Plain, From, Begin}
use Rattle.dsr_envelope.specs.Envelope.{Carries}
use Rattle.dsr_envelope.specs.Limits.{IsEnvelope}
use Rattle.dsr_envelope.specs.Log.{posted_to, taken_from}
use Rattle.dsr_replica.specs.Conduct.{IsNext}
use Rattle.dsr_client.specs.Conduct.{next_number, chosen_beside}
use Rattle.dsr_client.specs.State.{outstanding, seen}
use Rattle.dsr_run.specs.OwnStep.{KeepsOwn, FitsWhereFree, ForgesNone, MayPost, HasPostsLeft}
use Rattle.dsr_run.specs.Run.{KeepsRounds, KeepsConduct, IsMadeOrPosted, IsTraitor, IsNextStep, IsRun, AreLogs}
use Rattle.dsr_run.specs.Step.{Step, Logs, log_of}
use Rattle.dsr_run.proofs.Asking.{outstanding_within}
use Rattle.dsr_run.proofs.Boxes.{posted_entry, actors_within}
use Rattle.dsr_run.proofs.Forging.{taken_made}
use Rattle.dsr_run.proofs.Issuing.{fronts}
use Rattle.dsr_run.proofs.Within.{posted_within, loyal_next_within, history_within}

module _ (shape : Shape) (allowed : IsAllowed shape) (older : List Step) (is : IsRun shape older) where
  -- ---- what is posted is within the limits

  -- what a client asks is within the limits, if a new request is
  ask_within : (c : ℕ) (o : Option SignedRequest) → outstanding shape (log_of older (Client c)) ≡ o → (pick : Pick) (x : Envelope)
      → option_map Ask (chosen_beside o c (next_number shape (log_of older (Client c))) pick) ≡ Some x → (o ≡ None → IsEnvelope x) → IsEnvelope x
  ask_within c None o_is pick x e free = free refl
  ask_within c (Some ask) o_is Plain x e free = subst IsEnvelope (same_Some (Ask ask) x e) (outstanding_within shape older is c ask o_is)
  ask_within c (Some ask) o_is (From clients) x e free = absurd (none-some x e)
  ask_within c (Some ask) o_is (Begin op) x e free = absurd (none-some x e)

  -- what a replica posts is within the limits, if what a traitor posts is
  replica_within : (p : ℕ) (to : Actor) (x : Envelope) → p < shape.n → (b : Bool) → is_traitor shape p ≡ b
      → KeepsOwn shape (Replica p) (log_of older (Replica p)) (Post to x) → (is_traitor shape p ≡ true → IsEnvelope x) → IsEnvelope x
  replica_within p to x inside true traitor keeps free = free traitor
  replica_within p to x inside false honest keeps free =
      loyal_next_within shape allowed older is p (inside, honest) to x (keeps honest).0

  front_within : (c : ℕ) → seen shape (log_of older (Client c)) < 2 ^ 40
  front_within c =
      let front = (fronts shape allowed.few_traitors older is).had c in
      let most = history_within shape older is in
      omega (arith, front, most)

  pub post_within : (me to : Actor) (x : Envelope) → IsActor shape me → KeepsOwn shape me (log_of older me) (Post to x)
      → FitsWhereFree shape me (log_of older me) to x → IsEnvelope x
  post_within (Replica p) to x inside keeps free = replica_within p to x inside (is_traitor shape p) refl keeps free
  post_within (Client c) (Replica q) x inside keeps free =
      ask_within c (outstanding shape (log_of older (Client c))) refl keeps.1.0 x keeps.1.1 free
  post_within (Client c) (Client d) x inside keeps free = subst IsEnvelope (sym keeps.2) (front_within c)

  -- ---- steps

  own_conduct : (me to : Actor) (x : Envelope) → KeepsConduct shape (log_of older) me (Post to x) → KeepsOwn shape me (log_of older me) (Post to x)
  own_conduct (Replica p) to x keeps = keeps.0
  own_conduct (Client c) to x keeps = keeps

  -- a post
  pub post_next : (me to : Actor) (x : Envelope) → IsActor shape me → IsActor shape to → KeepsConduct shape (log_of older) me (Post to x)
      → FitsWhereFree shape me (log_of older me) to x → HasPostsLeft (log_of older me) to
      → posted_to to (log_of older me) ≡ taken_from me (log_of older to) → IsNextStep shape (log_of older) (me, Post to x)
  post_next me to x actor other keeps free left empty = record {
    actor = actor;
    other = other;
    box = empty;
    limits = (post_within me to x actor (own_conduct me to x keeps) free, left);
    conduct = keeps;
  }

  -- a take
  pub take_next : (me from : Actor) (x : Envelope) → IsActor shape me → IsActor shape from → KeepsOwn shape me (log_of older me) (Take from x)
      → posted_to me (log_of older from) ≡ taken_from from (log_of older me) ++ x ∷ [] → IsNextStep shape (log_of older) (me, Take from x)
  take_next (Replica p) from x actor other keeps full =
      record { actor = actor; other = other; box = full; limits = tt; conduct = (keeps, λ traitor. tt) }
  take_next (Client c) from x actor other keeps full =
      record { actor = actor; other = other; box = full; limits = tt; conduct = keeps }

  -- a post that an actor may make by its own log keeps the actor's protocol
  pub own_keeps : (me to : Actor) (x : Envelope) → IsActor shape me → MayPost shape me (log_of older me) to x
      → KeepsConduct shape (log_of older) me (Post to x)
  own_keeps (Client c) to x inside may = may.keeps
  own_keeps (Replica p) to x inside may = (
    may.keeps,
    λ traitor s carried. elim (may.forges traitor s carried) [
      | inl own ↦ inl (subst (IsTraitor shape) (sym own) (inside, traitor))
      | inr taken ↦ taken_made shape older is (Replica p) s taken
    ],
  )

-- ---- logs of a run

-- the logs of a run equal those that its steps leave
pub run_logs : (shape : Shape) (logs : Logs) → (are : AreLogs shape logs) → log_of are.run ≡ logs
run_logs shape logs are = λ i a. are.each a i

module _ (shape : Shape) (logs : Logs) (are : AreLogs shape logs) where
  abbrev PostsOn : Actor → Actor → Envelope → Logs → Type 0
  PostsOn me to x l = MayPost shape me (l me) to x → HasPostsLeft (l me) to → posted_to to (l me) ≡ taken_from me (l to) → IsNextStep shape l (me, Post to x)

  pub own_post : IsAllowed shape → (me to : Actor) (x : Envelope) → IsActor shape me → IsActor shape to → MayPost shape me (logs me) to x
      → HasPostsLeft (logs me) to → posted_to to (logs me) ≡ taken_from me (logs to) → IsNextStep shape logs (me, Post to x)
  own_post allowed me to x actor other =
      subst (PostsOn me to x) (run_logs shape logs are)
      (λ may left empty. post_next shape allowed are.run are.is me to x actor other
      (own_keeps shape allowed are.run are.is me to x actor may) may.fits left empty)

  abbrev TakesOn : Actor → Actor → Envelope → Logs → Type 0
  TakesOn me from x l = KeepsOwn shape me (l me) (Take from x) → posted_to me (l from) ≡ taken_from from (l me) ++ x ∷ [] → IsNextStep shape l (me, Take from x)

  pub own_take : IsAllowed shape → (me from : Actor) (x : Envelope) → IsActor shape me → IsActor shape from → KeepsOwn shape me (logs me) (Take from x)
      → posted_to me (logs from) ≡ taken_from from (logs me) ++ x ∷ [] → IsNextStep shape logs (me, Take from x)
  own_take allowed me from x actor other =
      subst (TakesOn me from x) (run_logs shape logs are)
      (λ keeps full. take_next shape allowed are.run are.is me from x actor other keeps full)

  -- what a box holds is within the limits
  pub held_within : (me from : Actor) (x : Envelope) → posted_to me (logs from) ≡ taken_from from (logs me) ++ x ∷ [] → IsEnvelope x
  held_within me from x full =
      let stands : In x (posted_to me (logs from)) =
      subst (In x) (sym full) (In-append_right x (taken_from from (logs me)) (x ∷ []) (here refl)) in
      posted_within shape are.run are.is from me x
      (subst (In (Post me x)) (sym (are.each from)) (posted_entry me (logs from) x stands))

  -- an actor that is not of the shape has an empty log
  pub outside_empty : (a : Actor) → ¬ IsActor shape a → logs a ≡ []
  outside_empty a outside = by_first (logs a) refl
    where
      by_first : (log : List _) → logs a ≡ log → log ≡ []
      by_first [] e = refl
      by_first (entry ∷ rest) e =
          absurd (outside (actors_within shape are.run are.is a entry (subst (In entry) (sym e ∙ sym (are.each a)) (here refl))).0)

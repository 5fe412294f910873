-- What a step that may be next finds in an audit, and how the audit represents the run with it.
use Rattle.std.proofs.Common.{zero, suc, ◌≡◌, ◌↔◌, ℕ, ◌<◌, Bool, true, false, List, [], ◌∷◌, ◌++◌, Option, None, Some, length, length-append, append-nil, ◌⊎◌, inl, inr, if◌then◌else◌, refl, ap, sym, ◌∙◌, subst, arith}
use Rattle.std.specs.Bool.{OnFalse, OnTrue}
use Rattle.std.specs.Prelude.{Any, IfNone, OnSome, slice_set, slice_index_or}
use Rattle.std.proofs.lemmas.Bool.{true≢false, cases_Bool}
use Rattle.std.proofs.lemmas.List.{append_cancel_left}
use Rattle.std.proofs.lemmas.Option.{none-some, same_Some}
use Rattle.dsr_base.specs.Boxes.{box_at, row_of, with_box, with_item, without_item}
use Rattle.dsr_base.specs.Member.{In, here}
use Rattle.dsr_base.specs.declared.boxes.MailBox.{MailBox}
use Rattle.dsr_base.proofs.MemberLemmas.{In-append_right, In-from_place}
use Rattle.dsr_names.specs.Places.{place_of}
use Rattle.dsr_names.specs.Shape.{Shape, is_traitor, IsActor, IsAllowed, IsLoyal}
use Rattle.dsr_names.specs.declared.actor.Actor.{Actor}
use Rattle.dsr_names.specs.declared.actor.Actor.TheVariants.{Replica, Client}
use Rattle.dsr_names.proofs.PlaceLemmas.{place_below}
use Rattle.dsr_desk.specs.Signature.{Signature}
use Rattle.dsr_envelope.specs.declared.envelope.Envelope.{Envelope}
use Rattle.dsr_envelope.specs.declared.entry.Entry.{Entry}
use Rattle.dsr_envelope.specs.declared.entry.Entry.TheVariants.{Post, Take}
use Rattle.dsr_envelope.specs.Envelope.{Carries}
use Rattle.dsr_envelope.specs.Limits.{IsEnvelope}
use Rattle.dsr_envelope.specs.Log.{due, posted_to, rounds, taken_from}
use Rattle.dsr_envelope.specs.declared.pick.Pick.{Pick}
use Rattle.dsr_envelope.specs.declared.pick.Pick.TheVariants.{Plain, From, Begin}
use Rattle.dsr_replica.specs.Conduct.{chosen, envelope_to, is_due}
use Rattle.dsr_script.specs.Held.{IsUnforged}
use Rattle.dsr_run.specs.Known.{KnowsAll}
use Rattle.dsr_run.specs.OwnStep.{KeepsOwn}
use Rattle.dsr_run.specs.Run.{HasPosted, IsMadeOrPosted, IsNextStep, IsRun, IsTraitor, KeepsConduct}
use Rattle.dsr_run.specs.Step.{Step, Logs, log_of}
use Rattle.dsr_run.proofs.Lemmas.{loyal_next_within, actors_within, all_made, step_made, known_posted, known_still, posted_entry, posted_within}
use Rattle.dsr_check.specs.declared.audit.Audit.{Audit}
use Rattle.dsr_check.specs.Support.Audit.{AreFirsts, AreParts, ForgesNone, IsPosted, Holds, IsBoxOf, IsFirstOf, IsOpen, held_in, is_posted_again}
use Rattle.dsr_check.specs.Support.Party.{CanGet, Plays, PostsWithin}
use Rattle.dsr_check.specs.declared.held.Held.{Held}
use Rattle.dsr_check.specs.declared.party.Party.{Party}
use Rattle.dsr_check.specs.declared.party.Party.TheVariants as party
use Rattle.dsr_check.proofs.Repeating.{firsts_posted, firsts_taken, posts_again}
use Rattle.dsr_check.proofs.Stepping.{played_step, boxes_posted, boxes_taken}

-- ---- boxes

-- a box from which all was taken is empty
empty_where_taken : (o : Option Held) (posted taken : List Envelope) → posted ≡ taken ++ held_in o → posted ≡ taken → o ≡ None
empty_where_taken None posted taken holds same = refl
empty_where_taken (Some h) posted taken holds same =
    let longer = ap length (sym same ∙ holds) in
    absurd (omega (arith, longer, length-append taken (h.envelope ∷ [])))

-- a box from which all but one envelope was taken holds that one
held_where_left : (o : Option Held) (posted taken : List Envelope) (x : Envelope) → posted ≡ taken ++ held_in o → posted ≡ taken ++ x ∷ []
    → (h : Held) × (o ≡ Some h) × (h.envelope ≡ x)
held_where_left None posted taken x holds left =
    let longer = ap length (sym holds ∙ left) in
    absurd (omega (arith, longer, length-append taken (x ∷ []), ap length (append-nil taken)))
held_where_left (Some h) posted taken x holds left =
    let same : h.envelope ∷ [] ≡ x ∷ [] = append_cancel_left taken (h.envelope ∷ []) (x ∷ []) (sym holds ∙ left) in
    (h, refl, cc)

-- ---- roles

loyal_or_traitor : (shape : Shape) (a : Actor) → IsActor shape a → IsLoyal shape a ⊎ IsTraitor shape a
loyal_or_traitor shape (Client c) inside = inl inside
loyal_or_traitor shape (Replica p) inside = by_role (is_traitor shape p) refl
  where
    by_role : (b : Bool) → is_traitor shape p ≡ b → IsLoyal shape (Replica p) ⊎ IsTraitor shape (Replica p)
    by_role true e = inr (inside, e)
    by_role false e = inl (inside, e)

pub traitor_where_not_loyal : (shape : Shape) (a : Actor) → IsActor shape a → ¬ IsLoyal shape a → IsTraitor shape a
traitor_where_not_loyal shape a inside bad = elim (loyal_or_traitor shape a inside) [ inl good ↦ absurd (bad good) | inr is ↦ is ]

not_both : (shape : Shape) (a : Actor) → IsLoyal shape a → IsTraitor shape a → ⊥
not_both shape (Replica p) loyal traitor = true≢false (sym traitor.1 ∙ loyal.1)
not_both shape (Client c) loyal traitor = elim traitor [ ]

traitor_inside : (shape : Shape) (a : Actor) → IsTraitor shape a → IsActor shape a
traitor_inside shape (Replica p) traitor = traitor.0
traitor_inside shape (Client c) traitor = elim traitor [ ]

-- a loyal actor forges none as far as traitors go
pub loyal_forges_none : (shape : Shape) (logs : Logs) (a : Actor) (x : Envelope) → IsLoyal shape a → ForgesNone shape logs a x
loyal_forges_none shape logs a x loyal traitor = absurd (not_both shape a loyal traitor)

-- ---- the protocol

own_of : (shape : Shape) (logs : Logs) (me : Actor) (entry : Entry) → KeepsConduct shape logs me entry → KeepsOwn shape me (logs me) entry
own_of shape logs (Replica p) entry keeps = keeps.0
own_of shape logs (Client c) entry keeps = keeps

-- a step that may be next keeps its actor's protocol by the actor's own log
pub next_keeps : (shape : Shape) (logs : Logs) (me : Actor) (entry : Entry) → IsNextStep shape logs (me, entry) → KeepsOwn shape me (logs me) entry
next_keeps shape logs me entry next = own_of shape logs me entry next.conduct

post_conduct : (shape : Shape) (logs : Logs) (me to : Actor) (x : Envelope) → IsActor shape me → KeepsOwn shape me (logs me) (Post to x)
    → ForgesNone shape logs me x → KeepsConduct shape logs me (Post to x)
post_conduct shape logs (Replica p) to x inside keeps forges = (keeps, λ bad. forges (inside, bad))
post_conduct shape logs (Client c) to x inside keeps forges = keeps

take_conduct : (shape : Shape) (logs : Logs) (me from : Actor) (x : Envelope) → KeepsOwn shape me (logs me) (Take from x)
    → KeepsConduct shape logs me (Take from x)
take_conduct shape logs (Replica p) from x keeps = (keeps, λ bad. tt)
take_conduct shape logs (Client c) from x keeps = keeps

-- ---- options and truths

pub on_none : {X : Type 0} → (o : Option X) (A B : Type 0) → (A → B) → IfNone o A → IfNone o B
on_none None A B f h = f h
on_none (Some x) A B f h = tt

pub on_some : {X : Type 0} → (o : Option X) (A B : Type 0) → (A → B) → OnSome o A → OnSome o B
on_some None A B f h = tt
on_some (Some x) A B f h = f h

pub on_true : (b : Bool) (A B : Type 0) → (A → B) → OnTrue b A → OnTrue b B
on_true true A B f h = f h
on_true false A B f h = tt

pub where_true : (b : Bool) (A : Type 0) → b ≡ true → OnTrue b A → A
where_true true A e h = h
where_true false A e h = absurd (true≢false (sym e))

pub where_false : (b : Bool) (A : Type 0) → b ≡ false → OnFalse b A → A
where_false true A e h = absurd (true≢false e)
where_false false A e h = h

pub where_none : {X : Type 0} → (o : Option X) (A : Type 0) → o ≡ None → IfNone o A → A
where_none None A e h = h
where_none (Some x) A e h = absurd (none-some x (sym e))

pub where_some : {X : Type 0} → (o : Option X) (x : X) (A : Type 0) → o ≡ Some x → OnSome o A → A
where_some None x A e h = absurd (none-some x e)
where_some (Some y) x A e h = h

-- ---- an audit

module _ (shape : Shape) (run : List Step) (parties : List Party) (rows : List (List (MailBox Held))) (notary keys : List Actor) (known : List Signature)
    (firsts : List (Option Held)) (are : AreParts shape run parties rows notary keys known firsts) where
  -- the place of an actor is one of the parties', and of the rows' and boxes'
  pub party_at : (a : Actor) → IsActor shape a → place_of shape a < length parties
  party_at a inside = let below = place_below shape a inside in let count = are.played.count in omega (arith, below, count)

  pub row_at : (a : Actor) → IsActor shape a → place_of shape a < length rows
  row_at a inside = let below = place_below shape a inside in let count = are.boxes.square.count in omega (arith, below, count)

  pub box_in_row : (from to : Actor) → IsActor shape from → IsActor shape to → place_of shape to < length (row_of rows (place_of shape from))
  box_in_row from to actor other =
      let count = are.boxes.square.each (place_of shape from) (place_below shape from actor) in
      let below = place_below shape to other in
      omega (arith, count, below)

  -- ---- what a step that may be next finds

  pub next_open : (from to : Actor) (x : Envelope) → IsNextStep shape (log_of run) (from, Post to x)
      → IsOpen (box_at rows (place_of shape from) (place_of shape to))
  next_open from to x next =
      let is = are.boxes.each from to next.actor next.other in
      let box = box_at rows (place_of shape from) (place_of shape to) in (
        empty_where_taken box.item (posted_to to (log_of run from)) (taken_from from (log_of run to)) is.holds next.box,
        let count = is.count in let few = next.limits.1 in omega (arith, count, few),
      )

  pub next_holds : (at from : Actor) (x : Envelope) → IsNextStep shape (log_of run) (at, Take from x)
      → Holds (box_at rows (place_of shape from) (place_of shape at)) x
  next_holds at from x next =
      let is = are.boxes.each from at next.other next.actor in
      let box = box_at rows (place_of shape from) (place_of shape at) in
      let held = held_where_left box.item (posted_to at (log_of run from)) (taken_from from (log_of run at)) x is.holds next.box in
      (held.0, held.1, is.recorded held.0 held.1 ∙ held.2)

  -- who signs what can be sent
  signer_inside : (later : List Step) → IsRun shape later → (s : Signature) → IsMadeOrPosted shape (log_of later) s → IsActor shape s.signer
  signer_inside later is s (inl made) = traitor_inside shape s.signer made
  signer_inside later is s (inr posted) = (actors_within shape later is s.signer (Post posted.to posted.envelope) posted.posted).0

  -- a notary can sign all that is posted
  pub next_notarized : (from to : Actor) (x : Envelope) (known_more : List Signature) → IsNextStep shape (log_of run) (from, Post to x) → IsUnforged notary known_more x
  next_notarized from to x known_more next s carried =
      inl (are.signs s.signer (signer_inside ((from, Post to x) ∷ run) (are.is_run, next) s
      (step_made shape (from, Post to x) run (are.is_run, next) s carried)))

  -- what is held or known can be sent
  pub unforged_made : (p : ℕ) → IsTraitor shape (Replica p) → (x : Envelope) → IsUnforged keys known x → (s : Signature) → Carries x s
      → IsMadeOrPosted shape (log_of run) s
  unforged_made p traitor x unforged s carried = elim (unforged s carried) [
    | inl held ↦ inl ((are.held s.signer).0 held)
    | inr old ↦
        let was = (are.knows p traitor).from s old in
        all_made shape run are.is_run was.0 (Post was.2.to was.2.envelope) was.2.posted s was.2.carried
  ]

  -- and what can be sent is held or known
  made_unforged : (p : ℕ) → IsTraitor shape (Replica p) → (x : Envelope) → ((s : Signature) → Carries x s → IsMadeOrPosted shape (log_of run) s)
      → IsUnforged keys known x
  made_unforged p traitor x made s carried = elim (made s carried) [
    | inl by ↦ inl ((are.held s.signer).1 by)
    | inr posted ↦ elim (loyal_or_traitor shape s.signer (actors_within shape run are.is_run s.signer (Post posted.to posted.envelope) posted.posted).0) [
      | inl loyal ↦ inr ((are.knows p traitor).all s s.signer loyal posted)
      | inr by ↦ inl ((are.held s.signer).1 by)
    ]
  ]

  pub traitor_forges_none : (from : Actor) (x : Envelope) → IsUnforged keys known x → ForgesNone shape (log_of run) from x
  traitor_forges_none (Replica p) x unforged traitor = unforged_made p traitor x unforged
  traitor_forges_none (Client c) x unforged traitor = elim traitor [ ]

  pub next_unforged : (from to : Actor) (x : Envelope) → IsTraitor shape from → IsNextStep shape (log_of run) (from, Post to x) → IsUnforged keys known x
  next_unforged (Replica p) to x traitor next = made_unforged p traitor x (next.conduct.1 traitor.1)
  next_unforged (Client c) to x traitor next = elim traitor [ ]

  -- ---- how the audit goes on

  -- what is known after a post of a loyal actor, and of a traitor
  pub knows_loyal : (from to : Actor) (x : Envelope) (new : List Signature) → IsLoyal shape from
      → ((holder : Actor) → Any (λ h. h ≡ holder) keys → (s : Signature) → In s new ↔ (In s known ⊎ Carries x s))
      → KnowsAll shape (log_of ((from, Post to x) ∷ run)) new
  knows_loyal from to x new loyal learned p traitor =
      known_posted shape run known new from to x (are.knows p traitor) loyal (learned (Replica p) ((are.held (Replica p)).1 traitor))

  pub knows_traitor : (from to : Actor) (x : Envelope) → ¬ IsLoyal shape from → KnowsAll shape (log_of ((from, Post to x) ∷ run)) known
  knows_traitor from to x bad p traitor = known_still shape run known (from, Post to x) (are.knows p traitor) (λ t y e loyal. bad loyal)

  -- after a post
  pub parts_posted : (from to : Actor) (h : Held) (party : Party) (new : List Signature) (last : List (Option Held)) → IsActor shape from → IsActor shape to
      → IsOpen (box_at rows (place_of shape from) (place_of shape to)) → h.draft.now ≡ h.envelope → IsEnvelope h.envelope
      → ForgesNone shape (log_of run) from h.envelope → KeepsOwn shape from (log_of run from) (Post to h.envelope)
      → Plays shape from (Post to h.envelope ∷ log_of run from) party → KnowsAll shape (log_of ((from, Post to h.envelope) ∷ run)) new
      → AreFirsts shape (log_of ((from, Post to h.envelope) ∷ run)) last
      → AreParts shape ((from, Post to h.envelope) ∷ run) (slice_set parties (place_of shape from) party)
      (with_box rows (place_of shape from) (place_of shape to) (with_item (box_at rows (place_of shape from) (place_of shape to)) h)) notary keys new last
  parts_posted from to h party new last actor other opened recorded fits forges keeps plays knows kept = record {
    is_run = (are.is_run, next);
    played = played_step shape run parties (from, Post to h.envelope) party are.played actor plays;
    boxes = boxes_posted shape run rows from to h are.boxes actor other recorded opened.0;
    signs = are.signs;
    held = are.held;
    knows = knows;
    kept = kept;
  }
    where
      is : IsBoxOf (box_at rows (place_of shape from) (place_of shape to)) (posted_to to (log_of run from)) (taken_from from (log_of run to))
      is = are.boxes.each from to actor other

      next : IsNextStep shape (log_of run) (from, Post to h.envelope)
      next = record {
        actor = actor;
        other = other;
        box = is.holds ∙ (ap (λ o. taken_from from (log_of run to) ++ held_in o) opened.0 ∙ append-nil (taken_from from (log_of run to)));
        limits = (fits, let count = is.count in let few = opened.1 in omega (arith, count, few));
        conduct = post_conduct shape (log_of run) from to h.envelope actor keeps forges;
      }

  -- what a box holds is within the limits
  pub held_within : (at from : Actor) (h : Held) → IsActor shape at → IsActor shape from
      → (box_at rows (place_of shape from) (place_of shape at)).item ≡ Some h → IsEnvelope h.envelope
  held_within at from h actor other full =
      let is = are.boxes.each from at other actor in
      let left : posted_to at (log_of run from) ≡ taken_from from (log_of run at) ++ h.envelope ∷ [] =
      is.holds ∙ ap (λ o. taken_from from (log_of run at) ++ held_in o) full in
      posted_within shape run are.is_run from at h.envelope
      (posted_entry at (log_of run from) h.envelope
      (subst (In h.envelope) (sym left) (In-append_right h.envelope (taken_from from (log_of run at)) (h.envelope ∷ []) (here refl))))

  -- after a take
  pub parts_taken : (at from : Actor) (h : Held) (party : Party) → IsActor shape at → IsActor shape from
      → (box_at rows (place_of shape from) (place_of shape at)).item ≡ Some h → KeepsOwn shape at (log_of run at) (Take from h.envelope)
      → Plays shape at (Take from h.envelope ∷ log_of run at) party
      → AreParts shape ((at, Take from h.envelope) ∷ run) (slice_set parties (place_of shape at) party)
      (with_box rows (place_of shape from) (place_of shape at) (without_item (box_at rows (place_of shape from) (place_of shape at)))) notary keys known firsts
  parts_taken at from h party actor other full keeps plays = record {
    is_run = (are.is_run, next);
    played = played_step shape run parties (at, Take from h.envelope) party are.played actor plays;
    boxes = boxes_taken shape run rows at from h are.boxes actor other full;
    signs = are.signs;
    held = are.held;
    knows = λ p traitor. known_still shape run known (at, Take from h.envelope) (are.knows p traitor) (λ t y e loyal. no_post from h.envelope t y e);
    kept = firsts_taken shape run firsts are.kept at from h.envelope;
  }
    where
      next : IsNextStep shape (log_of run) (at, Take from h.envelope)
      next = record {
        actor = actor;
        other = other;
        box = (are.boxes.each from at other actor).holds ∙ ap (λ o. taken_from from (log_of run at) ++ held_in o) full;
        limits = tt;
        conduct = take_conduct shape (log_of run) at from h.envelope keeps;
      }

      no_post : (a : Actor) (x : Envelope) (t : Actor) (y : Envelope) → Take a x ≡ Post t y → ⊥
      no_post a x t y e = cc

  -- ---- the same at places as they were found

  -- the party at an actor's place plays it
  pub plays_at : (who : Actor) (party : Party) (place : ℕ) → place ≡ place_of shape who → IsActor shape who → party ≡ slice_index_or parties place party
      → Plays shape who (log_of run who) party
  plays_at who party place at inside is =
      subst (Plays shape who (log_of run who)) (sym (is ∙ ap (λ k. slice_index_or parties k party) at)) (are.played.each who inside party)

  held_at : (from at : Actor) (k l : ℕ) (h : Held) → k ≡ place_of shape from → l ≡ place_of shape at → (box_at rows k l).item ≡ Some h
      → (box_at rows (place_of shape from) (place_of shape at)).item ≡ Some h
  held_at from at k l h from_at at_at full =
      subst (λ i. (box_at rows i (place_of shape at)).item ≡ Some h) from_at (subst (λ j. (box_at rows k j).item ≡ Some h) at_at full)

  -- it can get what its box holds
  pub can_get : (at from : Actor) (h : Held) (party : Party) (k l : ℕ) → k ≡ place_of shape from → l ≡ place_of shape at → IsActor shape at
      → IsActor shape from → (box_at rows k l).item ≡ Some h → party ≡ slice_index_or parties l party → CanGet party at from h.envelope
  can_get at from h party k l from_at at_at actor other full is = record {
    shape = shape;
    log = log_of run at;
    plays = plays_at at party l at_at actor is;
    other = other;
    within = held_within at from h actor other (held_at from at k l h from_at at_at full);
  }

  -- what its box holds is what was found to be recorded
  pub same_held : (at from : Actor) (h : Held) (x : Envelope) (k l : ℕ) → k ≡ place_of shape from → l ≡ place_of shape at → IsActor shape at
      → IsActor shape from → (box_at rows k l).item ≡ Some h → Holds (box_at rows (place_of shape from) (place_of shape at)) x → h.envelope ≡ x
  same_held at from h x k l from_at at_at actor other full found =
      let full_is = held_at from at k l h from_at at_at full in
      let same : found.0 ≡ h = same_Some found.0 h (sym found.1 ∙ full_is) in
      sym ((are.boxes.each from at other actor).recorded h full_is) ∙ (ap (λ (y : Held). y.draft.now) (sym same) ∙ found.2)

  -- after a take
  pub parts_taken_at : (at from : Actor) (h : Held) (x : Envelope) (party : Party) (k l : ℕ) (later : List (List (MailBox Held))) → k ≡ place_of shape from
      → l ≡ place_of shape at → IsActor shape at → IsActor shape from → (box_at rows k l).item ≡ Some h
      → later ≡ with_box rows k l (without_item (box_at rows k l)) → h.envelope ≡ x
      → KeepsOwn shape at (log_of run at) (Take from h.envelope) × Plays shape at (Take from h.envelope ∷ log_of run at) party
      → AreParts shape ((at, Take from x) ∷ run) (slice_set parties l party) later notary keys known firsts
  parts_taken_at at from h x party k l later from_at at_at actor other full rows_are same took =
      let taken = parts_taken at from h party actor other (held_at from at k l h from_at at_at full) took.0 took.1 in
      subst (λ e. AreParts shape ((at, Take from e) ∷ run) (slice_set parties l party) later notary keys known firsts) same
      (subst (λ r. AreParts shape ((at, Take from h.envelope) ∷ run) (slice_set parties l party) r notary keys known firsts) (sym rows_are)
      (subst (λ j. AreParts shape ((at, Take from h.envelope) ∷ run) (slice_set parties j party) (with_box rows k j (without_item (box_at rows k j))) notary keys known firsts)
      (sym at_at)
      (subst (λ i. AreParts shape ((at, Take from h.envelope) ∷ run) (slice_set parties (place_of shape at) party)
      (with_box rows i (place_of shape at) (without_item (box_at rows i (place_of shape at)))) notary keys known firsts) (sym from_at) taken)))

  -- what a loyal replica posts next is within the limits
  pub posts_within : IsAllowed shape → (p q : ℕ) → p < shape.n → (party : Party) → Plays shape (Replica p) (log_of run (Replica p)) party → PostsWithin party q
  posts_within allowed p q inside (party.Loyal r) plays = record {
    log = log_of run (Replica p);
    stands = plays.stands;
    within = λ pick x good e. loyal_next_within shape allowed run are.is_run p (inside, plays.honest) (Replica q) x (
      pick,
      good,
      subst (λ m. envelope_to shape m (log_of run (Replica p)) q pick ≡ Some x) plays.me
          (subst (λ s. envelope_to s r.me (log_of run (Replica p)) q pick ≡ Some x) plays.shape_is e),
    );
  }
  posts_within allowed p q inside party.Traitor plays = tt
  posts_within allowed p q inside (party.Client x) plays = elim plays [ ]

  -- a replica has already posted to replica 0 what it posts to any other replica
  posted_first : (p q : ℕ) (pick : Pick) (x : Envelope) → envelope_to shape (Replica p) (log_of run (Replica p)) (suc q) pick ≡ Some x
      → In x (posted_to (Replica 0) (log_of run (Replica p)))
  posted_first p q pick x e = by_test (is_due (due shape (log_of run (Replica p))) (suc q)) pick e
    where
      by_test : (b : Bool) (how : Pick) → (if b then chosen shape (Replica p) (log_of run (Replica p)) (suc q) how else None) ≡ Some x
          → In x (posted_to (Replica 0) (log_of run (Replica p)))
      by_test false how given = absurd (none-some x given)
      by_test true Plain given = In-from_place x (posted_to (Replica 0) (log_of run (Replica p))) (rounds shape (log_of run (Replica p))) given
      by_test true (From clients) given = absurd (none-some x given)
      by_test true (Begin op) given = absurd (none-some x given)

  -- so the signatures in it are known
  known_again : (from to : Actor) (x : Envelope) → is_posted_again from to ≡ true → IsLoyal shape from → KeepsOwn shape from (log_of run from) (Post to x)
      → (holder : Actor) → Any (λ h. h ≡ holder) keys → (s : Signature) → Carries x s → In s known
  known_again (Replica p) (Replica zero) x again loyal keeps holder held s carries = absurd (true≢false (sym again))
  known_again (Replica p) (Client c) x again loyal keeps holder held s carries = absurd (true≢false (sym again))
  known_again (Client c) to x again loyal keeps holder held s carries = absurd (true≢false (sym again))
  known_again (Replica p) (Replica (suc q)) x again loyal keeps holder held s carries = by_holder holder ((are.held holder).0 held)
    where
      by_holder : (h : Actor) → IsTraitor shape h → In s known
      by_holder (Client c) traitor = elim traitor [ ]
      by_holder (Replica t) traitor =
          let next = (keeps loyal.1).0 in
          (are.knows t traitor).all s (Replica p) loyal
          (record { to = Replica 0; envelope = x; posted = posted_entry (Replica 0) (log_of run (Replica p)) x (posted_first p q next.0 x next.2); carried = carries })

  -- what is known after a post
  pub knows_after : (from to : Actor) (x : Envelope) (new : List Signature) → IsActor shape from → KeepsOwn shape from (log_of run from) (Post to x)
      → (IsLoyal shape from → is_posted_again from to ≡ false → (holder : Actor) → Any (λ h. h ≡ holder) keys → (s : Signature) → In s new ↔ (In s known ⊎ Carries x s))
      → ((IsLoyal shape from → is_posted_again from to ≡ true) → new ≡ known) → KnowsAll shape (log_of ((from, Post to x) ∷ run)) new
  knows_after from to x new inside keeps learned stays = elim (loyal_or_traitor shape from inside) [
    | inl loyal ↦ elim (cases_Bool (is_posted_again from to)) [
      | inl again ↦
          subst (KnowsAll shape (log_of ((from, Post to x) ∷ run))) (sym (stays (λ good. again)))
          (knows_loyal from to x known loyal (λ holder held s. (
            λ old. inl old,
            λ h. elim h [ inl old ↦ old | inr carries ↦ known_again from to x again loyal keeps holder held s carries ],
          )))
      | inr first ↦ knows_loyal from to x new loyal (learned loyal first)
    ]
    | inr traitor ↦
        let bad : ¬ IsLoyal shape from = λ loyal. not_both shape from loyal traitor in
        subst (KnowsAll shape (log_of ((from, Post to x) ∷ run))) (sym (stays (λ loyal. absurd (bad loyal)))) (knows_traitor from to x bad)
  ]

  -- after a post
  pub parts_posted_at : (from to : Actor) (h : Held) (party : Party) (new : List Signature) (last : List (Option Held)) (k l : ℕ) (later : List (List (MailBox Held)))
      → k ≡ place_of shape from → l ≡ place_of shape to → IsActor shape from → IsActor shape to
      → IsOpen (box_at rows (place_of shape from) (place_of shape to)) → h.draft.now ≡ h.envelope → IsEnvelope h.envelope
      → ForgesNone shape (log_of run) from h.envelope → later ≡ with_box rows k l (with_item (box_at rows k l) h)
      → KeepsOwn shape from (log_of run from) (Post to h.envelope) × Plays shape from (Post to h.envelope ∷ log_of run from) party
      → KnowsAll shape (log_of ((from, Post to h.envelope) ∷ run)) new → AreFirsts shape (log_of ((from, Post to h.envelope) ∷ run)) last
      → AreParts shape ((from, Post to h.envelope) ∷ run) (slice_set parties k party) later notary keys new last
  parts_posted_at from to h party new last k l later from_at to_at actor other opened recorded fits forges rows_are posted knows kept =
      let parts = parts_posted from to h party new last actor other opened recorded fits forges posted.0 posted.1 knows kept in
      subst (λ r. AreParts shape ((from, Post to h.envelope) ∷ run) (slice_set parties k party) r notary keys new last) (sym rows_are)
      (subst (λ i. AreParts shape ((from, Post to h.envelope) ∷ run) (slice_set parties i party) (with_box rows i l (with_item (box_at rows i l) h)) notary keys new last)
      (sym from_at)
      (subst (λ j. AreParts shape ((from, Post to h.envelope) ∷ run) (slice_set parties (place_of shape from) party)
      (with_box rows (place_of shape from) j (with_item (box_at rows (place_of shape from) j) h)) notary keys new last) (sym to_at) parts))

  -- what a loyal actor posts again makes nothing known
  pub knows_again : (from to : Actor) (x : Envelope) → IsLoyal shape from → ((s : Signature) → Carries x s → HasPosted (log_of run from) s)
      → KnowsAll shape (log_of ((from, Post to x) ∷ run)) known
  knows_again from to x loyal before p traitor =
      known_posted shape run known known from to x (are.knows p traitor) loyal
      (λ s. (inl, λ h. elim h [ inl old ↦ old | inr carried ↦ (are.knows p traitor).all s from loyal (before s carried) ]))

  -- what is stored for an actor is in its log
  first_in_log : (from : Actor) (first : Held) → IsActor shape from → slice_index_or firsts (place_of shape from) None ≡ Some first
      → In (Post (Replica 0) first.envelope) (log_of run from)
  first_in_log from first actor kept =
      let last = are.kept.last from actor first kept in
      posted_entry (Replica 0) (log_of run from) first.envelope
      (subst (In first.envelope) (sym last.1.1) (In-append_right first.envelope last.1.0 (first.envelope ∷ []) (here refl)))

  -- after a loyal replica's post of what it posted to replica 0
  pub parts_again : (p q : ℕ) (h first : Held) (party : Party) (later : List (List (MailBox Held))) → is_traitor shape p ≡ false → p < shape.n → q < shape.n
      → 0 < q → IsOpen (box_at rows p q) → slice_index_or firsts p None ≡ Some first → h.draft.now ≡ h.envelope → h.envelope ≡ first.envelope
      → later ≡ with_box rows p q (with_item (box_at rows p q) h)
      → (((y : Envelope) → envelope_to shape (Replica p) (log_of run (Replica p)) q Plain ≡ Some y → h.envelope ≡ y)
      → KeepsOwn shape (Replica p) (log_of run (Replica p)) (Post (Replica q) h.envelope)
      × Plays shape (Replica p) (Post (Replica q) h.envelope ∷ log_of run (Replica p)) party)
      → AreParts shape ((Replica p, Post (Replica q) h.envelope) ∷ run) (slice_set parties p party) later notary keys known firsts
  parts_again p q h first party later honest inside other after opened kept recorded same rows_are posts =
      let last = are.kept.last (Replica p) inside first kept in
      let stands = first_in_log (Replica p) first inside kept in
      let fits = subst IsEnvelope (sym same) (posted_within shape run are.is_run (Replica p) (Replica 0) first.envelope stands) in
      let loyal : IsLoyal shape (Replica p) = (inside, honest) in
      let posted = posts (λ y given. same ∙ posts_again shape run are.is_run p q loyal after last.1.0 first.envelope y last.1.1 given) in
      let knows = knows_again (Replica p) (Replica q) h.envelope loyal
      (λ s carried. record { to = Replica 0; envelope = first.envelope; posted = stands; carried = subst (λ x. Carries x s) same carried }) in
      let left = firsts_posted shape run firsts are.kept (Replica p) (Replica q) h None recorded inside (no_first q h after) in
      parts_posted_at (Replica p) (Replica q) h party known firsts p q later refl refl inside other opened recorded fits
      (loyal_forges_none shape (log_of run) (Replica p) h.envelope loyal) rows_are posted knows left
    where
      no_first : (q : ℕ) (h : Held) → 0 < q → IsFirstOf (Replica q) h None
      no_first zero h after = absurd (omega (arith, after))
      no_first (suc q) h after = refl

-- what an actor's party has posted
pub is_posted : (a : Audit) (run : List Step) (parties : List Party) (from to : Actor) (h : Held) (party : Party) (k : ℕ)
    → AreParts a.shape run parties a.boxes a.notary.items a.keys.items a.known.signatures a.firsts.items → k ≡ place_of a.shape from
    → a.parties.items ≡ slice_set parties k party → IsActor a.shape from → IsActor a.shape to
    → IsOpen (box_at a.boxes (place_of a.shape from) (place_of a.shape to)) → h.draft.now ≡ h.envelope → IsEnvelope h.envelope
    → ForgesNone a.shape (log_of run) from h.envelope
    → KeepsOwn a.shape from (log_of run from) (Post to h.envelope) × Plays a.shape from (Post to h.envelope ∷ log_of run from) party
    → IsPosted a run parties from to h
is_posted a run parties from to h party k are at after actor other opened recorded within unforged posted = record {
  before = are;
  party = party;
  after = after ∙ ap (λ i. slice_set parties i party) at;
  actor = actor;
  other = other;
  opened = opened;
  recorded = recorded;
  within = within;
  unforged = unforged;
  keeps = posted.0;
  plays = posted.1;
}

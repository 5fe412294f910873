-- A step that may be next is that of the event that it would be, and nothing refuses that.
use Rattle.std.proofs.Common.{◌≡◌, ◌≢◌, ℕ, suc, ◌<◌, ◌^◌, ◌==◌, ◌&&◌, ◌||◌, not, nat_lt, Bool, true, false, List, [], ◌∷◌, ◌++◌, Option, None, Some, length, length-append, if◌then◌else◌, refl, ap, sym, ◌∙◌, subst, arith}
use Rattle.std.specs.Prelude.{slice_get}
use Rattle.std.specs.Option.{option_map, is_none}
use Rattle.std.proofs.lemmas.Bool.{true≢false, false≢true}
use Rattle.std.proofs.lemmas.Bool.Decides.{Decides-eqb, nat_tests}
use Rattle.std.proofs.lemmas.Option.{none-some, same_Some}
use Rattle.dsr_names.specs.Shape.{Shape, is_traitor, IsActor}
use Rattle.dsr_names.specs.declared.actor.Actor.{Actor}
use Rattle.dsr_names.specs.declared.actor.Actor.TheVariants.{Replica, Client}
use Rattle.dsr_names.specs.declared.refusal.Refusal.{Refusal}
use Rattle.dsr_names.specs.declared.refusal.Refusal.TheVariants.{NoActor, WrongRole, NotDue, Exhausted, BoxFull, BoxEmpty}
use Rattle.dsr_chain.specs.declared.signed_request.SignedRequest.{SignedRequest}
use Rattle.dsr_request.specs.declared.op.Op.{Op}
use Rattle.dsr_envelope.specs.declared.envelope.Envelope.{Envelope}
use Rattle.dsr_envelope.specs.declared.envelope.Envelope.TheVariants.{Ask}
use Rattle.dsr_envelope.specs.declared.entry.Entry.TheVariants.{Post as PostEntry, Take as TakeEntry}
use Rattle.dsr_envelope.specs.declared.pick.Pick.{Pick}
use Rattle.dsr_envelope.specs.declared.pick.Pick.TheVariants.{Plain, From, Begin}
use Rattle.dsr_envelope.specs.Limits.{IsEnvelope, IsSigned}
use Rattle.dsr_envelope.specs.Log.{posted_to, taken_from, due, rounds}
use Rattle.dsr_envelope.specs.Pick.{IsPick}
use Rattle.dsr_client.specs.Conduct.{ask_of, next_number, chosen_beside, ask_to}
use Rattle.dsr_client.specs.State.{outstanding}
use Rattle.dsr_client.proofs.Lemmas.{chosen_ask, choice_told}
use Rattle.dsr_node.specs.Conduct.{post_of, is_exhausted, is_undue, is_actor, is_traitor_of, are_clients, is_own_client, are_two_clients, takes_from}
use Rattle.dsr_play.specs.declared.event.Event.{Event}
use Rattle.dsr_play.specs.declared.event.Event.TheVariants.{Post, Plant, Take, Tell}
use Rattle.dsr_run.specs.Run.{IsNextStep, IsTraitor}
use Rattle.dsr_run.specs.Step.{Step, Logs}
use Rattle.dsr_world.specs.Event.{is_full, is_used_up, refusal_of, first_of, step_of, IsForged}
use Rattle.dsr_lines.specs.Begun.{begun_choice}
use Rattle.dsr_lines.specs.Line.{begun_by, IsReplicaPost, IsEventOf}
use Rattle.dsr_lines.proofs.BegunLemmas.{apart_not, read_gives}

-- nothing refuses the event, and its step is this one
pub record PassesAs (shape : Shape) (logs : Logs) (event : Event) (step : Step) : Type 0 where
  pub none : refusal_of shape logs event ≡ None
  pub forges : IsForged shape logs event → ⊥
  pub step_is : step_of shape logs event ≡ Some step

-- ---- tests that do not hold

passes : (b : Bool) (r : Refusal) (rest : List (Bool × Refusal)) → b ≡ false → first_of rest ≡ None → first_of ((b, r) ∷ rest) ≡ None
passes true r rest fails none = absurd (true≢false fails)
passes false r rest fails none = none

-- no row of four, or of five, refuses
pub four_pass : (a b c d : Bool) (r s t u : Refusal) → a ≡ false → b ≡ false → c ≡ false → d ≡ false
    → first_of ((a, r) ∷ (b, s) ∷ (c, t) ∷ (d, u) ∷ []) ≡ None
four_pass a b c d r s t u one two three four =
    passes a r ((b, s) ∷ (c, t) ∷ (d, u) ∷ []) one
    (passes b s ((c, t) ∷ (d, u) ∷ []) two (passes c t ((d, u) ∷ []) three (passes d u [] four refl)))

pub five_pass : (a b c d e : Bool) (r s t u v : Refusal) → a ≡ false → b ≡ false → c ≡ false → d ≡ false → e ≡ false
    → first_of ((a, r) ∷ (b, s) ∷ (c, t) ∷ (d, u) ∷ (e, v) ∷ []) ≡ None
five_pass a b c d e r s t u v one two three four five =
    passes a r ((b, s) ∷ (c, t) ∷ (d, u) ∷ (e, v) ∷ []) one (four_pass b c d e s t u v two three four five)

both_hold : (a b : Bool) → a ≡ true → b ≡ true → not (a && b) ≡ false
both_hold true true e f = refl
both_hold true false e f = absurd (false≢true f)
both_hold false b e f = absurd (false≢true e)

neither : (a b : Bool) → a ≡ false → b ≡ false → (a || b) ≡ false
neither true b e f = absurd (true≢false e)
neither false b e f = f

below_yes : (a b : ℕ) → a < b → nat_lt a b ≡ true
below_yes a b h = grind (arith, nat_tests)

below_not : (a b : ℕ) → a < b → not (nat_lt a b) ≡ false
below_not a b h = grind (arith, nat_tests)

same_not : (a b : ℕ) → a ≡ b → nat_lt a b ≡ false
same_not a b h = grind (arith, nat_tests)

actor_yes : (shape : Shape) (a : Actor) → IsActor shape a → is_actor shape a ≡ true
actor_yes shape (Replica p) inside = below_yes p shape.n inside
actor_yes shape (Client c) inside = below_yes c shape.m inside

pub honest_is : (shape : Shape) (p : ℕ) → p < shape.n → (IsTraitor shape (Replica p) → ⊥) → is_traitor shape p ≡ false
honest_is shape p inside loyal = by_bit (is_traitor shape p) refl
  where
    by_bit : (b : Bool) → is_traitor shape p ≡ b → b ≡ false
    by_bit false e = refl
    by_bit true e = absurd (loyal (inside, e))

-- ---- boxes

past_end : (ys xs : List Envelope) → slice_get (ys ++ xs) (length ys) ≡ slice_get xs 0
past_end [] xs = refl
past_end (y ∷ ys) xs = past_end ys xs

-- a box from which all but one envelope was taken holds that one
pub left_is : (posted taken : List Envelope) (x : Envelope) → posted ≡ taken ++ x ∷ [] → slice_get posted (length taken) ≡ Some x
left_is posted taken x e = ap (λ l. slice_get l (length taken)) e ∙ past_end taken (x ∷ [])

left_full : (posted taken : List Envelope) (x : Envelope) → posted ≡ taken ++ x ∷ [] → nat_lt (length taken) (length posted) ≡ true
left_full posted taken x e =
    let longer = ap length e in below_yes (length taken) (length posted) (omega (arith, longer, length-append taken (x ∷ [])))

-- ---- numbers

-- the number of a new request is below the limit if the request is within the limits
begun_below : (o : Option SignedRequest) (c number : ℕ) (op : Op) (x : Envelope) → option_map Ask (chosen_beside o c number (Begin op)) ≡ Some x
    → IsEnvelope x → number < 2 ^ 40
begun_below (Some ask) c number op x e fits = absurd (none-some x e)
begun_below None c number op x e fits =
    let signed : IsSigned (ask_of c number op) = subst IsEnvelope (sym (same_Some (Ask (ask_of c number op)) x e)) fits in signed.request.small_number

-- ---- choices

-- ---- steps

module _ (shape : Shape) (logs : Logs) where
  inside_both : (one other : Actor) → IsActor shape one → IsActor shape other → not (is_actor shape one && is_actor shape other) ≡ false
  inside_both one other inside too =
      both_hold (is_actor shape one) (is_actor shape other) (actor_yes shape one inside) (actor_yes shape other too)

  posts_left : (from to : Actor) → suc (length (posted_to to (logs from))) < 2 ^ 40 → is_used_up logs from to ≡ false
  posts_left from to few = below_not (suc (length (posted_to to (logs from)))) (2 ^ 40) few

  room_left : (from to : Actor) → posted_to to (logs from) ≡ taken_from from (logs to) → is_full logs from to ≡ false
  room_left from to empty = same_not (length (taken_from from (logs to))) (length (posted_to to (logs from))) (ap length (sym empty))

  -- a loyal actor's post that its protocol has
  post_passes : (from to : Actor) (pick : Pick) (x : Envelope) → IsNextStep shape logs (from, PostEntry to x) → is_traitor_of shape from ≡ false
      → are_clients from to ≡ false → post_of shape (logs from) from to pick ≡ Some x → is_exhausted shape (logs from) from to pick ≡ false
      → PassesAs shape logs (Post from to pick) (from, PostEntry to x)
  post_passes from to pick x next honest apart gives more = record {
    none =
        five_pass (not (is_actor shape from && is_actor shape to)) (is_traitor_of shape from || are_clients from to)
        (is_none (post_of shape (logs from) from to pick)) (is_exhausted shape (logs from) from to pick || is_used_up logs from to)
        (is_full logs from to) NoActor WrongRole NotDue Exhausted BoxFull (inside_both from to next.actor next.other)
        (neither (is_traitor_of shape from) (are_clients from to) honest apart) (ap is_none gives)
        (neither (is_exhausted shape (logs from) from to pick) (is_used_up logs from to) more (posts_left from to next.limits.1))
        (room_left from to next.box);
    forges = λ f. f;
    step_is = ap (option_map (λ envelope. (from, PostEntry to envelope))) gives;
  }

  -- a loyal replica's post to a replica
  shown_passes : (p q : ℕ) (x : Envelope) (pick : Pick) → (IsTraitor shape (Replica p) → ⊥)
      → (IsPick (begun_choice shape (Replica p) q x) → pick ≡ begun_choice shape (Replica p) q x)
      → IsNextStep shape logs (Replica p, PostEntry (Replica q) x)
      → PassesAs shape logs (Post (Replica p) (Replica q) pick) (Replica p, PostEntry (Replica q) x)
  shown_passes p q x pick loyal read next =
      let honest = honest_is shape p next.actor loyal in
      let may = next.conduct.0 honest in
      let gives = read_gives shape (Replica p) (logs (Replica p)) q x pick read may.0.0 may.0.1 may.0.2 in
      post_passes (Replica p) (Replica q) pick x next honest refl gives (below_not (rounds shape (logs (Replica p))) (2 ^ 36) may.1)

  -- a loyal replica's post to a client
  reply_passes : (p c : ℕ) (x : Envelope) → (IsTraitor shape (Replica p) → ⊥) → IsNextStep shape logs (Replica p, PostEntry (Client c) x)
      → PassesAs shape logs (Post (Replica p) (Client c) Plain) (Replica p, PostEntry (Client c) x)
  reply_passes p c x loyal next =
      let honest = honest_is shape p next.actor loyal in
      let may = next.conduct.0 honest in
      post_passes (Replica p) (Client c) Plain x next honest refl may.0.1 refl

  -- a traitor's post
  plant_passes : (p : ℕ) (to : Actor) (x : Envelope) → is_traitor shape p ≡ true → IsNextStep shape logs (Replica p, PostEntry to x)
      → PassesAs shape logs (Plant (Replica p) to x) (Replica p, PostEntry to x)
  plant_passes p to x traitor next = record {
    none =
        four_pass (not (is_actor shape (Replica p) && is_actor shape to)) (not (is_traitor shape p)) (is_used_up logs (Replica p) to)
        (is_full logs (Replica p) to) NoActor WrongRole Exhausted BoxFull (inside_both (Replica p) to next.actor next.other)
        (ap not traitor) (posts_left (Replica p) to next.limits.1) (room_left (Replica p) to next.box);
    forges = λ forged. forged (next.conduct.1 traitor);
    step_is = refl;
  }

  number_left : (c q : ℕ) (pick : Pick) (x : Envelope) → ask_to shape c (logs (Client c)) pick ≡ Some x → IsEnvelope x
      → is_exhausted shape (logs (Client c)) (Client c) (Replica q) pick ≡ false
  number_left c q Plain x gives fits = refl
  number_left c q (From clients) x gives fits = refl
  number_left c q (Begin op) x gives fits =
      below_not (next_number shape (logs (Client c))) (2 ^ 40)
      (begun_below (outstanding shape (logs (Client c))) c (next_number shape (logs (Client c))) op x gives fits)

  -- a client's post to a replica
  ask_passes : (c q : ℕ) (x : Envelope) (pick : Pick) → (c < shape.m → pick ≡ begun_by x (outstanding shape (logs (Client c))))
      → IsNextStep shape logs (Client c, PostEntry (Replica q) x)
      → PassesAs shape logs (Post (Client c) (Replica q) pick) (Client c, PostEntry (Replica q) x)
  ask_passes c q x pick asks next =
      let log = logs (Client c) in
      let theirs = next.conduct.1.0 in
      let gives = next.conduct.1.1 in
      let chosen = chosen_ask (chosen_beside (outstanding shape log) c (next_number shape log) theirs) x gives in
      let shown : theirs ≡ begun_by (Ask chosen.0) (outstanding shape log) =
      choice_told shape c log theirs chosen.0 (gives ∙ ap Some (sym chosen.2)) in
      let same : theirs ≡ pick = shown ∙ (ap (λ y. begun_by y (outstanding shape log)) chosen.2 ∙ sym (asks next.actor)) in
      let ours : ask_to shape c log pick ≡ Some x = subst (λ k. ask_to shape c log k ≡ Some x) same gives in
      post_passes (Client c) (Replica q) pick x next refl refl ours (number_left c q pick x ours next.limits.0)

  -- what a client tells another
  tell_passes : (c d : ℕ) (x : Envelope) → IsNextStep shape logs (Client c, PostEntry (Client d) x)
      → PassesAs shape logs (Tell (Client c) (Client d)) (Client c, PostEntry (Client d) x)
  tell_passes c d x next = record {
    none =
        four_pass (not (is_actor shape (Client c) && is_actor shape (Client d))) (not (are_two_clients (Client c) (Client d)))
        (is_used_up logs (Client c) (Client d)) (is_full logs (Client c) (Client d)) NoActor WrongRole Exhausted BoxFull
        (inside_both (Client c) (Client d) next.actor next.other) (ap (λ b. not (true && not b)) (apart_not c d (λ e. next.conduct.1 (sym e))))
        (posts_left (Client c) (Client d) next.limits.1) (room_left (Client c) (Client d) next.box);
    forges = λ f. f;
    step_is = ap (λ y. Some (Client c, PostEntry (Client d) y)) (sym next.conduct.2);
  }

  own_not : (at from : Actor) (x : Envelope) → IsNextStep shape logs (at, TakeEntry from x) → is_own_client at from ≡ false
  own_not (Replica p) from x next = refl
  own_not (Client c) (Replica q) x next = refl
  own_not (Client c) (Client d) x next = apart_not c d (λ e. next.conduct.1 (ap Client (sym e)))

  undue_not : (at from : Actor) (x : Envelope) → IsNextStep shape logs (at, TakeEntry from x) → is_undue shape (logs at) at from ≡ false
  undue_not (Replica p) (Client c) x next = refl
  undue_not (Client c) from x next = refl
  undue_not (Replica p) (Replica q) x next = by_bit (is_traitor shape p) refl
    where
      by_bit : (b : Bool) → is_traitor shape p ≡ b
          → (if b then false else not (takes_from (due shape (logs (Replica p))) q)) ≡ false
      by_bit true e = refl
      by_bit false e = ap (λ d. not (takes_from d q)) (next.conduct.0 e).0 ∙ ap not ((Decides-eqb q q).1 refl)

  -- a take
  pub take_passes : (at from : Actor) (x : Envelope) → IsNextStep shape logs (at, TakeEntry from x)
      → PassesAs shape logs (Take at from) (at, TakeEntry from x)
  take_passes at from x next = record {
    none =
        four_pass (not (is_actor shape at && is_actor shape from)) (is_own_client at from) (is_undue shape (logs at) at from)
        (not (is_full logs from at)) NoActor WrongRole NotDue BoxEmpty (inside_both at from next.actor next.other) (own_not at from x next)
        (undue_not at from x next) (ap not (left_full (posted_to at (logs from)) (taken_from from (logs at)) x next.box));
    forges = λ f. f;
    step_is = ap (option_map (λ envelope. (at, TakeEntry from envelope))) (left_is (posted_to at (logs from)) (taken_from from (logs at)) x next.box);
  }

  loyal_passes : (p : ℕ) (to : Actor) (x : Envelope) (event : Event) → (IsTraitor shape (Replica p) → ⊥) → IsReplicaPost shape p to x event
      → IsNextStep shape logs (Replica p, PostEntry to x) → PassesAs shape logs event (Replica p, PostEntry to x)
  loyal_passes p (Replica q) x event loyal is next =
      subst (λ e. PassesAs shape logs e (Replica p, PostEntry (Replica q) x)) (sym is.is) (shown_passes p q x is.pick loyal is.read next)
  loyal_passes p (Client c) x event loyal is next =
      subst (λ e. PassesAs shape logs e (Replica p, PostEntry (Client c) x)) (sym is) (reply_passes p c x loyal next)

  replica_passes : (p : ℕ) (to : Actor) (x : Envelope) (event : Event) → IsEventOf shape logs (Replica p, PostEntry to x) event
      → IsNextStep shape logs (Replica p, PostEntry to x) → PassesAs shape logs event (Replica p, PostEntry to x)
  replica_passes p to x event is next = by_bit (is_traitor shape p) refl
    where
      by_bit : (b : Bool) → is_traitor shape p ≡ b → PassesAs shape logs event (Replica p, PostEntry to x)
      by_bit true e =
          subst (λ e. PassesAs shape logs e (Replica p, PostEntry to x)) (sym (is.0 (next.actor, e))) (plant_passes p to x e next)
      by_bit false e =
          let loyal : IsTraitor shape (Replica p) → ⊥ = λ traitor. true≢false (sym traitor.1 ∙ e) in loyal_passes p to x event loyal (is.1 loyal) next

  pub next_passes : (step : Step) (event : Event) → IsEventOf shape logs step event → IsNextStep shape logs step → PassesAs shape logs event step
  next_passes (at, TakeEntry from x) event is next =
      subst (λ e. PassesAs shape logs e (at, TakeEntry from x)) (sym is) (take_passes at from x next)
  next_passes (Replica p, PostEntry to x) event is next = replica_passes p to x event is next
  next_passes (Client c, PostEntry (Replica q) x) event is next =
      subst (λ e. PassesAs shape logs e (Client c, PostEntry (Replica q) x)) (sym is.is) (ask_passes c q x is.pick is.asks next)
  next_passes (Client c, PostEntry (Client d) x) event is next =
      subst (λ e. PassesAs shape logs e (Client c, PostEntry (Client d) x)) (sym is) (tell_passes c d x next)

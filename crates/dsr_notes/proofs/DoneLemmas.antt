-- The notes of an event, put together from what is found before it and after it.
use Rattle.std.proofs.Common.{◌≡◌, ◌≢◌, ◌⊎◌, ℕ, zero, suc, ◌<◌, ◌-◌, ◌==◌, not, Bool, true, false, List, [], ◌∷◌, ◌++◌, Option, None, Some, length, map, if◌then◌else◌, inl, inr, refl, ap, ap₂, sym, ◌∙◌, subst, append_assoc, arith}
use Rattle.std.specs.Prelude.{OnOk}
use Rattle.std.specs.Option.{option_map, option_to_list}
use Rattle.std.specs.Result.{IsErrAnd, result_err}
use Rattle.std.specs.declared.result.Result.{Result}
use Rattle.std.specs.declared.result.Result.TheVariants.{Ok, Err}
use Rattle.std.proofs.lemmas.Bool.{true≢false}
use Rattle.std.proofs.lemmas.Bool.Decides.{nat_tests}
use Rattle.std.proofs.lemmas.List.{append-nil, length_push}
use Rattle.std.proofs.lemmas.Option.{none-some}
use Rattle.std.proofs.lemmas.Result.{err_from_is_err_and}
use Rattle.dsr_names.specs.Shape.{Shape, IsActor, IsLoyal, is_traitor, sender}
use Rattle.dsr_names.specs.Support.ActorEquality.{actor_eq, actor_eq-Decides}
use Rattle.dsr_names.specs.declared.actor.Actor.{Actor}
use Rattle.dsr_names.specs.declared.actor.Actor.TheVariants.{Replica, Client}
use Rattle.dsr_names.specs.declared.refusal.Refusal.{Refusal}
use Rattle.dsr_names.specs.declared.refusal.Refusal.TheVariants.{Forged}
use Rattle.dsr_request.specs.Request.{Request}
use Rattle.dsr_ledger.specs.declared.reply.Reply.{Reply as AReply}
use Rattle.dsr_history.specs.History.{acted, acting}
use Rattle.dsr_rotation.specs.Calendar.{closed_slots}
use Rattle.dsr_chain.specs.Content.{requests_in}
use Rattle.dsr_chain.specs.Proper.{sender_of}
use Rattle.dsr_envelope.specs.Log.{due, rounds, taken_from}
use Rattle.dsr_envelope.specs.declared.due.Due.{Due}
use Rattle.dsr_envelope.specs.declared.due.Due.TheVariants.{Post as PostTo, Take as TakeFrom}
use Rattle.dsr_envelope.specs.declared.entry.Entry.{Entry}
use Rattle.dsr_envelope.specs.declared.entry.Entry.TheVariants.{Take as TakeEntry}
use Rattle.dsr_envelope.specs.declared.envelope.Envelope.{Envelope}
use Rattle.dsr_envelope.specs.declared.pick.Pick.{Pick}
use Rattle.dsr_envelope.specs.declared.pick.Pick.TheVariants.{Plain, From, Begin}
use Rattle.dsr_play.specs.declared.event.Event.{Event}
use Rattle.dsr_play.specs.declared.event.Event.TheVariants.{Post, Plant, Take, Tell}
use Rattle.dsr_replica.specs.Counts.{HasCounts}
use Rattle.dsr_replica.specs.Decided.{slot_decided, slot_kept, decided_requests}
use Rattle.dsr_client.specs.State.{state_after, accepted}
use Rattle.dsr_node.specs.Conduct.{AcceptsBy, takes_from}
use Rattle.dsr_run.specs.Run.{envelope_of}
use Rattle.dsr_run.specs.Step.{Logs, Step, log_of}
use Rattle.dsr_run.proofs.Lemmas.{log_cases}
use Rattle.dsr_world.specs.Event.{Answers, HasDone, IsForgedAtLast, MayBeDone, in_box, refusal_of}
use Rattle.dsr_world.proofs.Worlds.{cleared}
use Rattle.dsr_world.proofs.WorldTakes.{IsTaken, cleared_take}
use Rattle.dsr_notes.specs.Ask.{AreAskNotes}
use Rattle.dsr_notes.specs.Closing.{closes, closing, kept_notes, outcomes, requests_before}
use Rattle.dsr_notes.specs.Notes.{AreNotes, AreNotesOfTake, IsNoted}
use Rattle.dsr_notes.specs.Noting.{Notes, Adds}
use Rattle.dsr_notes.specs.Support.Reading.{AddsLast, AddsRead}
use Rattle.dsr_notes.specs.Support.Rest.{CanRest, Foretells, closing_notes, rest_notes}
use Rattle.dsr_notes.specs.Unproposed.{AreUnproposed, AreWaiting}
use Rattle.dsr_notes.specs.Vote.{vote_note}
use Rattle.dsr_notes.specs.declared.note.Note.{Note}
use Rattle.dsr_notes.specs.declared.note.Note.TheVariants.{Accepted, Closed, Decided, Held}
use Rattle.dsr_notes.specs.declared.rest.Rest.{Rest}
use Rattle.dsr_notes.specs.declared.rest.Rest.TheVariants.{Nothing, Reply, Close}
use Rattle.dsr_notes.proofs.ClosingLemmas.{acted_still}

-- nothing refuses an event that was done
not_refused : (found : Option Refusal) (result : Result (Option AReply) Refusal) (reply : Option AReply) → result ≡ Ok reply
    → ((refusal : Refusal) → found ≡ Some refusal → result ≡ Err refusal) → found ≡ None
not_refused None result reply ok given = refl
not_refused (Some refusal) result reply ok given = absurd (none-some refusal (ap result_err (sym ok ∙ given refusal refl)))

-- what was done may be done
pub may_be_done : (shape : Shape) (logs : Logs) (event : Event) (result : Result (Option AReply) Refusal)
    → ((refusal : Refusal) → refusal_of shape logs event ≡ Some refusal → result ≡ Err refusal)
    → (IsForgedAtLast shape logs event → result ≡ Err Forged) → OnOk result (MayBeDone shape logs event)
may_be_done shape logs event (Err refusal) given forged = tt
may_be_done shape logs event (Ok reply) given forged =
    let none = not_refused (refusal_of shape logs event) (Ok reply) reply refl given in
    (none, λ is. absurd (none-some Forged (ap result_err (forged (none, is)))))

-- what a `?` returns if the refusal is passed on
pub passed_on : {T : Type 0} (result : Result T Refusal) (refusal : Refusal) → IsErrAnd result (λ found. found ≡ refusal) → result ≡ Err refusal
passed_on result refusal is = let p = err_from_is_err_and result is in p.1 ∙ ap Err p.2

-- what was foretold of an event that was done, and what was noted afterwards
pub came_true : (shape : Shape) (later run : List Step) (event : Event) (before after : Notes) (rest : Rest) (reply : Option AReply)
    → Foretells shape run event before rest → refusal_of shape (log_of run) event ≡ None → HasDone shape later run event reply
    → CanRest shape (log_of later) rest
    × (Adds before after (rest_notes shape (log_of later) reply rest) → after.is_broken ≡ false → IsNoted shape run event after.items)
unfolding Foretells
came_true shape later run event before after rest reply foretold may done =
    let is = foretold later reply may done in
    (is.0, λ adds whole. (let all = adds whole in subst (IsNoted shape run event) (sym all.1) (is.1 all.0)))

-- ---- an event of which nothing is noted

-- a post to replica 0 by the plain choice, or a take that is not a client's from a client
abbrev pub IsNotable : Event → Type 0
IsNotable (Post (Replica p) (Replica zero) Plain) = Unit {0}
IsNotable (Post (Replica p) (Replica zero) (From clients)) = ⊥
IsNotable (Post (Replica p) (Replica zero) (Begin op)) = ⊥
IsNotable (Post (Replica p) (Replica (suc q)) pick) = ⊥
IsNotable (Post (Replica p) (Client c) pick) = ⊥
IsNotable (Post (Client c) to pick) = ⊥
IsNotable (Plant from to draft) = ⊥
IsNotable (Take (Replica p) from) = Unit {0}
IsNotable (Take (Client c) (Replica q)) = Unit {0}
IsNotable (Take (Client c) (Client d)) = ⊥
IsNotable (Tell from to) = ⊥

no_notes_of : (shape : Shape) (logs : Logs) (event : Event) (x : Envelope) → ¬ IsNotable event → AreNotes shape logs event x []
no_notes_of shape logs (Post (Replica p) (Replica zero) Plain) x other = absurd (other tt)
no_notes_of shape logs (Post (Replica p) (Replica zero) (From clients)) x other = refl
no_notes_of shape logs (Post (Replica p) (Replica zero) (Begin op)) x other = refl
no_notes_of shape logs (Post (Replica p) (Replica (suc q)) pick) x other = refl
no_notes_of shape logs (Post (Replica p) (Client c) pick) x other = refl
no_notes_of shape logs (Post (Client c) to pick) x other = refl
no_notes_of shape logs (Plant from to draft) x other = refl
no_notes_of shape logs (Take (Replica p) from) x other = absurd (other tt)
no_notes_of shape logs (Take (Client c) (Replica q)) x other = absurd (other tt)
no_notes_of shape logs (Take (Client c) (Client d)) x other = refl
no_notes_of shape logs (Tell from to) x other = refl

pub not_notable : (shape : Shape) (run : List Step) (event : Event) (notes : Notes) → notes.items ≡ [] → ¬ IsNotable event
    → Foretells shape run event notes Nothing
unfolding Foretells
not_notable shape run event notes empty other later reply may done = (
  tt,
  λ whole. record {
    step = done.step;
    is_event = done.is_event;
    are = subst (AreNotes shape (log_of run) event (envelope_of done.step.1)) (sym (ap (λ l. l ++ []) empty))
        (no_notes_of shape (log_of run) event (envelope_of done.step.1) other);
  },
)

-- ---- a take

-- the step of a take that was done
taken_parts : (at from : Actor) (found : Option Envelope) (step : Step) → option_map (λ envelope. (at, TakeEntry from envelope)) found ≡ Some step
    → (x : Envelope) × (found ≡ Some x) × (step ≡ (at, TakeEntry from x))
taken_parts at from None step e = absurd (none-some step e)
taken_parts at from (Some x) step e = (x, refl, sym (some_same e))
  where
    some_same : {a b : Step} → Some a ≡ Some b → a ≡ b
    some_same e = ap (λ o. or_this o) e
      where
        or_this : Option Step → Step
        or_this None = step
        or_this (Some s) = s

-- the log of an actor after its step
own_log : (step : Step) (run : List Step) (a : Actor) (entry : Entry) → step ≡ (a, entry) → log_of (step ∷ run) a ≡ entry ∷ log_of run a
own_log step run a entry is = elim (log_cases step run a) [
  | inl own ↦ own.1 ∙ ap (λ s. s.1 ∷ log_of run a) is
  | inr other ↦ absurd (other.0 (ap (λ s. s.0) is))
]

-- the envelope was in the box, and is the last in the log of who took it
pub record WasTaken (shape : Shape) (later run : List Step) (at from : Actor) (reply : Option AReply) (x : Envelope) : Type 0 where
  pub held : in_box (log_of run) from at ≡ Some x
  pub log : log_of later at ≡ TakeEntry from x ∷ log_of run at
  pub answers : Answers shape (log_of later) (log_of run) (at, TakeEntry from x) reply

-- what is to be shown of a take that is done
abbrev pub IsForetold : Shape → List Step → Actor → Actor → Notes → Rest → Type 0
IsForetold shape run at from notes rest =
    (later : List Step) (reply : Option AReply) (x : Envelope) → IsTaken shape (log_of run) at from → WasTaken shape later run at from reply x
    → CanRest shape (log_of later) rest
    × (notes.is_broken ≡ false → AreNotesOfTake shape at from (log_of run at) x (notes.items ++ rest_notes shape (log_of later) reply rest))

pub take_foretold : (shape : Shape) (run : List Step) (at from : Actor) (notes : Notes) (rest : Rest) → IsForetold shape run at from notes rest
    → Foretells shape run (Take at from) notes rest
unfolding Foretells
take_foretold shape run at from notes rest foretold later reply may done =
    let found = taken_parts at from (in_box (log_of run) from at) done.step done.is_event in
    let was : WasTaken shape later run at from reply found.0 = record {
      held = found.1;
      log = ap (λ l. log_of l at) done.went_on ∙ own_log done.step run at (TakeEntry from found.0) found.2;
      answers = subst (λ s. Answers shape (log_of later) (log_of run) s reply) found.2 done.answers;
    } in
    let is = foretold later reply found.0 (cleared_take shape (log_of run) at from may) was in (
      is.0,
      λ whole. record {
        step = done.step;
        is_event = done.is_event;
        are = subst (λ x. AreNotesOfTake shape at from (log_of run at) x (notes.items ++ rest_notes shape (log_of later) reply rest))
            (sym (ap envelope_in found.2)) (is.1 whole);
      },
    )
  where
    envelope_in : Step → Envelope
    envelope_in s = envelope_of s.1

-- nothing is taken from an empty box
pub unheld : (shape : Shape) (run : List Step) (at from : Actor) (notes : Notes) (rest : Rest) → None ≡ in_box (log_of run) from at
    → Foretells shape run (Take at from) notes rest
unheld shape run at from notes rest none = take_foretold shape run at from notes rest (λ later reply x taken was. absurd (none-some x (none ∙ was.held)))

-- nor by or from one who is no actor of the shape
pub unknown : (shape : Shape) (run : List Step) (at from : Actor) (notes : Notes) (rest : Rest) → ¬ (IsActor shape at × IsActor shape from)
    → Foretells shape run (Take at from) notes rest
unknown shape run at from notes rest other = take_foretold shape run at from notes rest (λ later reply x taken was. absurd (other (taken.actor, taken.other)))

-- notes that are added to none are all
only : (before after : Notes) (more : List Note) → before.items ≡ [] → Adds before after more → after.is_broken ≡ false → after.items ++ [] ≡ more
only before after more empty adds whole = append-nil after.items ∙ (adds whole).1 ∙ ap (λ l. l ++ more) empty

-- ---- a take of which nothing is noted

-- nothing is noted of a traitor's take
of_traitor : (shape : Shape) (p : ℕ) (from : Actor) (log : List Entry) (x : Envelope) → is_traitor shape p ≡ true
    → AreNotesOfTake shape (Replica p) from log x []
of_traitor shape p (Replica q) log x traitor = ((λ role. refl), λ loyal. absurd (true≢false (sym traitor ∙ loyal)))
of_traitor shape p (Client c) log x traitor = ((λ role. refl), λ loyal. absurd (true≢false (sym traitor ∙ loyal)))

role_cases : (shape : Shape) (p : ℕ) → p < shape.n → (is_traitor shape p ≡ true) ⊎ IsLoyal shape (Replica p)
role_cases shape p inside = by_role (is_traitor shape p) refl
  where
    by_role : (traitor : Bool) → is_traitor shape p ≡ traitor → (is_traitor shape p ≡ true) ⊎ IsLoyal shape (Replica p)
    by_role true is = inl is
    by_role false is = inr (inside, is)

-- what is due if the take from this replica is
takes_is : (next : Due) (q : ℕ) → takes_from next q ≡ true → next ≡ TakeFrom q
takes_is (PostTo r) q e = absurd (true≢false (sym e))
takes_is (TakeFrom r) q e = ap TakeFrom (grind (arith, nat_tests))

-- a loyal replica's take from a replica is due
timely : (shape : Shape) (log : List Entry) (p q : ℕ) → is_traitor shape p ≡ false
    → (if is_traitor shape p then false else not (takes_from (due shape log) q)) ≡ false → due shape log ≡ TakeFrom q
timely shape log p q loyal e = takes_is (due shape log) q (by_test (takes_from (due shape log) q)
    (ap (λ b. if b then false else not (takes_from (due shape log) q)) (sym loyal) ∙ e))
  where
    by_test : (b : Bool) → not b ≡ false → b ≡ true
    by_test true e = refl
    by_test false e = absurd (true≢false e)

module _ (shape : Shape) (run : List Step) (p : ℕ) (notes : Notes) (empty : notes.items ≡ []) where
  unnoted : (from : Actor) (later : List Step) (reply : Option AReply) (x : Envelope) → is_traitor shape p ≡ true
      → CanRest shape (log_of later) Nothing
      × (notes.is_broken ≡ false
      → AreNotesOfTake shape (Replica p) from (log_of run (Replica p)) x (notes.items ++ rest_notes shape (log_of later) reply Nothing))
  unnoted from later reply x traitor = (
    tt,
    λ whole. subst (AreNotesOfTake shape (Replica p) from (log_of run (Replica p)) x) (sym (ap (λ l. l ++ []) empty))
        (of_traitor shape p from (log_of run (Replica p)) x traitor),
  )

  -- the replica is a traitor
  pub unloyal : (from : Actor) → ¬ IsLoyal shape (Replica p) → Foretells shape run (Take (Replica p) from) notes Nothing
  unloyal from other = take_foretold shape run (Replica p) from notes Nothing (λ later reply x taken was.
      elim (role_cases shape p taken.actor) [
        | inl traitor ↦ unnoted from later reply x traitor
        | inr loyal ↦ absurd (other loyal)
      ])

  -- the take is not due
  pub undue : (q : ℕ) → due shape (log_of run (Replica p)) ≢ TakeFrom q → Foretells shape run (Take (Replica p) (Replica q)) notes Nothing
  undue q other = take_foretold shape run (Replica p) (Replica q) notes Nothing (λ later reply x taken was.
      elim (role_cases shape p taken.actor) [
        | inl traitor ↦ unnoted (Replica q) later reply x traitor
        | inr loyal ↦ absurd (other (timely shape (log_of run (Replica p)) p q loyal.1 taken.timely))
      ])

-- ---- a take from a client, or by one

pub ask_noted : (shape : Shape) (run : List Step) (p c : ℕ) (before after : Notes) (request : Request) → before.items ≡ [] → IsLoyal shape (Replica p)
    → ((x : Envelope) → in_box (log_of run) (Client c) (Replica p) ≡ Some x → AreAskNotes shape (log_of run (Replica p)) c x (Held request ∷ []))
    → Adds before after (Held request ∷ []) → Foretells shape run (Take (Replica p) (Client c)) after Nothing
ask_noted shape run p c before after request empty loyal are adds = take_foretold shape run (Replica p) (Client c) after Nothing (λ later reply x taken was. (
  tt,
  λ whole. (
    (λ traitor. absurd (true≢false (sym traitor ∙ loyal.1))),
    λ role. subst (AreAskNotes shape (log_of run (Replica p)) c x) (sym (only before after (Held request ∷ []) empty adds whole)) (are x was.held),
  ),
))

pub vote_noted : (shape : Shape) (run : List Step) (c q : ℕ) (before after : Notes) → before.items ≡ []
    → ((x : Envelope) → in_box (log_of run) (Replica q) (Client c) ≡ Some x
    → Adds before after (vote_note shape (state_after shape (log_of run (Client c))) q x ∷ []))
    → Foretells shape run (Take (Client c) (Replica q)) after Reply
vote_noted shape run c q before after empty adds = take_foretold shape run (Client c) (Replica q) after Reply (λ later reply x taken was.
    let note = vote_note shape (state_after shape (log_of run (Client c))) q x in (
      tt,
      λ whole. record {
        reply = reply;
        accepts = subst (λ l. AcceptsBy reply (accepted shape l) (accepted shape (log_of run (Client c)))) was.log was.answers;
        are = ap (λ l. l ++ map Accepted (option_to_list reply)) ((adds x was.held whole).1 ∙ ap (λ l. l ++ note ∷ []) empty);
      },
    ))

-- ---- a post to replica 0

-- a notable post to a replica is plain, and to replica 0
pub plain_first : (p q : ℕ) (pick : Pick) → IsNotable (Post (Replica p) (Replica q) pick) → (q ≡ 0) × (pick ≡ Plain)
plain_first p zero Plain is = (refl, refl)
plain_first p zero (From clients) is = elim is [ ]
plain_first p zero (Begin op) is = elim is [ ]
plain_first p (suc q) pick is = elim is [ ]

pub post_noted : (shape : Shape) (run : List Step) (p q : ℕ) (pick : Pick) (notes : Notes) → (q ≡ 0) × (pick ≡ Plain)
    → (IsLoyal shape (Replica p) → notes.is_broken ≡ false → AreUnproposed shape (Replica p) (log_of run (Replica p)) notes.items)
    → Foretells shape run (Post (Replica p) (Replica q) pick) notes Nothing
unfolding Foretells
post_noted shape run p q pick notes is are =
    subst (λ event. Foretells shape run event notes Nothing) (sym (ap₂ (λ to choice. Post (Replica p) (Replica to) choice) is.0 is.1)) noted
  where
    noted : Foretells shape run (Post (Replica p) (Replica 0) Plain) notes Nothing
    noted later reply may done =
        let clear = cleared shape (log_of run) (Replica p) (Replica 0) Plain may in (
          tt,
          λ whole. record {
            step = done.step;
            is_event = done.is_event;
            are = subst (AreUnproposed shape (Replica p) (log_of run (Replica p))) (sym (append-nil notes.items)) (are (clear.actor, clear.honest) whole);
          },
        )

-- the requests that wait are those of the replica's own slot
pub own_slot : (shape : Shape) (log : List Entry) (p slot : ℕ) (items : List Note) → slot ≡ rounds shape log → sender shape slot ≡ p
    → AreWaiting shape log shape.m items → AreUnproposed shape (Replica p) log items
own_slot shape log p slot items begins own are = (
  (λ is. are),
  λ other. absurd (true≢false (sym ((actor_eq-Decides (Replica p) (sender_of shape (rounds shape log))).1
      (ap Replica (sym own ∙ ap (sender shape) begins))) ∙ other)),
)

-- none wait for the slot of another
pub other_slot : (shape : Shape) (log : List Entry) (p slot : ℕ) (items : List Note) → slot ≡ rounds shape log → sender shape slot ≢ p
    → items ≡ [] → AreUnproposed shape (Replica p) log items
other_slot shape log p slot items begins other none =
    ((λ is. absurd (other (ap (sender shape) begins ∙ sym (number ((actor_eq-Decides (Replica p) (sender_of shape (rounds shape log))).0 is))))), λ is. none)
  where
    number : {q : ℕ} → Replica p ≡ Replica q → p ≡ q
    number e = cc

-- ---- a take from a replica

-- the take from the last replica closes a round
rounds_after : (shape : Shape) (q : ℕ) (x : Envelope) (log : List Entry) → suc q ≡ shape.n
    → rounds shape (TakeEntry (Replica q) x ∷ log) ≡ suc (rounds shape log)
rounds_after shape q x log last = more (actor_eq (Replica q) (Replica (shape.n - 1))) (same q (shape.n - 1) (omega (arith, last)))
    (taken_from (Replica (shape.n - 1)) log)
  where
    same : (a b : ℕ) → a ≡ b → actor_eq (Replica a) (Replica b) ≡ true
    same a b e = grind (arith, nat_tests)

    more : (b : Bool) → b ≡ true → (xs : List Envelope) → length (if b then xs ++ x ∷ [] else xs) ≡ suc (length xs)
    more true e xs = let count = length_push xs x in omega (arith, count)
    more false e xs = absurd (true≢false (sym e))

-- what is found before the take and after it are the notes of a take that closes a round
joined : (closing : Bool) (read kept : List Note) (slot number count t : ℕ) (more : List Note) → (closing ≡ true → number ≡ count)
    → (read ++ (if closing then kept else [])) ++ (Closed t ∷ (if closing then Decided slot number ∷ more else []))
    ≡ read ++ (if closing then kept ++ Closed t ∷ Decided slot count ∷ more else Closed t ∷ [])
joined true read kept slot number count t more same =
    append_assoc read kept (Closed t ∷ Decided slot number ∷ more) ∙ ap (λ k. read ++ (kept ++ Closed t ∷ Decided slot k ∷ more)) (same refl)
joined false read kept slot number count t more same = ap (λ r. r ++ Closed t ∷ []) (append-nil read)

equal_test : (a b : ℕ) → a ≡ b → (a == b) ≡ true
equal_test a b e = grind (arith, nat_tests)

other_test : (a b : ℕ) → a ≢ b → (a == b) ≡ false
other_test a b e = grind (arith, nat_tests)

module _ (shape : Shape) (run : List Step) (p q : ℕ) (before after : Notes) (empty : before.items ≡ []) (loyal : IsLoyal shape (Replica p)) where
  -- the take closes no round
  pub read_noted : suc q ≢ shape.n
      → ((x : Envelope) → in_box (log_of run) (Replica q) (Replica p) ≡ Some x → AddsRead shape (log_of run (Replica p)) x before after [])
      → Foretells shape run (Take (Replica p) (Replica q)) after Nothing
  read_noted other reads = take_foretold shape run (Replica p) (Replica q) after Nothing (λ later reply x taken was.
      let log = log_of run (Replica p) in (
        tt,
        λ whole. (
          (λ traitor. absurd (true≢false (sym traitor ∙ loyal.1))),
          λ role.
              let r = reads x was.held whole in
              record {
                read = r.1;
                is_read = r.2;
                are = append-nil after.items ∙ r.3 ∙ ap (λ l. l ++ (r.1 ++ [])) empty
                    ∙ ap (λ b. r.1 ++ (if b then closing shape (TakeEntry (Replica q) x ∷ log) (rounds shape log) else [])) (sym (other_test (suc q) shape.n other));
              },
        ),
      ))

  -- the take closes a round
  pub last_noted : (round kept count : ℕ) → suc q ≡ shape.n → HasCounts shape (log_of run (Replica p)) (rounds shape (log_of run (Replica p)))
      → round ≡ rounds shape (log_of run (Replica p)) → count ≡ length (acted (decided_requests shape (log_of run (Replica p))))
      → ((x : Envelope) → in_box (log_of run) (Replica q) (Replica p) ≡ Some x → AddsLast shape (log_of run (Replica p)) q x before after kept)
      → Foretells shape run (Take (Replica p) (Replica q)) after (Close (record { replica = p; round = round; kept = kept; acted = count }))
  last_noted round kept count last counts round_is counted reads =
      take_foretold shape run (Replica p) (Replica q) after (Close (record { replica = p; round = round; kept = kept; acted = count })) (λ later reply x taken was.
      let log = log_of run (Replica p) in
      let t = rounds shape log in
      let slot = closed_slots shape t in
      let after_take = TakeEntry (Replica q) x ∷ log in
      let more = outcomes slot (requests_before shape after_take slot) (requests_in (slot_decided shape after_take slot)) in (
        record {
          loyal = loyal;
          round = ap (rounds shape) was.log ∙ (rounds_after shape q x log last ∙ ap suc (sym round_is));
          acted = λ closing. counted ∙ (acted_still shape (TakeEntry (Replica q) x) log counts
              ∙ (ap (λ l. length (acting (requests_before shape l slot))) (sym was.log)
              ∙ ap (λ r. length (acting (requests_before shape (log_of later (Replica p)) (closed_slots shape r)))) (sym round_is)));
        },
        λ whole. (
          (λ traitor. absurd (true≢false (sym traitor ∙ loyal.1))),
          λ role.
              let added = reads x was.held in
              let r = added.read whole in
              record {
                read = r.1;
                is_read = r.2;
                are = ap₂ (λ l n. l ++ n) (r.3 ∙ ap (λ l. l ++ (r.1 ++ (if closes shape t then kept_notes shape after_take slot else []))) empty)
                    (ap₂ (λ l t. closing_notes shape l (record { replica = p; round = t; kept = kept; acted = count })) was.log round_is)
                    ∙ joined (closes shape t) r.1 (kept_notes shape after_take slot) slot kept (length (slot_kept shape after_take slot (suc shape.f))) t more
                    (λ closing. added.count closing whole)
                    ∙ ap (λ b. r.1 ++ (if b then closing shape after_take t else [])) (sym (equal_test (suc q) shape.n last));
              },
        ),
      ))

-- How the parts of a world represent its run when an actor takes.
use Rattle.std.proofs.Common.{◌≡◌, ℕ, false, true, List, [], ◌∷◌, ◌++◌, Option, None, Some, refl, ap, sym, ◌∙◌, arith}
use Rattle.std.specs.Prelude.{slice_set}
use Rattle.std.proofs.lemmas.Bool.{not-false}
use Rattle.std.proofs.lemmas.Bool.Decides.{nat_tests}
use Rattle.dsr_base.specs.Boxes.{box_at, with_box, without_item}
use Rattle.dsr_base.specs.Member.{In, here}
use Rattle.dsr_base.specs.declared.boxes.MailBox.{MailBox}
use Rattle.dsr_base.proofs.MemberLemmas.{In-append_right}
use Rattle.dsr_names.specs.Places.{place_of}
use Rattle.dsr_names.specs.Shape.{Shape, IsActor, IsAllowed}
use Rattle.dsr_names.specs.declared.actor.Actor.{Actor}
use Rattle.dsr_names.specs.declared.actor.Actor.TheVariants.{Replica, Client}
use Rattle.dsr_desk.specs.Signature.{Signature}
use Rattle.dsr_ledger.specs.declared.reply.Reply.{Reply as AReply}
use Rattle.dsr_envelope.specs.declared.envelope.Envelope.{Envelope}
use Rattle.dsr_envelope.specs.declared.entry.Entry.TheVariants.{Take as TakeEntry}
use Rattle.dsr_envelope.specs.Log.{due, posted_to, taken_from}
use Rattle.dsr_node.specs.Conduct.{is_own_client, is_undue}
use Rattle.dsr_node.specs.Node.{MayTake, Plays, TakesReply}
use Rattle.dsr_node.specs.declared.node.Node.{Node}
use Rattle.dsr_node.specs.declared.node.Node.TheVariants.{Loyal, Traitor, Client as ClientNode}
use Rattle.dsr_node.proofs.Lemmas.{take_due}
use Rattle.dsr_play.specs.declared.event.Event.TheVariants.{Take}
use Rattle.dsr_run.specs.Step.{Step, Logs, log_of}
use Rattle.dsr_run.proofs.Lemmas.{known_still, posted_entry, posted_within}
use Rattle.dsr_world.specs.Event.{is_full, refusals, refusal_of, Answers, HasDone}
use Rattle.dsr_world.specs.Support.Boxes.{held_in}
use Rattle.dsr_world.specs.Support.StageFields.{AreParts}
use Rattle.dsr_world.proofs.NextSteps.{takes_next}
use Rattle.dsr_world.proofs.Stepping.{log_own, log_other, played_with, boxes_taken, last_of}
use Rattle.dsr_world.proofs.Worlds.{none_holds, actors_are}

-- a take that nothing refuses
pub record IsTaken (shape : Shape) (logs : Logs) (at from : Actor) : Type 0 where
  pub actor : IsActor shape at
  pub other : IsActor shape from
  pub own : is_own_client at from ≡ false
  pub timely : is_undue shape (logs at) at from ≡ false
  pub full : is_full logs from at ≡ true

pub cleared_take : (shape : Shape) (logs : Logs) (at from : Actor) → refusal_of shape logs (Take at from) ≡ None → IsTaken shape logs at from
cleared_take shape logs at from e =
    let none = none_holds (refusals shape logs (Take at from)) e in
    let actors = actors_are shape at from none.0 in
    record {
      actor = actors.0;
      other = actors.1;
      own = none.1.0;
      timely = none.1.1.0;
      full = not-false (is_full logs from at) none.1.1.1.0;
    }

-- it is not a client's take from itself
pub not_own : (at from : Actor) → is_own_client at from ≡ false → at ≡ from → (c : ℕ) → at ≡ Client c → ⊥
not_own (Replica p) from own same c is = absurd cc
not_own (Client d) (Replica q) own same c is = absurd cc
not_own (Client d) (Client e) own same c is =
    let equal : d ≡ e = cc in
    grind (arith, nat_tests)

module _ (shape : Shape) (run : List Step) (nodes : List Node) (rows : List (List (MailBox Envelope))) (keys : List Actor) (known : List Signature)
    (are : AreParts shape run nodes rows keys known) where
  -- what is in the box was posted and not taken
  box_holds : (at from : Actor) (x : Envelope) → IsActor shape at → IsActor shape from → (box_at rows (place_of shape from) (place_of shape at)).item ≡ Some x
      → posted_to at (log_of run from) ≡ taken_from from (log_of run at) ++ x ∷ []
  box_holds at from x actor other full =
      (are.boxes.each from at other actor).holds ∙ ap (λ o. taken_from from (log_of run at) ++ held_in o) full

  -- its node may take it
  pub may_take : (at from : Actor) (x : Envelope) (node : Node) → IsTaken shape (log_of run) at from
      → (box_at rows (place_of shape from) (place_of shape at)).item ≡ Some x → Plays shape at (log_of run at) node → MayTake node from x
  may_take (Replica p) (Replica q) x (Loyal r) is full plays =
      plays.stands.due_is ∙ (ap (λ s. due s (log_of run (Replica p))) plays.shape_is ∙ take_due shape (log_of run (Replica p)) p q plays.honest is.timely)
  may_take (Replica p) (Client c) x (Loyal r) is full plays = rw plays.shape_is is.other
  may_take (Client c) from x (Loyal r) is full plays = absurd plays
  may_take at from x Traitor is full plays = tt
  may_take (Replica p) from x (ClientNode y) is full plays = absurd plays
  may_take (Client c) from x (ClientNode y) is full plays =
      let last : In x (posted_to (Client c) (log_of run from)) =
      rw (box_holds (Client c) from x is.actor is.other full) (In-append_right x (taken_from from (log_of run (Client c))) (x ∷ []) (here refl)) in (
        rw plays.shape_is is.other,
        λ e. not_own (Client c) from is.own (sym (e ∙ ap Client plays.me)) c refl,
        posted_within shape run are.is_run from (Client c) x (posted_entry (Client c) (log_of run from) x last),
      )

  -- the parts after an actor's node has made room
  pub parts_with_room : (at : Actor) (node : Node) → IsActor shape at → Plays shape at (log_of run at) node
      → AreParts shape run (slice_set nodes (place_of shape at) node) rows keys known
  parts_with_room at node actor plays =
      let played = played_with shape nodes (log_of run) (log_of run) at are.played actor (λ other apart. refl) node plays in
      assumption (played, are)

  -- the parts after the take
  pub parts_after_take : (at from : Actor) (x : Envelope) (node : Node) → IsAllowed shape → IsTaken shape (log_of run) at from
      → (box_at rows (place_of shape from) (place_of shape at)).item ≡ Some x → Plays shape at (TakeEntry from x ∷ log_of run at) node
      → AreParts shape ((at, TakeEntry from x) ∷ run) (slice_set nodes (place_of shape at) node)
      (with_box rows (place_of shape from) (place_of shape at) (without_item (box_at rows (place_of shape from) (place_of shape at)))) keys known
  parts_after_take at from x node allowed is full plays =
      let step : Step = (at, TakeEntry from x) in
      let next = takes_next shape allowed run are.is_run at from x is.actor is.other (not_own at from is.own) is.timely (box_holds at from x is.actor is.other full) in
      record {
        is_run = (are.is_run, next);
        played = played_with shape nodes (log_of run) (log_of (step ∷ run)) at are.played is.actor (log_other step run) node (rw (log_own step run) plays);
        boxes = boxes_taken shape run rows are.boxes from at x next;
        held = are.held;
        knows = λ p traitor. known_still shape run known step (are.knows p traitor) (λ t y e loyal. cc);
      }

  -- the take is the event
  pub done_take : (at from : Actor) (x : Envelope) (reply : Option AReply) → IsActor shape at → IsActor shape from
      → (box_at rows (place_of shape from) (place_of shape at)).item ≡ Some x
      → TakesReply shape at (log_of run at) from x reply → HasDone shape ((at, TakeEntry from x) ∷ run) run (Take at from) reply
  done_take at from x reply actor other full takes = record {
    step = (at, TakeEntry from x);
    is_event = rw (box_holds at from x actor other full, last_of (taken_from from (log_of run at)) x);
    went_on = refl;
    answers = answers_of at takes;
  }
    where
      answers_of : (a : Actor) → TakesReply shape a (log_of run a) from x reply
          → Answers shape (log_of ((a, TakeEntry from x) ∷ run)) (log_of run) (a, TakeEntry from x) reply
      answers_of (Replica p) takes = takes
      answers_of (Client c) takes = rw (log_own (Client c, TakeEntry from x) run) takes

-- How the parts of a world represent its run when a traitor posts, and when a client posts its seen front.
use Rattle.std.proofs.Common.{◌≡◌, ◌≢◌, ◌↔◌, ℕ, ◌<◌, Bool, true, false, List, ◌∷◌, None, ◌⊎◌, inl, inr, refl, sym, arith}
use Rattle.std.specs.Prelude.{Any}
use Rattle.std.proofs.lemmas.Bool.{not-false}
use Rattle.std.proofs.lemmas.Bool.Decides.{nat_tests}
use Rattle.dsr_base.specs.Boxes.{box_at, with_box, with_item}
use Rattle.dsr_base.specs.Member.{In}
use Rattle.dsr_base.specs.declared.boxes.MailBox.{MailBox}
use Rattle.dsr_names.specs.Places.{place_of}
use Rattle.dsr_names.specs.Shape.{Shape, is_traitor, IsActor, IsAllowed}
use Rattle.dsr_names.specs.declared.actor.Actor.{Actor}
use Rattle.dsr_names.specs.declared.actor.Actor.TheVariants.{Replica, Client}
use Rattle.dsr_names.specs.declared.refusal.Refusal.TheVariants.{Forged}
use Rattle.dsr_desk.specs.Signature.{Signature}
use Rattle.dsr_envelope.specs.declared.envelope.Envelope.{Envelope}
use Rattle.dsr_envelope.specs.declared.envelope.Envelope.TheVariants.{Seen}
use Rattle.dsr_envelope.specs.declared.entry.Entry.{Entry}
use Rattle.dsr_envelope.specs.declared.entry.Entry.TheVariants.{Post as PostEntry}
use Rattle.dsr_envelope.specs.Envelope.{Carries}
use Rattle.dsr_envelope.specs.Limits.{IsEnvelope}
use Rattle.dsr_client.specs.State.{seen}
use Rattle.dsr_script.specs.Held.{IsHeldOrKnown, IsUnforged}
use Rattle.dsr_node.specs.Conduct.{is_traitor_of, are_two_clients}
use Rattle.dsr_node.specs.Node.{Plays}
use Rattle.dsr_node.specs.declared.node.Node.{Node}
use Rattle.dsr_node.specs.declared.node.Node.TheVariants.{Loyal, Traitor, Client as ClientNode}
use Rattle.dsr_play.specs.declared.event.Event.TheVariants.{Plant, Tell}
use Rattle.dsr_run.specs.Run.{IsTraitor, IsMadeOrPosted, HasPosted, ForgesNothing}
use Rattle.dsr_run.specs.Step.{Step, Logs, log_of}
use Rattle.dsr_run.proofs.Lemmas.{actors_within, known_still, posted_made, post_next}
use Rattle.dsr_world.specs.Event.{is_full, is_used_up, refusals, refusal_of, HasDone, IsRefusedBy, IsForgedAtLast}
use Rattle.dsr_world.specs.Support.StageFields.{AreParts}
use Rattle.dsr_world.proofs.NextSteps.{posts_left}
use Rattle.dsr_world.proofs.Stepping.{log_own, log_other, played_on}
use Rattle.dsr_world.proofs.Worlds.{none_holds, actors_are, loyal_is, room_for, parts_posted, learned_post, post_answers}

-- ---- a client posts its seen front to another

-- to post its seen front leaves a client as it is
told_plays : (shape : Shape) (c d : ℕ) (log : List Entry) (x : Envelope) (node : Node) → Plays shape (Client c) log node
    → Plays shape (Client c) (PostEntry (Client d) x ∷ log) node
told_plays shape c d log x (Loyal r) plays = absurd plays
told_plays shape c d log x Traitor plays = absurd plays
told_plays shape c d log x (ClientNode y) plays = assumption plays

-- a client's post of its seen front that nothing refuses
pub record IsTold (shape : Shape) (logs : Logs) (from to : Actor) : Type 0 where
  pub c : ℕ
  pub d : ℕ
  pub from_is : from ≡ Client c
  pub to_is : to ≡ Client d
  pub actor : IsActor shape from
  pub other : IsActor shape to
  pub apart : c ≢ d
  pub used : is_used_up logs from to ≡ false
  pub room : is_full logs from to ≡ false

two_clients : (from to : Actor) → are_two_clients from to ≡ true → (c : ℕ) × (d : ℕ) × (from ≡ Client c) × (to ≡ Client d) × (c ≢ d)
two_clients (Replica p) to e = absurd cc
two_clients (Client c) (Replica q) e = absurd cc
two_clients (Client c) (Client d) e = (c, d, refl, refl, λ same. grind (arith, nat_tests))

pub cleared_tell : (shape : Shape) (logs : Logs) (from to : Actor) → refusal_of shape logs (Tell from to) ≡ None → IsTold shape logs from to
cleared_tell shape logs from to e =
    let none = none_holds (refusals shape logs (Tell from to)) e in
    let actors = actors_are shape from to none.0 in
    let two = two_clients from to (not-false (are_two_clients from to) none.1.0) in
    record {
      c = two.0;
      d = two.1;
      from_is = two.2;
      to_is = two.3;
      actor = actors.0;
      other = actors.1;
      apart = two.4;
      used = none.1.1.0;
      room = none.1.1.1.0;
    }

-- a traitor's post that nothing but its signatures refuses
pub record IsPlanted (shape : Shape) (logs : Logs) (from to : Actor) : Type 0 where
  pub p : ℕ
  pub from_is : from ≡ Replica p
  pub actor : IsActor shape from
  pub other : IsActor shape to
  pub traitor : is_traitor shape p ≡ true
  pub used : is_used_up logs from to ≡ false
  pub room : is_full logs from to ≡ false

traitor_is : (shape : Shape) (from : Actor) → is_traitor_of shape from ≡ true → (p : ℕ) × (from ≡ Replica p) × (is_traitor shape p ≡ true)
traitor_is shape (Replica p) e = (p, refl, e)
traitor_is shape (Client c) e = absurd cc

pub cleared_plant : (shape : Shape) (logs : Logs) (from to : Actor) (x : Envelope) → refusal_of shape logs (Plant from to x) ≡ None → IsPlanted shape logs from to
cleared_plant shape logs from to x e =
    let none = none_holds (refusals shape logs (Plant from to x)) e in
    let actors = actors_are shape from to none.0 in
    let who = traitor_is shape from (not-false (is_traitor_of shape from) none.1.0) in
    record {
      p = who.0;
      from_is = who.1;
      actor = actors.0;
      other = actors.1;
      traitor = who.2;
      used = none.1.1.0;
      room = none.1.1.1.0;
    }

-- a traitor's node plays whatever its log
planted_plays : (shape : Shape) (p : ℕ) (log : List Entry) (entry : Entry) (node : Node) → is_traitor shape p ≡ true → Plays shape (Replica p) log node
    → Plays shape (Replica p) (entry ∷ log) node
planted_plays shape p log entry (Loyal r) traitor plays = absurd cc
planted_plays shape p log entry Traitor traitor plays = plays
planted_plays shape p log entry (ClientNode y) traitor plays = absurd plays

-- ---- posts that leave their actor's node as it is

module _ (shape : Shape) (run : List Step) (nodes : List Node) (rows : List (List (MailBox Envelope))) (keys : List Actor) (known : List Signature)
    (are : AreParts shape run nodes rows keys known) where
  pub parts_after_tell : (c d : ℕ) (new : List Signature) → IsAllowed shape → c < shape.m → d < shape.m → c ≢ d
      → is_used_up (log_of run) (Client c) (Client d) ≡ false → is_full (log_of run) (Client c) (Client d) ≡ false
      → ((holder : Actor) → Any (λ h. h ≡ holder) keys → (s : Signature)
      → In s new ↔ (In s known ⊎ Carries (Seen (seen shape (log_of run (Client c)))) s))
      → AreParts shape ((Client c, PostEntry (Client d) (Seen (seen shape (log_of run (Client c))))) ∷ run) nodes
      (with_box rows (place_of shape (Client c)) (place_of shape (Client d))
      (with_item (box_at rows (place_of shape (Client c)) (place_of shape (Client d))) (Seen (seen shape (log_of run (Client c)))))) keys new
  parts_after_tell c d new allowed actor other apart used room learned =
      let log = log_of run (Client c) in
      let x = Seen (seen shape log) in
      let step : Step = (Client c, PostEntry (Client d) x) in
      let next = post_next shape allowed run are.is_run (Client c) (Client d) x actor other (other, (λ e. apart (sym e)), refl) tt
      (posts_left (log_of run) (Client c) (Client d) used) (room_for shape run nodes rows keys known are (Client c) (Client d) actor other room) in
      let played = played_on shape nodes (log_of run) (log_of (step ∷ run)) (Client c) are.played actor (log_other step run)
      (λ y plays. rw (log_own step run) (told_plays shape c d log x y plays)) in
      parts_posted shape run nodes rows keys known are (Client c) (Client d) x nodes new next played
      (learned_post shape run nodes rows keys known are (Client c) (Client d) x new actor learned)

  -- what is held or known can be sent
  pub unforged_made : (p : ℕ) → IsTraitor shape (Replica p) → (x : Envelope) → IsUnforged keys known x → (s : Signature) → Carries x s
      → IsMadeOrPosted shape (log_of run) s
  unforged_made p traitor x unforged s carried = elim (unforged s carried) [
    | inl held ↦ inl ((are.held s.signer).0 held)
    | inr old ↦ let was = (are.knows p traitor).from s old in posted_made shape run are.is_run was.0 s was.2
  ]

  -- and what can be sent is held or known
  pub made_held : (p : ℕ) → IsTraitor shape (Replica p) → (s : Signature) → IsMadeOrPosted shape (log_of run) s → IsHeldOrKnown keys known s
  made_held p traitor s (inl made) = inl ((are.held s.signer).1 made)
  made_held p traitor s (inr posted) =
      by_role s.signer (is_traitor_of shape s.signer) refl (actors_within shape run are.is_run s.signer (PostEntry posted.to posted.envelope) posted.posted).0 posted
    where
      by_role : (a : Actor) (b : Bool) → is_traitor_of shape a ≡ b → IsActor shape a → HasPosted (log_of run a) s → Any (λ h. h ≡ a) keys ⊎ In s known
      by_role a false good inside h = inr ((are.knows p traitor).all s a (loyal_is shape a inside good) h)
      by_role (Replica q) true bad inside h = inl ((are.held (Replica q)).1 (inside, bad))
      by_role (Client c) true bad inside h = absurd cc

  pub made_unforged : (p : ℕ) → IsTraitor shape (Replica p) → (x : Envelope) → ((s : Signature) → Carries x s → IsMadeOrPosted shape (log_of run) s)
      → IsUnforged keys known x
  made_unforged p traitor x made s carried = made_held p traitor s (made s carried)

  pub parts_after_plant : (p : ℕ) (to : Actor) (x : Envelope) → IsAllowed shape → p < shape.n → IsActor shape to → is_traitor shape p ≡ true → IsEnvelope x
      → is_used_up (log_of run) (Replica p) to ≡ false → is_full (log_of run) (Replica p) to ≡ false → ForgesNothing shape (log_of run) (PostEntry to x)
      → AreParts shape ((Replica p, PostEntry to x) ∷ run) nodes
      (with_box rows (place_of shape (Replica p)) (place_of shape to) (with_item (box_at rows (place_of shape (Replica p)) (place_of shape to)) x)) keys known
  parts_after_plant p to x allowed inside other traitor fits used room forges =
      let step : Step = (Replica p, PostEntry to x) in
      let next = post_next shape allowed run are.is_run (Replica p) to x inside other ((λ honest. absurd cc), λ same. forges) (λ same. fits)
      (posts_left (log_of run) (Replica p) to used) (room_for shape run nodes rows keys known are (Replica p) to inside other room) in
      let played = played_on shape nodes (log_of run) (log_of (step ∷ run)) (Replica p) are.played inside (log_other step run)
      (λ y plays. rw (log_own step run) (planted_plays shape p (log_of run (Replica p)) (PostEntry to x) y traitor plays)) in
      parts_posted shape run nodes rows keys known are (Replica p) to x nodes known next played
      (λ q bad. known_still shape run known step (are.knows q bad) (λ t y e loyal. cc))

-- the post of the seen front is the event
pub done_tell : (shape : Shape) (run : List Step) (c : ℕ) (to : Actor)
    → HasDone shape ((Client c, PostEntry to (Seen (seen shape (log_of run (Client c))))) ∷ run) run (Tell (Client c) to) None
done_tell shape run c to =
    let x = Seen (seen shape (log_of run (Client c))) in
    record { step = (Client c, PostEntry to x); is_event = refl; went_on = refl; answers = post_answers shape run (Client c) to x }

-- what is refused as forged has a forged signature
pub forged_at_last : (shape : Shape) (logs : Logs) (from to : Actor) (x : Envelope) → IsRefusedBy shape logs (Plant from to x) Forged
    → IsForgedAtLast shape logs (Plant from to x)
forged_at_last shape logs from to x (inl row) = absurd (grind arith)
forged_at_last shape logs from to x (inr (inl forged)) = forged.1
forged_at_last shape logs from to x (inr (inr memory)) = absurd cc

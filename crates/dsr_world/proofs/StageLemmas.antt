-- What the fields of a stage say of it: its run, the node and the letter at an actor's place, and the parts after a step. And how kept
-- steps go on with the run.
use Rattle.std.proofs.Common.{◌≡◌, ◌↔◌, ◌⊎◌, ℕ, ◌<◌, true, Bool, List, ◌∷◌, Option, None, Any, reverse, slice_index_or, sym, ◌∙◌, arith}
use Rattle.std.proofs.lemmas.List.{get_or_default}
use Rattle.dsr_base.specs.Boxes.{box_at, with_box, with_item}
use Rattle.dsr_base.specs.Member.{In}
use Rattle.dsr_names.specs.Places.{place_of}
use Rattle.dsr_names.specs.Shape.{Shape, IsActor, IsAllowed}
use Rattle.dsr_names.specs.declared.actor.Actor.{Actor}
use Rattle.dsr_names.specs.declared.actor.Actor.TheVariants.{Client}
use Rattle.dsr_names.proofs.PlaceLemmas.{place_below}
use Rattle.dsr_desk.specs.Signature.{Signature}
use Rattle.dsr_envelope.specs.declared.entry.Entry.TheVariants.{Post}
use Rattle.dsr_envelope.specs.declared.envelope.Envelope.{Envelope}
use Rattle.dsr_envelope.specs.declared.envelope.Envelope.TheVariants.{Seen}
use Rattle.dsr_envelope.specs.Envelope.{Carries}
use Rattle.dsr_envelope.specs.Limits.{IsEnvelope}
use Rattle.dsr_client.specs.State.{seen}
use Rattle.dsr_node.specs.Node.{IsClient, Plays}
use Rattle.dsr_node.specs.declared.node.Node.{Node}
use Rattle.dsr_node.proofs.Lemmas.{client_plays}
use Rattle.dsr_run.specs.Run.{IsRun, ForgesNothing}
use Rattle.dsr_run.specs.Step.{Step, log_of}
use Rattle.dsr_world.specs.Stage.{Stage}
use Rattle.dsr_world.specs.Support.StageFields.{AreParts, AreLetters, IsStageFields, stage_of}
use Rattle.dsr_world.specs.declared.stage.Stage.TheInside.{Inside}
use Rattle.dsr_world.proofs.Repeating.{letters_of_traitor, letters_told}
use Rattle.dsr_world.proofs.WorldPosts.{IsPlanted, IsTold, parts_after_plant, parts_after_tell}

-- the fields after a post that leaves the nodes and the stored letters as they are
abbrev pub AreAfterPost : Inside → Actor → Actor → Envelope → List Signature → Type 0
AreAfterPost a from to x known =
    let poster = place_of a.shape from in
    let taker = place_of a.shape to in
    AreParts a.shape ((from, Post to x) ∷ a.steps) a.nodes.items (with_box a.boxes poster taker (with_item (box_at a.boxes poster taker) x)) a.keys.items known
    × AreLetters a.shape (log_of ((from, Post to x) ∷ a.steps)) a.letters.items

module _ (a : Inside) (fields : IsStageFields a) where
  -- the node at an actor's place plays it
  pub plays_at : (who : Actor) → IsActor a.shape who → {place : ℕ} → place ≡ place_of a.shape who → {x : Node} → x ≡ slice_index_or a.nodes.items place x
      → Plays a.shape who (log_of a.steps who) x
  plays_at who inside place_is {x} here = rw here (rw place_is (fields.0.played.each who inside x))

  -- the fields after a traitor's post that nothing refuses
  pub planted : (from to : Actor) (x : Envelope) (is : IsPlanted a.shape (log_of a.steps) from to) → IsAllowed a.shape → IsEnvelope x
      → ForgesNothing a.shape (log_of a.steps) (Post to x) → AreAfterPost a from to x a.known.signatures
  planted from to x is allowed within forges = rw is.from_is (
    parts_after_plant _ _ _ _ _ _ fields.0 is.p to x allowed (rw is.from_is at is.actor) is.other is.traitor within (rw is.from_is at is.used)
        (rw is.from_is at is.room) forges,
    letters_of_traitor a.shape a.steps a.letters.items fields.1 is.p (Post to x) is.traitor,
  )

  -- and after a client's post of its seen front
  pub told : (from to : Actor) (x : Envelope) (new : List Signature) (is : IsTold a.shape (log_of a.steps) from to) → IsAllowed a.shape
      → x ≡ Seen (seen a.shape (log_of a.steps (Client is.c)))
      → ((holder : Actor) → Any (λ h. h ≡ holder) a.keys.items → (s : Signature) → In s new ↔ (In s a.known.signatures ⊎ Carries x s))
      → AreAfterPost a from to x new
  told from to x new is allowed front learned = rw (front, is.from_is, is.to_is) (
    parts_after_tell _ _ _ _ _ _ fields.0 is.c is.d new allowed (rw is.from_is at is.actor) (rw is.to_is at is.other) is.apart
        (rw (is.from_is, is.to_is) at is.used) (rw (is.from_is, is.to_is) at is.room) (rw front at learned),
    letters_told a.shape a.steps a.letters.items fields.1 is.c is.d (Seen (seen a.shape (log_of a.steps (Client is.c)))),
  )

-- the node is a client, and plays this client of the stage
abbrev pub IsNodeOf : Stage → ℕ → Node → Type 0
IsNodeOf w c x = IsClient x × Plays w.shape (Client c) (log_of w.run (Client c)) x

-- the same of the stage that the fields represent
module _ (a : Inside) {w : Stage} (is : stage_of a ≡ w) (fields : IsStageFields a) where
  pub run_of : IsAllowed a.shape → IsRun w.shape w.run × IsAllowed w.shape
  run_of allowed = rw (← is) (fields.0.is_run, allowed)

  pub fields_of : AreParts w.shape w.run a.nodes.items a.boxes a.keys.items a.known.signatures × AreLetters w.shape (log_of w.run) a.letters.items
  fields_of = rw (← is) fields

  pub node_at : (who : Actor) → IsActor w.shape who → {place : ℕ} → place ≡ place_of a.shape who → {x : Node} → x ≡ slice_index_or a.nodes.items place x
      → Plays w.shape who (log_of w.run who) x
  node_at who inside place_is here = rw (← is) (plays_at a fields who (rw (← is) at inside) place_is here)

  pub client_at : (c : ℕ) → c < w.shape.m → {place : ℕ} → place ≡ place_of a.shape (Client c) → {x : Node} → x ≡ slice_index_or a.nodes.items place x
      → IsNodeOf w c x
  client_at c inside place_is {x} here =
      let plays = node_at (Client c) inside place_is here in
      (client_plays _ _ _ _ plays, plays)

  -- after the test that it is a client of the shape
  pub client_found : (c : ℕ) {number m : ℕ} → number < m → number ≡ c → m ≡ a.shape.m → {place : ℕ} → place ≡ place_of a.shape (Client c)
      → {x : Node} → x ≡ slice_index_or a.nodes.items place x → IsNodeOf w c x
  client_found c below number_is m_is place_is here = client_at c (rw (← is) (omega (arith, below, number_is, m_is))) place_is here

  -- the letter that is stored at an actor's place, if any
  pub stored_at : (who : Actor) → IsActor w.shape who → {place : ℕ} → place ≡ place_of a.shape who → {x : Option Envelope}
      → x ≡ slice_index_or a.letters.items place x → slice_index_or a.letters.items (place_of w.shape who) None ≡ x
  stored_at who inside {place} place_is {x} here =
      let below = place_below w.shape who inside in
      let count = fields_of.1.count in
      let place_here : place_of w.shape who ≡ place = rw (← is) (sym place_is) in
      get_or_default a.letters.items (place_of w.shape who) None x (omega (arith, below, count)) ∙ rw place_here (sym here)

-- once there is room for one more step, entries that hold the steps of a run also hold the next one
pub one_more : {shape : Shape} {steps newer : List Step} {w : Stage} {step : Step} {before room after : Bool} {items more now : List Step}
    → ◌≡◌ {A = Stage} (record { shape = shape; run = steps }) w → newer ≡ step ∷ steps → after ≡ room → room ≡ before → more ≡ items
    → (room ≡ true → before ≡ true → now ≡ step ∷ reverse more) → (before ≡ true → reverse items ≡ w.run) → after ≡ true → now ≡ newer
one_more is grew after_kept room_kept same added are now_kept =
    let room = sym after_kept ∙ now_kept in
    let was = sym room_kept ∙ room in
    let last = added room was in
    let earlier = are was in
    cc

-- How seats come and go by the places of their actors.
use Rattle.std.proofs.Common.{◌≡◌, ◌≢◌, ℕ, zero, suc, ◌+◌, ◌-◌, ◌<◌, ◌≤◌, nat_lt, Bool, true, false, List, [], ◌∷◌, ◌++◌, length, append-nil, append_assoc, ◌⊎◌, inl, inr, refl, ap, sym, ◌∙◌, subst, add-one, arith}
use Rattle.std.specs.List.{flat_map}
use Rattle.std.specs.Prelude.{map, slice_index_or}
use Rattle.std.proofs.lemmas.Bool.{cases_lt, cond_both, ltb-true, ltb-false, true_from_ne_false, not_from_false}
use Rattle.std.proofs.lemmas.List.{append_cancel_left, map-append, length-append, length-map, length_push, nil_from_length, flat_map_more, get_or_append_left, get_or_push}
use Rattle.std.proofs.Math.Seq.{get_or-append_seam}
use Rattle.dsr_base.specs.Growth.{IsPrefixOf}
use Rattle.dsr_base.specs.Member.{In, here, there}
use Rattle.dsr_names.specs.Places.{size, place_of, actor_at}
use Rattle.dsr_names.specs.Shape.{Shape, IsActor, IsLoyal, is_traitor}
use Rattle.dsr_names.specs.declared.actor.Actor.{Actor}
use Rattle.dsr_names.specs.declared.actor.Actor.TheVariants.{Replica, Client}
use Rattle.dsr_envelope.specs.declared.entry.Entry.{Entry}
use Rattle.dsr_names.proofs.PlaceLemmas.{same_place, place_of_actor}
use Rattle.dsr_node.specs.Node.{Plays}
use Rattle.dsr_node.specs.declared.node.Node.{Node}
use Rattle.dsr_boxes.specs.Pass.{SharedBoxes, Pass, IsPassOf, new_pass, new_passes}
use Rattle.dsr_mail.specs.Leaving.{pass_if, AreLeft, IsLogged, AreLeftOrLogged, AreJoined}
use Rattle.dsr_mail.specs.Seats.{is_loyal_replica, is_traitor_replica, actor_if, actors_below, actors_of}

-- ---- the seats that are left

-- the first leaves, and the others stay
one_left : (seat : Pass) (others : List Pass) (s : Pass) → In s (seat ∷ others) → In s others ⊎ (s ≡ seat)
one_left seat others s (here e) = inr (sym e)
one_left seat others s (there h) = inl h

module _ (mail : SharedBoxes) (kind : Shape → Actor → Bool) where
  -- the actor of a pass
  abbrev whose : Pass → Actor
  whose pass = pass.actor

  -- the actors at more places begin with those at fewer
  begins : (k n : ℕ) → k ≤ n → IsPrefixOf (actors_below kind mail.shape k) (actors_below kind mail.shape n)
  begins k zero less = let same : k ≡ 0 = omega arith in rw same ([], refl)
  begins k (suc n) less = elim (cases_lt n k) [
    | inl late ↦ let same : k ≡ suc n = omega arith in rw same ([], rw append-nil)
    | inr early ↦
        let shorter = begins k n early in
        let last = actor_if (kind mail.shape (actor_at mail.shape n)) (actor_at mail.shape n) in
        (shorter.0 ++ last, ap (λ l. l ++ last) shorter.1 ∙ append_assoc (actors_below kind mail.shape k) shorter.0 last)
  ]

  -- once the seat of the actor at this place has left, with its node
  pub record HasLeft (k : ℕ) (left others : List Pass) (pass : Pass) (node : Node) : Type 0 where
    pub later : AreLeft mail kind (suc k) others
    pub moves : (s : Pass) → In s left → In s others ⊎ (s ≡ pass)
    pub own : IsPassOf mail pass
    pub actor : pass.actor ≡ actor_at mail.shape k
    pub plays : Plays mail.shape pass.actor pass.log node

  -- if the actor at the place is of the kind, its seat is the first that is left
  module _ (k : ℕ) (inside : k < size mail.shape) (is : kind mail.shape (actor_at mail.shape k) ≡ true) where
    rest : (left : List Pass) → AreLeft mail kind k left
        → (more : List Actor) × (map whose left ≡ actor_at mail.shape k ∷ more) × (actors_below kind mail.shape (suc k) ++ more ≡ actors_of kind mail.shape)
    rest left are =
        let whole = begins (suc k) (size mail.shape) inside in
        let before = actors_below kind mail.shape k in
        let own = actor_if (kind mail.shape (actor_at mail.shape k)) (actor_at mail.shape k) in
        let same = append_cancel_left before (map whose left) (own ++ whole.0) (are.actors ∙ (whole.1 ∙ append_assoc before own whole.0)) in
        (whole.0, same ∙ ap (λ b. actor_if b (actor_at mail.shape k) ++ whole.0) is, sym whole.1)

    pub left_some : (left : List Pass) → AreLeft mail kind k left → left ≢ []
    left_some left are none = let r = rest left are in cc

    pub has_left : (left others : List Pass) (seat x pass : Pass) (node : Node) → AreLeft mail kind k left → left ≡ seat ∷ others → x ≡ seat → pass ≡ x
        → Plays x.shape x.actor x.log node → HasLeft k left others pass node
    has_left left others seat x pass node left_are e x_is same plays = rw (same, x_is, e) (record {
      later = record {
        passes = λ j d less. are.passes (suc j) d (omega (arith, less));
        actors = let r = rest (seat ∷ others) are in cc;
      };
      moves = one_left seat others;
      own = own;
      actor = let r = rest (seat ∷ others) are in cc;
      plays = rw (← own.1) (rw x_is at plays);
    })
      where
        are : AreLeft mail kind k (seat ∷ others)
        are = rw e at left_are

        own : IsPassOf mail seat
        own = are.passes 0 seat (omega arith)

-- ---- kinds

-- the kind of the actor at a place, told of an equal actor by an equal shape
pub kind_at : (kind : Shape → Actor → Bool) (shape s : Shape) (place : ℕ) (a : Actor) → s ≡ shape → a ≡ actor_at s place → kind s a ≡ true
    → kind shape (actor_at shape place) ≡ true
kind_at kind shape s place a same at is = rw (← same, ← at) is

pub loyal_kind : (shape : Shape) (a : Actor) (p : ℕ) → a ≡ Replica p → IsLoyal shape a → is_loyal_replica shape a ≡ true
loyal_kind shape a p e loyal = rw e (not_from_false (is_traitor shape p) (rw e at loyal).1)

pub traitor_kind : (shape : Shape) (a : Actor) (p : ℕ) → a ≡ Replica p → IsActor shape a → (IsLoyal shape a → ⊥) → is_traitor_replica shape a ≡ true
traitor_kind shape a p e inside disloyal = rw e (true_from_ne_false (is_traitor shape p) (λ loyal. disloyal (rw e (rw e at inside, loyal))))

-- ---- the logs

-- of the seats of a kind those from a place on are left, and the logs of the others are at the places of their actors
pub record AreLeaving (mail : SharedBoxes) (kind : Shape → Actor → Bool) (k : ℕ) (logs : List (List Entry)) (left seats : List Pass) : Type 0 where
  pub left_are : AreLeft mail kind k left
  pub each : AreLeftOrLogged mail.shape logs left seats

module _ (mail : SharedBoxes) (kind : Shape → Actor → Bool) (k : ℕ) (logs : List (List Entry)) (left seats : List Pass)
    (are : AreLeaving mail kind k logs left seats) where
  -- one log more: that of the seat that has left
  pub leaving_more : (others : List Pass) (seat : Pass) → IsActor mail.shape seat.actor → place_of mail.shape seat.actor ≡ length logs
      → AreLeft mail kind (suc k) others → ((s : Pass) → In s left → In s others ⊎ (s ≡ seat))
      → AreLeaving mail kind (k + 1) (logs ++ seat.log ∷ []) others seats
  leaving_more others seat actor at later moves = record {
    left_are = rw add-one later;
    each = λ s inside. elim (are.each s inside) [
      | inl still ↦ elim (moves s still) [
        | inl stays ↦ inl stays
        | inr now ↦ inr (rw now (record {
          actor = actor;
          below = omega (arith, length_push logs seat.log);
          log = get_or_push logs seat.log [] (place_of mail.shape seat.actor) (sym at);
        }))
      ]
      | inr gone ↦ inr (record {
        actor = gone.actor;
        below = let low = gone.below in omega (arith, length_push logs seat.log);
        log = get_or_append_left logs (seat.log ∷ []) [] (place_of mail.shape s.actor) gone.below ∙ gone.log;
      })
    ];
  }

  -- at the end all are logged
  pub all_logged : k ≡ size mail.shape → (s : Pass) → In s seats → IsLogged mail.shape logs s
  all_logged end s inside = elim (are.each s inside) [
    | inl still ↦ elim (subst (In s) none still) [ ]
    | inr gone ↦ gone
  ]
    where
      none : left ≡ []
      none =
          let same = ap length (rw end at are.left_are).actors in
          let count = length-map left (λ (p : Pass). p.actor) in
          nil_from_length left (omega (arith, length-append (actors_of kind mail.shape) (map (λ (p : Pass). p.actor) left)))

-- the actor at a place
pub actor_inside : (shape : Shape) (place : ℕ) → place < size shape → IsActor shape (actor_at shape place)
actor_inside shape place inside =
    cond_both (nat_lt place shape.n) (Replica place) (Client (place - shape.n)) (IsActor shape) (ltb-true place shape.n)
    (λ e. omega (arith, inside, ltb-false place shape.n e))

-- one log and one node more
pub joined_more : (shape : Shape) (k : ℕ) (logs : List (List Entry)) (nodes : List Node) (who : Actor) (log : List Entry) (node : Node)
    → AreJoined shape k logs nodes → IsActor shape who → place_of shape who ≡ k → Plays shape who log node
    → AreJoined shape (k + 1) (logs ++ log ∷ []) (nodes ++ node ∷ [])
joined_more shape k logs nodes who log node are actor at plays = record {
  logged = omega (arith, length_push logs log);
  count = omega (arith, length_push nodes node);
  each = λ other inside below d. elim (cases_lt (place_of shape other) k) [
    | inl earlier ↦
        let in_logs : place_of shape other < length logs = omega arith in
        let in_nodes : place_of shape other < length nodes = omega arith in
        rw (get_or_append_left, get_or_append_left) (are.each other inside earlier d)
    | inr late ↦
        let last : place_of shape other ≡ k = omega arith in
        let same = same_place shape who other actor inside (at ∙ sym last) in
        rw (get_or_push logs log [] (place_of shape other) (cc), get_or_push nodes node d (place_of shape other) (cc), ← same) plays
  ];
}

-- ---- new seats

-- the passes of the actors at the first places
module _ (boxes : SharedBoxes) where
  new_length : (n : ℕ) → length (new_passes boxes n) ≡ n
  new_length zero = refl
  new_length (suc n) = let count = new_length n in omega (arith, length_push (new_passes boxes n) (new_pass boxes (actor_at boxes.shape n)))

  new_at : (n k : ℕ) (d : Pass) → k < n → slice_index_or (new_passes boxes n) k d ≡ new_pass boxes (actor_at boxes.shape k)
  new_at zero k d less = absurd (omega (arith, less))
  new_at (suc n) k d less = elim (cases_lt k n) [
    | inl early ↦
        get_or_append_left (new_passes boxes n) (new_pass boxes (actor_at boxes.shape n) ∷ []) d k (omega (arith, new_length n)) ∙ new_at n k d early
    | inr late ↦
        let same : n ≡ k = omega arith in
        rw (← same) (get_or_push (new_passes boxes n) (new_pass boxes (actor_at boxes.shape n)) d n (new_length n))
  ]

  -- the next of them
  pub record IsNextPass (before : List Pass) (pass : Pass) : Type 0 where
    pub inside : length before < size boxes.shape
    pub is : pass ≡ new_pass boxes (actor_at boxes.shape (length before))

  pub next_pass : (before after : List Pass) (pass : Pass) → before ++ pass ∷ after ≡ new_passes boxes (size boxes.shape) → IsNextPass before pass
  next_pass before after pass e =
      let count = ap length e in
      let inside : length before < size boxes.shape = omega (arith, count, new_length (size boxes.shape), length-append before (pass ∷ after)) in
      record { inside = inside; is = cc (get_or-append_seam before pass after pass, new_at (size boxes.shape) (length before) pass inside) }

  -- an actor at a later place is another
  pub later_apart : (before : List Pass) (pass : Pass) (place : ℕ) → IsNextPass before pass → length (before ++ pass ∷ []) ≤ place → place < size boxes.shape
      → actor_at boxes.shape place ≢ pass.actor
  later_apart before pass place next above inside e =
      let here_is = place_of_actor boxes.shape (length before) next.inside in
      let there_is = place_of_actor boxes.shape place inside in
      let same : place ≡ length before = cc in
      omega (arith, length_push before pass)

-- the seats of a kind, one for each of these passes that is of an actor of the kind
abbrev pub kept : (Shape → Actor → Bool) → Shape → List Pass → List Pass
kept kind shape passes = flat_map (λ (pass : Pass). pass_if (kind shape pass.actor) pass) passes

pub kept_more : (kind : Shape → Actor → Bool) (shape s : Shape) (passes seats later : List Pass) (pass : Pass) → s ≡ shape → seats ≡ kept kind shape passes
    → later ≡ seats ++ pass_if (kind s pass.actor) pass → later ≡ kept kind shape (passes ++ pass ∷ [])
kept_more kind shape s passes seats later pass same are e = cc (flat_map_more (λ (p : Pass). pass_if (kind shape p.actor) p) [] passes pass)

-- for the new passes
pub kept_all : (kind : Shape → Actor → Bool) (boxes : SharedBoxes) (n : ℕ)
    → kept kind boxes.shape (new_passes boxes n) ≡ map (new_pass boxes) (actors_below kind boxes.shape n)
kept_all kind boxes zero = refl
kept_all kind boxes (suc n) =
    let a = actor_at boxes.shape n in
    let b = kind boxes.shape a in
    let more = kept_more kind boxes.shape boxes.shape (new_passes boxes n) _ _ (new_pass boxes a) refl refl refl in
    cc (more, kept_all kind boxes n, by_kind b a, map-append (new_pass boxes) (actors_below kind boxes.shape n) (actor_if b a))
  where
    by_kind : (b : Bool) (a : Actor) → pass_if b (new_pass boxes a) ≡ map (new_pass boxes) (actor_if b a)
    by_kind true a = refl
    by_kind false a = refl
